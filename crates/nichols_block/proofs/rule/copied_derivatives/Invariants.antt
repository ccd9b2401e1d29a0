use Rattle.std.proofs.Common.{◌≡◌, map, take}
use Rattle.nichols_block.proofs.RuleParts.{least_in}
use Rattle.nichols_block.proofs.rule.copied_derivatives.Given as goal

abbrev pub invariant-loop-own : goal.invariant-loop-own
invariant-loop-own l = l.least.items ≡ map (least_in l.places) (take l.own-index l.derivs)
