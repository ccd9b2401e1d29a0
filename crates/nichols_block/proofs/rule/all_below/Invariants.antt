use Rattle.std.proofs.Common.{◌≡◌, map}
use Rattle.nichols_tensor.specs.Words.{up_to}
use Rattle.nichols_value.specs.Block.{lower_basis}
use Rattle.nichols_block.proofs.rule.all_below.Given as goal

abbrev pub invariant-loop-b : goal.invariant-loop-b
invariant-loop-b l = l.below.items ≡ map (lower_basis l.braid l.key.degree l.key.product) (up_to l.b)
