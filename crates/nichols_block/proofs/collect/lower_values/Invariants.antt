use Rattle.nichols_block.proofs.CollectedValues.{HasRules}
use Rattle.nichols_block.proofs.collect.lower_values.Given as goal

abbrev pub invariant-loop-a : goal.invariant-loop-a
invariant-loop-a l = HasRules l.levels.braid l.levels.last l.key.product l.a l.lower.items
