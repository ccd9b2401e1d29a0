use Rattle.nichols_block.proofs.TestedValues.{HasValues}
use Rattle.nichols_block.proofs.tests.values_below.Given as goal

abbrev pub invariant-loop-a : goal.invariant-loop-a
invariant-loop-a l = HasValues l.braid l.limit l.m l.key.product l.a l.lower.items
