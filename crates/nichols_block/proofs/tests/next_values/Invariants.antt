use Rattle.std.proofs.Common.{suc}
use Rattle.nichols_block.specs.Tested.{AreRightFor}
use Rattle.nichols_block.proofs.tests.next_values.Given as goal

abbrev pub invariant-loop-k : goal.invariant-loop-k
invariant-loop-k l = AreRightFor l.braid l.limit (suc l.m) l.next l.k l.made.items
