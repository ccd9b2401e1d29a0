use Rattle.std.proofs.Common.{suc}
use Rattle.nichols_reduce.proofs.WholeLevels.{AreWholeRules}
use Rattle.nichols_reduce.proofs.tests.next_values.Given as goal

abbrev pub invariant-loop-k : goal.invariant-loop-k
invariant-loop-k l = AreWholeRules l.levels.braid (suc l.levels.last) l.k l.next l.values.items
