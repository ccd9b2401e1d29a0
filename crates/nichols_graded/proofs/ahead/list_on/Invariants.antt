use Rattle.std.proofs.Common.{length, ◌-◌}
use Rattle.nichols_graded.specs.Ahead.{AreOpen}
use Rattle.nichols_graded.proofs.ahead.list_on.Given as goal

abbrev pub invariant-loop-alloc : goal.invariant-loop-alloc
invariant-loop-alloc l = AreOpen l.braid l.degree_limit l.first l.lists.items

abbrev pub decreases-loop-alloc : goal.decreases-loop-alloc
decreases-loop-alloc l = l.most - length l.lists.items
