use Rattle.std.proofs.Common.{drop}
use Rattle.nichols_lift.proofs.Leading.{IsFollowing}
use Rattle.nichols_lift.proofs.lifting.lift_by.Given as goal

abbrev pub invariant-loop-place : goal.invariant-loop-place
invariant-loop-place l = IsFollowing l.braid l.perm l.word (drop l.place-index l.list) l.crossed l.scalar
