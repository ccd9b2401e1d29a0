use Rattle.nichols_lift.proofs.Bubble.{inversions}
use Rattle.nichols_lift.proofs.Leading.{IsLeading}
use Rattle.nichols_lift.proofs.lifting.lift.Given as goal

abbrev pub invariant-loop-place : goal.invariant-loop-place
invariant-loop-place l = IsLeading l.braid l.perm l.word l.left l.crossed l.scalar

abbrev pub decreases-loop-place : goal.decreases-loop-place
decreases-loop-place l = inversions l.left
