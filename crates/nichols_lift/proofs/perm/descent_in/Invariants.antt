use Rattle.std.proofs.Common.{◌≡◌, ◌-◌, drop}
use Rattle.nichols_braid.specs.Lift.{first_descent}
use Rattle.nichols_lift.proofs.Perms.{later}
use Rattle.nichols_lift.proofs.perm.descent_in.Given as goal

abbrev pub invariant-loop-i : goal.invariant-loop-i
invariant-loop-i l = later (l.i - 1) (first_descent (drop (l.i - 1) l.ends)) ≡ first_descent l.ends
