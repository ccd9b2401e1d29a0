use Rattle.std.proofs.Common.{◌≡◌, ℕ, ◌<◌, false, get_or}
use Rattle.nichols_braid.specs.Transpositions.{has_points_of}
use Rattle.nichols_braid.proofs.Numbered.{none}
use Rattle.nichols_braid.proofs.transposition.Transposition.number_in.Given as goal

abbrev pub invariant-loop-i : goal.invariant-loop-i
invariant-loop-i l = (k : ℕ) → k < l.i → has_points_of l.fn.self (get_or l.all k none) ≡ false
