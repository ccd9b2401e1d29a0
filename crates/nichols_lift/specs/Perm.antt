-- Permutations of few places.
use Rattle.std.specs.Prelude.{ℕ, ◌≤◌, List, length}
use Rattle.nichols_braid.specs.Rearrangement.{IsRearrangement}
use Rattle.nichols_lift.specs.declared.TheConstants.{PLACE_LIMIT}

-- end places of no more places than are kept, a rearrangement of 1 to their number
pub record IsPerm (ends : List ℕ) : Type 0 where
  pub short : length ends ≤ PLACE_LIMIT
  pub rearrangement : IsRearrangement (length ends) ends
