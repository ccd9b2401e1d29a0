-- Rearrangements of the places.
use Rattle.std.specs.Prelude.{ℕ, List}
use Rattle.std.specs.List.{All, Contains, IsDistinct}
use Rattle.std.specs.List.Sorted.{IsPermutation}
use Rattle.nichols_tensor.specs.Combination.{same_letters}
use Rattle.nichols_tensor.specs.Words.{up_to}

-- the end places of a permutation of m places: each of 1 to m stands in the list once
abbrev pub IsRearrangement : ℕ → List ℕ → Type 0
IsRearrangement m ends = IsPermutation (up_to m) ends

-- the list holds each rearrangement of 1 to m exactly once
pub record HoldsEachOnce (m : ℕ) (all : List (List ℕ)) : Type 0 where
  pub rearrangements : All (IsRearrangement m) all
  pub each : (ends : List ℕ) → IsRearrangement m ends → Contains all ends
  pub once : IsDistinct same_letters all
