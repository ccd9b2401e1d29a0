-- What the law of wrong places in a list of letters says.
use Rattle.std.specs.Prelude.{◌≡◌, ◌≢◌, ◌<◌, ◌≤◌, ◌⊎◌, ◌↔◌, ℕ, suc, List, length, map, ℤ, pos, None, Some}
use Rattle.nichols_tensor.specs.Words.{IsLetterOf}
use Rattle.nichols_braid.specs.GivenTables.{letter_of, integer_in}
use Rattle.nichols_braid.specs.Order.{IsOrder, order_fault}

-- the entry at place k, from 1, is an earlier entry
abbrev pub IsRepeatedAt : List ℤ → ℕ → Type 0
IsRepeatedAt list k = (j : ℕ) × (1 ≤ j) × (j < k) × (integer_in list j ≡ integer_in list k)

-- place k is wrong: its entry is missing, is none of n letters, or is an earlier entry; or it is surplus, behind n entries
abbrev pub IsWrongPlace : ℕ → List ℤ → ℕ → Type 0
IsWrongPlace n list k =
    (IsLetterOf n k × ((length list < k) ⊎ (((a : ℕ) → IsLetterOf n a → pos a ≢ integer_in list k) ⊎ IsRepeatedAt list k)))
    ⊎ ((k ≡ suc n) × (n < length list))

-- the place that is told is wrong, and none before it is; and none is told exactly where the list is an order of n letters
pub record IsToldRightly (n : ℕ) (list : List ℤ) : Type 0 where
  pub told : (k : ℕ) → (order_fault n list ≡ Some k) ↔ (IsWrongPlace n list k × ((j : ℕ) → j < k → IsWrongPlace n list j → ⊥))
  pub order : (order_fault n list ≡ None) ↔ (IsOrder n (map letter_of list) × (map pos (map letter_of list) ≡ list))

abbrev pub LeastWrongPlacesAreTold : Type 0
LeastWrongPlacesAreTold = (n : ℕ) → 1 ≤ n → (list : List ℤ) → IsToldRightly n list
