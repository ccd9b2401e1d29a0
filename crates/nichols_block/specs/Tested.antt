-- What the tests say of the values of a degree.
use Rattle.std.specs.Prelude.{◌≡◌, ◌<◌, ℕ, List, length, slice_index_or}
use Rattle.nichols_tensor.specs.Positions.{word_at}
use Rattle.nichols_braid.specs.Braid.{BraidValue}
use Rattle.nichols_value.specs.declared.shared.Shared.{Shared}
use Rattle.nichols_value.specs.Value.{IsRight}
use Rattle.nichols_value.specs.Worth.{worth}

-- one value for each of the first products of a list, right for its block of degree m
pub record AreRightFor (braid : BraidValue) (limit m : ℕ) (gs : List (List ℕ)) (n : ℕ) (values : List Shared) : Type 0 where
  pub count : length values ≡ n
  pub each : (k : ℕ) (v : Shared) → k < n → v ≡ slice_index_or values k v → IsRight braid limit m (word_at gs k) (worth v)
