-- Linear maps of combinations.
use Rattle.std.specs.Prelude.{ℕ, ◌++◌}
use Rattle.nichols_field.specs.Field.{FieldValue}
use Rattle.nichols_tensor.specs.Combination.{Combination, HasSameValues, scalar_multiple}

-- the map sees the values of a combination alone, and keeps sums and multiples
pub record IsLinearMap (field : FieldValue) (image : Combination → Combination) : Type 0 where
  pub sees_values : (f g : Combination) → HasSameValues field f g → HasSameValues field (image f) (image g)
  pub keeps_sums : (f g : Combination) → HasSameValues field (image (f ++ g)) (image f ++ image g)
  pub keeps_multiples : (c : ℕ) (f : Combination) → HasSameValues field (image (scalar_multiple field c f)) (scalar_multiple field c (image f))
