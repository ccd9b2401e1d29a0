-- Tests of combinations whose yes is a linear subspace.
use Rattle.std.specs.Prelude.{◌≡◌, ℕ, Bool, true, [], ◌++◌}
use Rattle.nichols_field.specs.Field.{FieldValue}
use Rattle.nichols_tensor.specs.Combination.{Combination, HasSameValues, scalar_multiple}

-- the test sees the values of a combination alone, holds of zero, and is kept by sums and multiples
pub record IsLinearTest (field : FieldValue) (test : Combination → Bool) : Type 0 where
  pub sees_values : (f g : Combination) → HasSameValues field f g → test f ≡ true → test g ≡ true
  pub holds_of_zero : test [] ≡ true
  pub keeps_sums : (f g : Combination) → test f ≡ true → test g ≡ true → test (f ++ g) ≡ true
  pub keeps_multiples : (c : ℕ) (f : Combination) → test f ≡ true → test (scalar_multiple field c f) ≡ true
