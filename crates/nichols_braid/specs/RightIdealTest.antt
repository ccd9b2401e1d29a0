-- Tests of what vanishes in the algebra, degree by degree, that a letter from the right keeps.
use Rattle.std.specs.Prelude.{◌≡◌, ℕ, suc, Bool, true}
use Rattle.nichols_tensor.specs.Combination.{Combination}
use Rattle.nichols_tensor.specs.Words.{IsOver, HasDegree}
use Rattle.nichols_braid.specs.Braid.{BraidValue, IsLetter}
use Rattle.nichols_braid.specs.RightProduct.{times_letter}
use Rattle.nichols_braid.specs.LinearTest.{IsLinearTest}

-- what vanishes is a linear subspace in each degree, and with f, of degree m, `f x_b` vanishes for each letter b
pub record IsRightIdealTest (braid : BraidValue) (vanishes : ℕ → Combination → Bool) : Type 0 where
  pub linear : (m : ℕ) → IsLinearTest braid.field (vanishes m)
  pub right : (m : ℕ) (f : Combination) (b : ℕ) → HasDegree m f → IsOver braid.letters f → IsLetter braid b → vanishes m f ≡ true → vanishes (suc m) (times_letter f b) ≡ true
