-- Which combinations of a degree are zero in the Nichols algebra, in two readings.
use Rattle.std.specs.Prelude.{ℕ, zero, suc, Bool}
use Rattle.std.specs.List.{list_all}
use Rattle.nichols_tensor.specs.Combination.{Combination, IsZero, is_zero}
use Rattle.nichols_tensor.specs.Words.{up_to}
use Rattle.nichols_braid.specs.Braid.{BraidValue, IsLetter}
use Rattle.nichols_braid.specs.Symmetrizer.{symmetrizer_image}
use Rattle.nichols_braid.specs.Derivation.{skew_derivative}

-- a test of which combinations of degree m are zero in the algebra
abbrev pub Vanishing : Type 0
Vanishing = BraidValue → ℕ → Combination → Bool

-- the quantum symmetrizer sends the combination to zero
abbrev pub IsInKernel : BraidValue → Combination → Type 0
IsInKernel braid f = IsZero braid.field (symmetrizer_image braid f)

-- each chain of m skew derivations sends the combination, of degree m, to zero
abbrev pub IsKilled : BraidValue → ℕ → Combination → Type 0
IsKilled braid zero f = IsZero braid.field f
IsKilled braid (suc m) f = (a : ℕ) → IsLetter braid a → IsKilled braid m (skew_derivative braid a f)

-- whether the quantum symmetrizer does
unfoldable pub is_in_kernel : Vanishing
is_in_kernel braid m f = is_zero braid.field (symmetrizer_image braid f)

-- whether the derivations do
unfoldable pub is_killed : Vanishing
is_killed braid zero f = is_zero braid.field f
is_killed braid (suc m) f = list_all (λ a. is_killed braid m (skew_derivative braid a f)) (up_to braid.letters)
