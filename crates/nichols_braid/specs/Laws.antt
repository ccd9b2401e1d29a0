-- What the laws of this crate say.
use Rattle.std.specs.Prelude.{◌≡◌, ℕ, suc, true, [], ◌++◌, if◌then◌else◌, nat_eq}
use Rattle.nichols_tensor.specs.Combination.{Combination, HasSameValues, scalar_multiple}
use Rattle.nichols_braid.specs.Braid.{BraidValue, IsBraid, IsLetter, act, scalar}
use Rattle.nichols_braid.specs.Symmetrizer.{permutations, symmetrizer_image}
use Rattle.nichols_braid.specs.Rearrangement.{HoldsEachOnce}
use Rattle.nichols_braid.specs.Derivation.{skew_derivative}
use Rattle.nichols_braid.specs.Kernel.{IsKilled, IsInKernel, is_killed, is_in_kernel}
use Rattle.nichols_braid.specs.RightProduct.{times_letter}
use Rattle.nichols_braid.specs.LinearMap.{IsLinearMap}
use Rattle.nichols_braid.specs.LinearTest.{IsLinearTest}
use Rattle.nichols_braid.specs.RightIdealTest.{IsRightIdealTest}

-- the quantum symmetrizer is linear
abbrev pub SymmetrizerIsLinear : Type 0
SymmetrizerIsLinear = (braid : BraidValue) → IsBraid braid → IsLinearMap braid.field (symmetrizer_image braid)

-- each skew derivation is linear
abbrev pub DerivationsAreLinear : Type 0
DerivationsAreLinear = (braid : BraidValue) → IsBraid braid → (a : ℕ) → IsLinearMap braid.field (skew_derivative braid a)

-- the skew derivation from the right end: `∂_a(f x_b) = [a = b] f + q(a, b) ∂_a(f) x_{a ▷ b}`, where `[a = b]` is 1 or 0
abbrev pub DerivationRule : Type 0
DerivationRule =
    (braid : BraidValue) → IsBraid braid → (a b : ℕ) (f : Combination) →
    HasSameValues braid.field (skew_derivative braid a (times_letter f b)) ((if nat_eq a b then f else []) ++ scalar_multiple braid.field (scalar braid a b) (times_letter (skew_derivative braid a f) (act braid a b)))

-- where f of degree m is killed by the derivations, so is `f x_b`, for each letter b
abbrev pub KilledIsRightIdeal : Type 0
KilledIsRightIdeal =
    (braid : BraidValue) → IsBraid braid → (m : ℕ) (f : Combination) (b : ℕ) → IsLetter braid b → IsKilled braid m f → IsKilled braid (suc m) (times_letter f b)

-- the test of being killed says yes exactly where a combination is killed
abbrev pub KilledIsDecided : Type 0
KilledIsDecided =
    (braid : BraidValue) → IsBraid braid → (m : ℕ) (f : Combination) → (is_killed braid m f ≡ true → IsKilled braid m f) × (IsKilled braid m f → is_killed braid m f ≡ true)

-- the test of the kernel says yes exactly where the symmetrizer sends a combination to zero
abbrev pub KernelIsDecided : Type 0
KernelIsDecided =
    (braid : BraidValue) → IsBraid braid → (m : ℕ) (f : Combination) → (is_in_kernel braid m f ≡ true → IsInKernel braid f) × (IsInKernel braid f → is_in_kernel braid m f ≡ true)

-- what is killed is a linear subspace
abbrev pub KilledIsLinear : Type 0
KilledIsLinear = (braid : BraidValue) → IsBraid braid → (m : ℕ) → IsLinearTest braid.field (is_killed braid m)

-- the kernel is a linear subspace
abbrev pub KernelIsLinear : Type 0
KernelIsLinear = (braid : BraidValue) → IsBraid braid → (m : ℕ) → IsLinearTest braid.field (is_in_kernel braid m)

-- the list of permutations of m places holds each rearrangement of 1 to m exactly once
abbrev pub PermutationsHoldEachOnce : Type 0
PermutationsHoldEachOnce = (m : ℕ) → HoldsEachOnce m (permutations m)

-- what is killed is, degree by degree, a linear subspace, kept by a letter from the right
abbrev pub KilledIsIdealFromRight : Type 0
KilledIsIdealFromRight = (braid : BraidValue) → IsBraid braid → IsRightIdealTest braid (is_killed braid)
