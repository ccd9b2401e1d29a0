-- What the laws of the cover say.
use Rattle.std.specs.Prelude.{◌≡◌, ◌↔◌, ◌+◌, ◌^◌, ℕ, suc, true, List}
use Rattle.std.specs.List.{AllByRecursion, Contains}
use Rattle.nichols_field.specs.Field.{FieldValue, IsField}
use Rattle.nichols_tensor.specs.Combination.{Combination, AllAmong}
use Rattle.nichols_tensor.specs.Span.{IsSpanned, IsGreatestNumber}
use Rattle.nichols_tensor.specs.Words.{IsOver, HasDegree}
use Rattle.nichols_braid.specs.Braid.{BraidValue, IsBraid}
use Rattle.nichols_braid.specs.Kernel.{IsInKernel, is_in_kernel}
use Rattle.nichols_braid.specs.Least.{candidates, relations}
use Rattle.nichols_braid.specs.RightIdealTest.{IsRightIdealTest}
use Rattle.nichols_cover.specs.Cover.{cover_dimension}
use Rattle.nichols_cover.specs.Ideal.{IsBetween, in_ideal, generators}
use Rattle.nichols_cover.specs.Products.{IsProduct}

-- a combination of words of two of n letters
abbrev pub IsQuadratic : ℕ → Combination → Type 0
IsQuadratic n r = HasDegree 2 r × IsOver n r

-- a combination is in the span of all u r v of degree m, for r of a list
abbrev pub IsInIdeal : FieldValue → ℕ → List Combination → ℕ → Combination → Type 0
IsInIdeal field n rs m f = IsSpanned field (IsBetween n (Contains rs) m) f

-- the same for all r in the kernel of degree 2
abbrev pub IsInKernelIdeal : BraidValue → ℕ → Combination → Type 0
IsInKernelIdeal braid m f = IsSpanned braid.field (IsBetween braid.letters (λ r. IsQuadratic braid.letters r × IsInKernel braid r) m) f

-- the test of the ideal says yes exactly of what is in it
abbrev pub IdealIsDecided : Type 0
IdealIsDecided = (rs : List Combination) (braid : BraidValue) → IsField braid.field → (m : ℕ) (f : Combination) → (in_ideal rs braid m f ≡ true) ↔ IsInIdeal braid.field braid.letters rs m f

-- it is, degree by degree, a linear subspace, kept by a letter from the right
abbrev pub IdealIsRightIdeal : Type 0
IdealIsRightIdeal = (rs : List Combination) (braid : BraidValue) → IsField braid.field → IsRightIdealTest braid (in_ideal rs braid)

-- what combinations of candidates have of the ideal is spanned by the products u r alone, for least words u two degrees below, each
-- brought to candidates
abbrev pub ProductsOfLeastWordsSuffice : Type 0
ProductsOfLeastWordsSuffice =
    (rs : List Combination) (braid : BraidValue) → IsField braid.field → AllByRecursion (IsQuadratic braid.letters) rs → (m : ℕ) (f : Combination) → AllAmong f (candidates (in_ideal rs) braid (suc (suc m))) →
    (in_ideal rs braid (suc (suc m)) f ≡ true) ↔ IsSpanned braid.field (IsProduct rs braid m) f

-- the dimension in degree m and d are n ^ m together exactly where d is the greatest number of independent combinations in the span of
-- all u r v of degree m
abbrev pub DimensionIsCodimension : Type 0
DimensionIsCodimension =
    (field : FieldValue) → IsField field → (n : ℕ) (rs : List Combination) → AllByRecursion (IsQuadratic n) rs → (m d : ℕ) →
    IsGreatestNumber field (IsInIdeal field n rs m) d ↔ (cover_dimension field n rs m + d ≡ n ^ m)

-- all r in the kernel of degree 2 give the ideal that the relations of degree 2 give
abbrev pub RelationsGiveTheKernelIdeal : Type 0
RelationsGiveTheKernelIdeal =
    (braid : BraidValue) → IsBraid braid → (m : ℕ) (f : Combination) →
    IsInKernelIdeal braid m f ↔ IsInIdeal braid.field braid.letters (generators braid.field (relations is_in_kernel braid 2)) m f

-- so the dimension of a braid's cover is n ^ m less the greatest number of independent combinations in the span of all u r v of degree
-- m, for r in the kernel of degree 2
abbrev pub CoverOfABraid : Type 0
CoverOfABraid =
    (braid : BraidValue) → IsBraid braid → (m d : ℕ) →
    IsGreatestNumber braid.field (IsInKernelIdeal braid m) d ↔ (cover_dimension braid.field braid.letters (generators braid.field (relations is_in_kernel braid 2)) m + d ≡ braid.letters ^ m)
