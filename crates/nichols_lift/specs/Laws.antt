-- What the laws of this crate say.
use Rattle.std.specs.Prelude.{◌≡◌, ℕ, suc, ◌≤◌, true, List, [], ◌++◌, length}
use Rattle.std.specs.List.{flat_map, Contains}
use Rattle.nichols_tensor.specs.Combination.{Combination, HasSameValues}
use Rattle.nichols_tensor.specs.Product.{product}
use Rattle.nichols_tensor.specs.Words.{up_to, IsWordOver, IsOver, HasDegree}
use Rattle.nichols_braid.specs.Braid.{BraidValue, IsBraid, IsLetter}
use Rattle.nichols_braid.specs.Crossing.{crossed_term}
use Rattle.nichols_braid.specs.Lift.{IsDescending, bubble, lift}
use Rattle.nichols_braid.specs.Symmetrizer.{symmetrizer_image}
use Rattle.nichols_braid.specs.Derivation.{skew_derivative}
use Rattle.nichols_braid.specs.Kernel.{Vanishing, IsInKernel, IsKilled}
use Rattle.nichols_braid.specs.Least.{is_least, basis, candidates}
use Rattle.nichols_braid.specs.RightIdealTest.{IsRightIdealTest}
use Rattle.nichols_braid.specs.LeftIdealTest.{IsLeftIdealTest}
use Rattle.nichols_braid.specs.RightProduct.{times_letter}
use Rattle.nichols_braid.specs.LeftProduct.{letter_times}
use Rattle.nichols_braid.specs.Rearrangement.{IsRearrangement}
use Rattle.nichols_lift.specs.ClosedForm.{closed_form}
use Rattle.nichols_lift.specs.Reading.{IsReading, HasOneReading}

-- the list that always takes the least place whose entry is greater than the next one is descending
abbrev pub LeastPlacesDescend : Type 0
LeastPlacesDescend = (ends : List ℕ) → IsDescending ends (bubble ends)

-- the lift of a permutation, at a word of its length, is the closed form, and the crossings of any descending list lead to it
abbrev pub ReducedListsAgree : Type 0
ReducedListsAgree =
    (braid : BraidValue) → IsBraid braid → (m : ℕ) (ends w : List ℕ) → IsRearrangement m ends → length w ≡ m → IsWordOver braid.letters w →
    (lift braid ends w ≡ closed_form braid ends w)
    × ((places : List ℕ) → IsDescending ends places → crossed_term braid places (record { word = w; coefficient = 1 }) ≡ lift braid ends w)

-- the quantum symmetrizer of m + 1 places is the sum, over all letters a, of that of m places after the skew derivation by a, with a put behind
abbrev pub SymmetrizerFactors : Type 0
SymmetrizerFactors =
    (braid : BraidValue) → IsBraid braid → (m : ℕ) (f : Combination) → HasDegree (suc m) f → IsOver braid.letters f →
    HasSameValues braid.field (symmetrizer_image braid f) (flat_map (λ a. times_letter (symmetrizer_image braid (skew_derivative braid a f)) a) (up_to braid.letters))

-- a combination of degree m is in the kernel of the symmetrizer exactly where all chains of m derivations kill it
abbrev pub KernelByDerivations : Type 0
KernelByDerivations =
    (braid : BraidValue) → IsBraid braid → (m : ℕ) (f : Combination) → HasDegree m f → IsOver braid.letters f → (IsInKernel braid f → IsKilled braid m f) × (IsKilled braid m f → IsInKernel braid f)

-- where f of degree m over the letters is in the kernel, so is `f x_b`, for each letter b
abbrev pub KernelIsRightIdeal : Type 0
KernelIsRightIdeal =
    (braid : BraidValue) → IsBraid braid → (m : ℕ) (f : Combination) (b : ℕ) → HasDegree m f → IsOver braid.letters f → IsLetter braid b → IsInKernel braid f → IsInKernel braid (times_letter f b)

-- where f of degree m over the letters is in the kernel, so is `x_b f`, for each letter b
abbrev pub KernelIsLeftIdeal : Type 0
KernelIsLeftIdeal =
    (braid : BraidValue) → IsBraid braid → (m : ℕ) (f : Combination) (b : ℕ) → HasDegree m f → IsOver braid.letters f → IsLetter braid b → IsInKernel braid f → IsInKernel braid (letter_times b f)

-- both products of f and g are in the kernel
pub record IsInKernelOnBothSides (braid : BraidValue) (f g : Combination) : Type 0 where
  pub first : IsInKernel braid (product braid.field f g)
  pub second : IsInKernel braid (product braid.field g f)

-- with f in the kernel, so is each product with f as a factor, for words of any lengths
abbrev pub KernelIsTwoSided : Type 0
KernelIsTwoSided = (braid : BraidValue) → IsBraid braid → (f g : Combination) → IsOver braid.letters f → IsOver braid.letters g → IsInKernel braid f → IsInKernelOnBothSides braid f g

-- the symmetrizer and the skew derivations give the same least words, bases, normal forms, candidates and relations
abbrev pub ReadingsAgree : Type 0
ReadingsAgree = (braid : BraidValue) → IsBraid braid → HasOneReading braid

-- in both readings what is zero in the algebra is, degree by degree, a linear subspace, kept by a letter from either side
abbrev pub ReadingsAreIdeals : Type 0
ReadingsAreIdeals =
    (braid : BraidValue) → IsBraid braid → (vanishes : Vanishing) → IsReading vanishes → IsRightIdealTest braid (vanishes braid) × IsLeftIdealTest braid (vanishes braid)

-- in both readings the empty word is least
abbrev pub EmptyWordIsLeast : Type 0
EmptyWordIsLeast = (braid : BraidValue) → IsBraid braid → (vanishes : Vanishing) → IsReading vanishes → is_least vanishes braid [] ≡ true

-- each prefix of a least word is least
abbrev pub PrefixesAreLeast : Type 0
PrefixesAreLeast =
    (braid : BraidValue) → IsBraid braid → (vanishes : Vanishing) → IsReading vanishes → (u v : List ℕ) → IsWordOver braid.letters (u ++ v) → is_least vanishes braid (u ++ v) ≡ true → is_least vanishes braid u ≡ true

-- each suffix of a least word is least
abbrev pub SuffixesAreLeast : Type 0
SuffixesAreLeast =
    (braid : BraidValue) → IsBraid braid → (vanishes : Vanishing) → IsReading vanishes → (u v : List ℕ) → IsWordOver braid.letters (u ++ v) → is_least vanishes braid (u ++ v) ≡ true → is_least vanishes braid v ≡ true

-- each least word of degree m is a candidate of degree m
abbrev pub LeastWordsAreCandidates : Type 0
LeastWordsAreCandidates =
    (braid : BraidValue) → IsBraid braid → (vanishes : Vanishing) → IsReading vanishes → (m : ℕ) (w : List ℕ) → length w ≡ m → IsWordOver braid.letters w → is_least vanishes braid w ≡ true → Contains (candidates vanishes braid m) w

-- after a degree with no least word every degree has none
abbrev pub EmptyDegreesStayEmpty : Type 0
EmptyDegreesStayEmpty =
    (braid : BraidValue) → IsBraid braid → (vanishes : Vanishing) → IsReading vanishes → (m n : ℕ) → m ≤ n → basis vanishes braid m ≡ [] → basis vanishes braid n ≡ []
