-- What the laws of products say.
use Rattle.std.specs.Prelude.{◌≡◌, ℕ, List, [], ◌∷◌, ◌++◌}
use Rattle.std.specs.List.{AllByRecursion}
use Rattle.nichols_tensor.specs.Combination.{Term, Combination}
use Rattle.nichols_tensor.specs.Words.{IsWordOver, IsOver}
use Rattle.nichols_braid.specs.Braid.{BraidValue, IsBraid, IsLetter, act}
use Rattle.nichols_braid.specs.Crossing.{cross, crossed_term}
use Rattle.nichols_braid.specs.Symmetrizer.{lifts}
use Rattle.nichols_braid.specs.Derivation.{derived_word}
use Rattle.nichols_braid.specs.Kernel.{IsKilled, IsInKernel}
use Rattle.nichols_braid.specs.Rearrangement.{IsRearrangement}
use Rattle.nichols_braid.specs.Product.{product_of, unact, product_before, part_of_product}

-- the product of a word over the letters is a bijection of the letters
abbrev pub ProductsAreBijections : Type 0
ProductsAreBijections = (braid : BraidValue) → IsBraid braid → (w : List ℕ) → IsWordOver braid.letters w → IsRearrangement braid.letters (product_of braid w)

-- the letter that the search finds is the one whose image under a's map is j
abbrev pub UnactIsBeforeAct : Type 0
UnactIsBeforeAct = (braid : BraidValue) → IsBraid braid → (a j : ℕ) → IsLetter braid a → IsLetter braid j → IsLetter braid (unact braid a j) × (act braid a (unact braid a j) ≡ j) × (unact braid a (act braid a j) ≡ j)

-- the product of a word with a letter behind, before that letter, is the product of the word
abbrev pub ProductBeforeALetter : Type 0
ProductBeforeALetter =
    (braid : BraidValue) → IsBraid braid → (w : List ℕ) (a : ℕ) → IsWordOver braid.letters w → IsLetter braid a → product_before braid a (product_of braid (w ++ a ∷ [])) ≡ product_of braid w

-- a crossing keeps the product of a word
abbrev pub CrossingKeepsProduct : Type 0
CrossingKeepsProduct = (braid : BraidValue) → IsBraid braid → (i : ℕ) (w : List ℕ) → IsWordOver braid.letters w → product_of braid (cross braid i w) ≡ product_of braid w

-- so do the crossings at any list of places
abbrev pub CrossingsKeepProduct : Type 0
CrossingsKeepProduct =
    (braid : BraidValue) → IsBraid braid → (places : List ℕ) (t : Term) → IsWordOver braid.letters t.word → product_of braid (crossed_term braid places t).word ≡ product_of braid t.word

-- each lift of a word has the product of the word
abbrev pub LiftsKeepProduct : Type 0
LiftsKeepProduct = (braid : BraidValue) → IsBraid braid → (w : List ℕ) → IsWordOver braid.letters w → AllByRecursion (λ t. product_of braid t.word ≡ product_of braid w) (lifts braid w)

-- each word of the derivative by a has, with a behind, the product of the word
abbrev pub DerivativesKeepProduct : Type 0
DerivativesKeepProduct =
    (braid : BraidValue) → IsBraid braid → (a : ℕ) (w : List ℕ) → IsLetter braid a → IsWordOver braid.letters w →
    AllByRecursion (λ t. product_of braid (t.word ++ a ∷ []) ≡ product_of braid w) (derived_word braid a w)

-- so it has itself the product of the word before a
abbrev pub ProductsOfDerivatives : Type 0
ProductsOfDerivatives =
    (braid : BraidValue) → IsBraid braid → (a : ℕ) (w : List ℕ) → IsLetter braid a → IsWordOver braid.letters w →
    AllByRecursion (λ t. product_of braid t.word ≡ product_before braid a (product_of braid w)) (derived_word braid a w)

-- a combination is in the kernel of the symmetrizer exactly where its part of each product is
abbrev pub KernelSplitsByProduct : Type 0
KernelSplitsByProduct =
    (braid : BraidValue) → IsBraid braid → (f : Combination) → IsOver braid.letters f →
    (IsInKernel braid f → (g : List ℕ) → IsInKernel braid (part_of_product braid g f)) × (((g : List ℕ) → IsInKernel braid (part_of_product braid g f)) → IsInKernel braid f)

-- a combination is killed by the derivations exactly where its part of each product is
abbrev pub KilledSplitsByProduct : Type 0
KilledSplitsByProduct =
    (braid : BraidValue) → IsBraid braid → (m : ℕ) (f : Combination) → IsOver braid.letters f →
    (IsKilled braid m f → (g : List ℕ) → IsKilled braid m (part_of_product braid g f)) × (((g : List ℕ) → IsKilled braid m (part_of_product braid g f)) → IsKilled braid m f)
