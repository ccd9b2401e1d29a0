-- What the laws of an order of the letters say.
use Rattle.std.specs.Prelude.{◌≡◌, ℕ, List, length, true}
use Rattle.std.specs.List.{AllByRecursion}
use Rattle.std.specs.declared.cmp.Ordering.TheVariants.{Less}
use Rattle.nichols_tensor.specs.Combination.{Combination, AllElements, single, minus}
use Rattle.nichols_tensor.specs.Words.{IsWordOver, IsOver, HasDegree}
use Rattle.nichols_braid.specs.Braid.{BraidValue, IsBraid, IsLetter, act, scalar}
use Rattle.nichols_braid.specs.Kernel.{Vanishing, is_in_kernel}
use Rattle.nichols_braid.specs.LeastLaws.{IsLeastWord}
use Rattle.nichols_braid.specs.Order.{IsOrder, rank_of, renamed_word, in_ranks, word_cmp_by, relabelled}
use Rattle.nichols_braid.specs.Symmetrizer.{symmetrizer_image}

-- the braid on ranks is a braid
abbrev pub RelabelledIsBraid : Type 0
RelabelledIsBraid = (braid : BraidValue) → IsBraid braid → (order : List ℕ) → IsOrder braid.letters order → IsBraid (relabelled order braid)

-- ranks act as their letters do, with the same scalars
abbrev pub RanksActAsLetters : Type 0
RanksActAsLetters =
    (braid : BraidValue) → IsBraid braid → (order : List ℕ) → IsOrder braid.letters order → (a b : ℕ) → IsLetter braid a → IsLetter braid b →
    (act (relabelled order braid) (rank_of order a) (rank_of order b) ≡ rank_of order (act braid a b))
    × (scalar (relabelled order braid) (rank_of order a) (rank_of order b) ≡ scalar braid a b)

-- the image of a relabelled combination under the quantum symmetrizer of the braid on ranks is the relabelled image
abbrev pub ImagesAreRelabelled : Type 0
ImagesAreRelabelled =
    (braid : BraidValue) → IsBraid braid → (order : List ℕ) → IsOrder braid.letters order → (f : Combination) → IsOver braid.letters f →
    symmetrizer_image (relabelled order braid) (in_ranks order f) ≡ in_ranks order (symmetrizer_image braid f)

-- so the kernels are one
abbrev pub KernelIsRelabelled : Type 0
KernelIsRelabelled =
    (braid : BraidValue) → IsBraid braid → (order : List ℕ) → IsOrder braid.letters order → (m : ℕ) (f : Combination) → IsOver braid.letters f →
    is_in_kernel (relabelled order braid) m (in_ranks order f) ≡ is_in_kernel braid m f

-- each word of f has the length of w, is a word over the letters and stands before w in the order of ranks
pub record IsOfEarlierWordsBy (order : List ℕ) (braid : BraidValue) (w : List ℕ) (f : Combination) : Type 0 where
  pub over : IsOver braid.letters f
  pub degree : HasDegree (length w) f
  pub earlier : AllByRecursion (λ t. word_cmp_by order t.word w ≡ Less) f

-- the word is congruent to no combination of the words of its length before it, in the order of ranks
abbrev pub IsLeastWordBy : Vanishing → List ℕ → BraidValue → List ℕ → Type 0
IsLeastWordBy vanishes order braid w =
    (f : Combination) → IsOfEarlierWordsBy order braid w f → AllElements braid.field f → vanishes braid (length w) (minus braid.field (single w) f) ≡ true → ⊥

-- a word is least by the order exactly where its word of ranks is least in the braid on ranks
abbrev pub LeastWordsAreRelabelled : Type 0
LeastWordsAreRelabelled =
    (braid : BraidValue) → IsBraid braid → (order : List ℕ) → IsOrder braid.letters order → (w : List ℕ) → IsWordOver braid.letters w →
    (IsLeastWordBy is_in_kernel order braid w → IsLeastWord is_in_kernel (relabelled order braid) (renamed_word (rank_of order) w))
    × (IsLeastWord is_in_kernel (relabelled order braid) (renamed_word (rank_of order) w) → IsLeastWordBy is_in_kernel order braid w)
