-- Normal forms of elements of one block, as sums over its least words.
use Rattle.std.specs.Prelude.{◌≡◌, ℕ, List, [], ◌∷◌, ◌++◌, length, map}
use Rattle.nichols_tensor.specs.Combination.{Combination, HasSameValues, single, linear_map}
use Rattle.nichols_tensor.specs.Words.{HasDegree, IsOver}
use Rattle.nichols_braid.specs.Braid.{BraidValue}
use Rattle.nichols_braid.specs.Kernel.{is_killed}
use Rattle.nichols_braid.specs.Least.{normal_form}
use Rattle.nichols_braid.specs.Product.{product_of}
use Rattle.nichols_value.specs.Block.{block_basis}
use Rattle.nichols_reduce.specs.Sums.{combination_of}

-- f w: the word w put behind each word
abbrev pub followed_by_word : Combination → List ℕ → Combination
followed_by_word f w = map (λ t. record { word = t.word ++ w; coefficient = t.coefficient }) f

-- f x_b, with the normal form of each of its words, which have degree m
abbrev pub followed_by_letter : BraidValue → ℕ → Combination → ℕ → Combination
followed_by_letter braid m f b = linear_map braid.field (λ u. normal_form is_killed braid m (single (u ++ b ∷ []))) f

-- the sums over the least words of the block of degree m and product g are those of the normal form of f
pub record AreSumsOf (braid : BraidValue) (m : ℕ) (g : List ℕ) (f : Combination) (sums : List ℕ) : Type 0 where
  pub width : length sums ≡ length (block_basis braid m g)
  pub values : HasSameValues braid.field (combination_of braid.field (block_basis braid m g) sums) (normal_form is_killed braid m f)

-- the sums over the least words of a word's block are those of its normal form
abbrev pub IsFormOf : BraidValue → List ℕ → List ℕ → Type 0
IsFormOf braid w sums = AreSumsOf braid (length w) (product_of braid w) (single w) sums

-- where the old sums, in the block of degree m and product g, are those of an element f, the new ones are those of `f w`, in the
-- block of degree n and product h; there is one for each of its least words
pub record AreFollowed (braid : BraidValue) (m : ℕ) (g old w : List ℕ) (n : ℕ) (h new : List ℕ) : Type 0 where
  pub width : length new ≡ length (block_basis braid n h)
  pub sums : (f : Combination) → HasDegree m f → IsOver braid.letters f → AreSumsOf braid m g f old → AreSumsOf braid n h (followed_by_word f w) new
