-- What the laws of the products of one length say, with those of leading letters and of rows.
use Rattle.std.specs.Prelude.{◌≡◌, ◌↔◌, ◌≤◌, ℕ, suc, List, [], ◌∷◌, ◌++◌, map, filter, find, length, unwrap_or}
use Rattle.std.specs.List.{flat_map, sum_by, Contains, IsDistinct}
use Rattle.nichols_tensor.specs.Combination.{same_letters}
use Rattle.nichols_tensor.specs.Words.{up_to, words, IsWordOver}
use Rattle.nichols_tensor.specs.WordOrder.{IsRising}
use Rattle.nichols_braid.specs.Braid.{BraidValue, IsBraid, IsLetter}
use Rattle.nichols_braid.specs.Kernel.{Vanishing}
use Rattle.nichols_braid.specs.Least.{basis}
use Rattle.nichols_braid.specs.Product.{product_of, has_product, product_after, product_before}
use Rattle.nichols_braid.specs.Products.{each_once, products, rows, leading}

-- the product after a letter of the product of a word is that of the word with the letter behind
abbrev pub ProductAfterALetter : Type 0
ProductAfterALetter = (braid : BraidValue) → IsBraid braid → (w : List ℕ) (a : ℕ) → IsLetter braid a → product_after braid a (product_of braid w) ≡ product_of braid (w ++ a ∷ [])

-- the leading letter of a is a letter with the same map, and no letter with that map is before it
abbrev pub LeadingLetterIsFirst : Type 0
LeadingLetterIsFirst =
    (braid : BraidValue) (a : ℕ) → IsLetter braid a → IsLetter braid (leading braid a) × (product_of braid (leading braid a ∷ []) ≡ product_of braid (a ∷ []))
    × ((b : ℕ) → IsLetter braid b → product_of braid (b ∷ []) ≡ product_of braid (a ∷ []) → leading braid a ≤ b)

-- the list of degree m has the products of the words of m letters, and no others
abbrev pub ProductsAreOfWords : Type 0
ProductsAreOfWords =
    (braid : BraidValue) (m : ℕ) (g : List ℕ) → Contains (products braid m) g ↔ ((w : List ℕ) × (length w ≡ m) × IsWordOver braid.letters w × (product_of braid w ≡ g))

-- none of them twice
abbrev pub ProductsAreDistinct : Type 0
ProductsAreDistinct = (braid : BraidValue) (m : ℕ) → IsDistinct same_letters (products braid m)

-- the first word of m letters that has a product
abbrev pub first_word : BraidValue → ℕ → List ℕ → List ℕ
first_word braid m g = unwrap_or (find (has_product braid g) (words braid.letters m)) []

-- they stand in the order of their first words
abbrev pub FirstWordsRise : Type 0
FirstWordsRise = (braid : BraidValue) (m : ℕ) → IsRising (map (first_word braid m) (products braid m))

-- the products of the next degree are those after each letter, of each product in turn, each once
abbrev pub NextProducts : Type 0
NextProducts =
    (braid : BraidValue) → IsBraid braid → (m : ℕ) → products braid (suc m) ≡ each_once (flat_map (λ g. map (λ a. product_after braid a g) (up_to braid.letters)) (products braid m))

-- the rows of a product are the least words of the degree before with a letter behind that have it
abbrev pub RowsOfAProduct : Type 0
RowsOfAProduct =
    (vanishes : Vanishing) (braid : BraidValue) (m : ℕ) (g : List ℕ) →
    rows vanishes braid (suc m) g ≡ sum_by (λ u. length (filter (λ a. has_product braid g (u ++ a ∷ [])) (up_to braid.letters))) (basis vanishes braid m)

-- by their last letters, they are the least words of the degree before that have the product before the letter
abbrev pub RowsByLetters : Type 0
RowsByLetters =
    (vanishes : Vanishing) (braid : BraidValue) → IsBraid braid → (m : ℕ) (g : List ℕ) → length g ≡ braid.letters →
    rows vanishes braid (suc m) g ≡ sum_by (λ a. length (filter (has_product braid (product_before braid a g)) (basis vanishes braid m))) (up_to braid.letters)
