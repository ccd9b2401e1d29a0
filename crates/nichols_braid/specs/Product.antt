-- Products of words: the composites of the letters' maps (Andruskiewitsch and Graña, "From racks to pointed Hopf algebras").
use Rattle.std.specs.Prelude.{ℕ, ◌-◌, ◌≤◌, Bool, List, [], ◌∷◌, length, map, find, nat_eq, slice_index, unwrap_or}
use Rattle.nichols_tensor.specs.Combination.{Combination, same_letters}
use Rattle.nichols_tensor.specs.Parts.{part}
use Rattle.nichols_tensor.specs.Words.{up_to}
use Rattle.nichols_braid.specs.Braid.{BraidValue, act}
use Rattle.nichols_braid.specs.Rearrangement.{IsRearrangement}

-- where the product of a word sends a letter: the map of the last letter is applied first
abbrev pub product_image : BraidValue → List ℕ → ℕ → ℕ
product_image braid [] j = j
product_image braid (i ∷ w) j = act braid i (product_image braid w j)

-- the product of a word, as the list of the images of letters 1 to n
unfoldable pub product_of : BraidValue → List ℕ → List ℕ
product_of braid w = map (product_image braid w) (up_to braid.letters)

-- whether a word has this product
abbrev pub has_product : BraidValue → List ℕ → List ℕ → Bool
has_product braid g w = same_letters (product_of braid w) g

-- the letter that i's map sends to j
unfoldable pub unact : BraidValue → ℕ → ℕ → ℕ
unact braid i j = unwrap_or (find (λ c. nat_eq (act braid i c) j) (up_to braid.letters)) 0

-- the product before a letter: g after the inverse of the letter's map
unfoldable pub product_before : BraidValue → ℕ → List ℕ → List ℕ
product_before braid a g = map (λ j. slice_index g (unact braid a j - 1)) (up_to braid.letters)

-- the product after a letter: g after the letter's map
unfoldable pub product_after : BraidValue → ℕ → List ℕ → List ℕ
product_after braid a g = map (λ j. slice_index g (act braid a j - 1)) (up_to braid.letters)

-- a list of images that has each number up to its length once, and is not empty
abbrev pub IsProduct : List ℕ → Type 0
IsProduct g = (1 ≤ length g) × IsRearrangement (length g) g

-- the part of a combination on the words of product g
abbrev pub part_of_product : BraidValue → List ℕ → Combination → Combination
part_of_product braid g f = part (has_product braid g) f
