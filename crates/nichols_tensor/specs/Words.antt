-- All words of a length, and all combinations of some words.
use Rattle.std.specs.Prelude.{◌≡◌, ℕ, zero, suc, ◌≤◌, List, [], ◌∷◌, ◌++◌, map, filter, length}
use Rattle.std.specs.List.{flat_map, AllByRecursion}
use Rattle.std.specs.Ordering.{is_lt}
use Rattle.nichols_field.specs.Field.{FieldValue, elements}
use Rattle.nichols_tensor.specs.Combination.{Combination}
use Rattle.nichols_tensor.specs.WordOrder.{word_cmp}

-- the numbers from 1 to n
abbrev pub up_to : ℕ → List ℕ
up_to zero = []
up_to (suc n) = up_to n ++ suc n ∷ []

-- a number is one of n letters, which are the numbers from 1 to n
abbrev pub IsLetterOf : ℕ → ℕ → Type 0
IsLetterOf n a = (1 ≤ a) × (a ≤ n)

-- each letter of a word is one of n letters
abbrev pub IsWordOver : ℕ → List ℕ → Type 0
IsWordOver n w = AllByRecursion (IsLetterOf n) w

-- each letter of a combination's words is one of n letters
abbrev pub IsOver : ℕ → Combination → Type 0
IsOver n f = AllByRecursion (λ t. IsWordOver n t.word) f

-- each word of a combination has m letters
abbrev pub HasDegree : ℕ → Combination → Type 0
HasDegree m f = AllByRecursion (λ t. length t.word ≡ m) f

-- the words of a list, each with each of n letters behind
abbrev pub with_letters : ℕ → List (List ℕ) → List (List ℕ)
with_letters n us = flat_map (λ u. map (λ b. u ++ b ∷ []) (up_to n)) us

-- the words of m letters over n letters, rising
unfoldable pub words : ℕ → ℕ → List (List ℕ)
words n zero = [] ∷ []
words n (suc m) = flat_map (λ a. map (λ w. a ∷ w) (words n m)) (up_to n)

-- the words of its length before a word
unfoldable pub words_before : ℕ → List ℕ → List (List ℕ)
words_before n w = filter (λ v. is_lt (word_cmp v w)) (words n (length w))

-- the combinations of these words, one for each choice of coefficients
unfoldable pub combinations : FieldValue → List (List ℕ) → List Combination
combinations field [] = [] ∷ []
combinations field (w ∷ ws) =
    flat_map (λ c. map (λ f. record { word = w; coefficient = c } ∷ f) (combinations field ws)) (elements field)
