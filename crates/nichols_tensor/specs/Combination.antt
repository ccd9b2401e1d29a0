-- Elements of the tensor algebra over a field: finite combinations of words.
use Rattle.std.specs.Prelude.{◌≡◌, ◌≢◌, ℕ, Bool, List, [], ◌∷◌, ◌++◌, map, filter, not, if◌then◌else◌, nat_eq}
use Rattle.std.specs.List.{flat_map, list_all, AllByRecursion, Contains}
use Rattle.nichols_field.specs.Field.{FieldValue, IsElement, times, negative, sum_by}
use lib.Pointwise.{pointwise}

-- a word, a list of letters, with its coefficient
abbrev pub Term : Type 0
Term = record { word : List ℕ; coefficient : ℕ }

-- a finite list of words with coefficients, read as its value at each word
abbrev pub Combination : Type 0
Combination = List Term

-- whether two words are one
abbrev pub same_letters : List ℕ → List ℕ → Bool
same_letters = pointwise nat_eq

-- the value at a word: the sum of the coefficients there
abbrev pub value_at : FieldValue → Combination → List ℕ → ℕ
value_at field f w = sum_by field (λ t. if same_letters t.word w then t.coefficient else 0) f

-- two combinations are equal: their values are equal at every word
abbrev pub HasSameValues : FieldValue → Combination → Combination → Type 0
HasSameValues field f g = (w : List ℕ) → value_at field f w ≡ value_at field g w

-- the value is 0 at every word
abbrev pub IsZero : FieldValue → Combination → Type 0
IsZero field f = (w : List ℕ) → value_at field f w ≡ 0

-- whether the value is 0 at every word
unfoldable pub is_zero : FieldValue → Combination → Bool
is_zero field f = list_all (λ t. nat_eq (value_at field f t.word) 0) f

-- the words of the terms
abbrev pub words_of : Combination → List (List ℕ)
words_of f = map (λ t. t.word) f

-- each coefficient is an element of the field
abbrev pub AllElements : FieldValue → Combination → Type 0
AllElements field f = AllByRecursion (λ t. IsElement field t.coefficient) f

-- no coefficient is 0
abbrev pub AllNonzero : Combination → Type 0
AllNonzero f = AllByRecursion (λ t. t.coefficient ≢ 0) f

-- each word is an entry of the list
unfoldable pub AllAmong : Combination → List (List ℕ) → Type 0
AllAmong f ws = AllByRecursion (λ t. Contains ws t.word) f

-- a word as a combination
abbrev pub single : List ℕ → Combination
single w = record { word = w; coefficient = 1 } ∷ []

-- c f: each coefficient multiplied
abbrev pub scalar_multiple : FieldValue → ℕ → Combination → Combination
scalar_multiple field c f = map (λ t. record { word = t.word; coefficient = times field c t.coefficient }) f

-- f - g
abbrev pub minus : FieldValue → Combination → Combination → Combination
minus field f g = f ++ scalar_multiple field (negative field 1) g

-- f without the terms whose coefficient is 0
abbrev pub without_zeros : Combination → Combination
without_zeros f = filter (λ t. not (nat_eq t.coefficient 0)) f

-- the linear map that has these images of the words
abbrev pub linear_map : FieldValue → (List ℕ → Combination) → Combination → Combination
linear_map field image f = flat_map (λ t. scalar_multiple field t.coefficient (image t.word)) f
