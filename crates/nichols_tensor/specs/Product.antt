-- Products of combinations in the tensor algebra, and of a list of them.
use Rattle.std.specs.Prelude.{ℕ, List, [], ◌∷◌, ◌++◌, map}
use Rattle.nichols_field.specs.Field.{FieldValue}
use Rattle.nichols_tensor.specs.Combination.{Combination, single, linear_map}

-- the word v put before each word
abbrev pub prefixed : List ℕ → Combination → Combination
prefixed v f = map (λ t. record { word = v ++ t.word; coefficient = t.coefficient }) f

-- f g: each word of f before each word of g, with the product of the coefficients
unfoldable pub product : FieldValue → Combination → Combination → Combination
product field f g = linear_map field (λ v. prefixed v g) f

-- the product of a list, from the left; the empty list has the empty word
unfoldable pub product_before : FieldValue → Combination → List Combination → Combination
product_before field f [] = f
product_before field f (g ∷ gs) = product_before field (product field f g) gs

abbrev pub product_of : FieldValue → List Combination → Combination
product_of field fs = product_before field (single []) fs

-- a word in two parts
abbrev pub Splitting : Type 0
Splitting = record { front : List ℕ; back : List ℕ }

-- all splittings of a word, the shortest front first
abbrev pub splittings : List ℕ → List Splitting
splittings [] = record { front = []; back = [] } ∷ []
splittings (x ∷ w) = record { front = []; back = x ∷ w } ∷ map (λ (s : Splitting). record { front = x ∷ s.front; back = s.back }) (splittings w)
