-- The texts of words and combinations in ranks, as they are printed: with the letters of these ranks in an order.
use Rattle.std.specs.Prelude.{ℕ, zero, suc, List, [], ◌∷◌, ◌++◌, codes, decimal}
use Rattle.std.specs.List.{flat_map}
use Rattle.nichols_field.specs.Field.{FieldValue, parts_of}
use Rattle.nichols_tensor.specs.Combination.{Term, Combination}
use Rattle.nichols_braid.specs.Order.{letter_at}

-- the letters joined by dots; the empty word is `e`
unfoldable pub word_text : List ℕ → List ℕ → List ℕ
word_text order [] = codes "e"
word_text order (r ∷ w) = decimal (letter_at order r) ++ flat_map (λ s. codes "." ++ decimal (letter_at order s)) w

-- u alone where v is 0, and `(u,v)` else
abbrev pub parts_text : ℕ → ℕ → List ℕ
parts_text u zero = decimal u
parts_text u (suc v) = codes "(" ++ decimal u ++ codes "," ++ decimal (suc v) ++ codes ")"

-- an element, by its two numbers
unfoldable pub coefficient_text : FieldValue → ℕ → List ℕ
coefficient_text field c = parts_text (parts_of field c).low (parts_of field c).high

-- the coefficient, a star and the word
unfoldable pub term_text : FieldValue → List ℕ → Term → List ℕ
term_text field order t = coefficient_text field t.coefficient ++ codes "*" ++ word_text order t.word

-- the terms joined by pluses; the zero combination is `0`
unfoldable pub form_text : FieldValue → List ℕ → Combination → List ℕ
form_text field order [] = codes "0"
form_text field order (t ∷ f) = term_text field order t ++ flat_map (λ u. codes " + " ++ term_text field order u) f
