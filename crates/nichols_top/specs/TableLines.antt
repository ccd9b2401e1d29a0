-- The lines of a table of products.
use Rattle.std.specs.Prelude.{ℕ, List, ◌++◌, codes, decimal}
use Rattle.nichols_field.specs.Field.{FieldValue}
use Rattle.nichols_tensor.specs.Combination.{Combination}
use Rattle.nichols_expression.specs.Printed.{form_text, word_text}

-- `times <u> <v> = <form>`
unfoldable pub times_line : FieldValue → List ℕ → List ℕ → List ℕ → Combination → List ℕ
times_line field order u v form = codes "times " ++ word_text order u ++ codes " " ++ word_text order v ++ codes " = " ++ form_text field order form ++ codes "\n"

-- `table too large <d>`
unfoldable pub too_large_line : ℕ → List ℕ
too_large_line dimension = codes "table too large " ++ decimal dimension ++ codes "\n"
