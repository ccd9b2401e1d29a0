-- The lines of a document's expressions.
use Rattle.std.specs.Prelude.{ℕ, List, ◌++◌, codes, decimal}
use Rattle.nichols_field.specs.Field.{FieldValue}
use Rattle.nichols_tensor.specs.Combination.{Combination}
use Rattle.nichols_expression.specs.Printed.{form_text}

-- `image <k> = <image>`
unfoldable pub image_line : FieldValue → List ℕ → ℕ → Combination → List ℕ
image_line field order number image = codes "image " ++ decimal number ++ codes " = " ++ form_text field order image ++ codes "\n"

-- `form <k> = <form>`
unfoldable pub form_line : FieldValue → List ℕ → ℕ → Combination → List ℕ
form_line field order number form = codes "form " ++ decimal number ++ codes " = " ++ form_text field order form ++ codes "\n"

-- `form <k> beyond <m>`, with m the last finished degree
unfoldable pub beyond_line : ℕ → ℕ → List ℕ
beyond_line number last = codes "form " ++ decimal number ++ codes " beyond " ++ decimal last ++ codes "\n"
