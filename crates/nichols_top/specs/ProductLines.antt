-- The lines of products of expressions.
use Rattle.std.specs.Prelude.{ℕ, List, ◌++◌, codes, decimal}
use Rattle.nichols_field.specs.Field.{FieldValue}
use Rattle.nichols_tensor.specs.Combination.{Combination}
use Rattle.nichols_expression.specs.Printed.{form_text}

-- `product <k> = <form>`
unfoldable pub product_line : FieldValue → List ℕ → ℕ → Combination → List ℕ
product_line field order number form = codes "product " ++ decimal number ++ codes " = " ++ form_text field order form ++ codes "\n"

-- `product <k> beyond <m>`, with m the last finished degree
unfoldable pub product_beyond_line : ℕ → ℕ → List ℕ
product_beyond_line number last = codes "product " ++ decimal number ++ codes " beyond " ++ decimal last ++ codes "\n"
