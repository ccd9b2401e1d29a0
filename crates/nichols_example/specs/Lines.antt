-- The lines of normal forms.
use Rattle.std.specs.Prelude.{ℕ, List, ◌++◌, codes, decimal}
use Rattle.nichols_field.specs.Field.{FieldValue}
use Rattle.nichols_expression.specs.Printed.{form_text}
use Rattle.nichols_reduce.specs.declared.answer.Normal.{Normal}
use Rattle.nichols_reduce.specs.declared.answer.Normal.TheVariants.{Form, Beyond}

-- a name, and the normal form that it has or the degree that it is beyond
unfoldable pub answer_line : FieldValue → List ℕ → List ℕ → Normal → List ℕ
answer_line field order name (Form f) = name ++ codes " = " ++ form_text field order f ++ codes "\n"
answer_line field order name (Beyond m) = name ++ codes " is beyond degree " ++ decimal m ++ codes "\n"
