-- The texts of relations.
use Rattle.std.specs.Prelude.{ℕ, List, ◌++◌, codes}
use Rattle.nichols_field.specs.Field.{FieldValue}
use Rattle.nichols_tensor.specs.Relation.{PlainRelation}
use Rattle.nichols_expression.specs.Printed.{word_text, form_text}

-- `relation <candidate> = <form>`
unfoldable pub relation_line : FieldValue → List ℕ → PlainRelation → List ℕ
relation_line field order r = codes "relation " ++ word_text order r.candidate ++ codes " = " ++ form_text field order r.form ++ codes "\n"
