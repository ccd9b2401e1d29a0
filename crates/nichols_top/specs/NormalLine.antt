-- The lines of what is known of normal forms.
use Rattle.std.specs.Prelude.{ℕ, List, None}
use Rattle.nichols_field.specs.Field.{FieldValue}
use Rattle.nichols_reduce.specs.declared.answer.Normal.{Normal}
use Rattle.nichols_reduce.specs.declared.answer.Normal.TheVariants.{Form, Beyond}
use Rattle.nichols_text.specs.Expressions.{form_line, beyond_line}
use Rattle.nichols_top.specs.ProductLines.{product_line, product_beyond_line}
use Rattle.nichols_top.specs.Report.{Piece, piece}
use Rattle.nichols_top.specs.declared.normals.Told.{Told}
use Rattle.nichols_top.specs.declared.normals.Told.TheVariants.{Forms, Products}

-- the form, or the last finished degree where it is beyond it; of an expression, or of a product
abbrev pub normal_line : Told → FieldValue → List ℕ → ℕ → Normal → List ℕ
normal_line Forms field order k (Form f) = form_line field order k f
normal_line Forms field order k (Beyond last) = beyond_line k last
normal_line Products field order k (Form f) = product_line field order k f
normal_line Products field order k (Beyond last) = product_beyond_line k last

-- the piece of this line
abbrev pub normal_piece : Told → FieldValue → List ℕ → ℕ → Normal → Piece
normal_piece told field order k n = piece (normal_line told field order k n) None
