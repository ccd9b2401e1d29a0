-- The report of the images of expressions under the quantum symmetrizer.
use Rattle.std.specs.Prelude.{ℕ, suc, Bool, List, [], ◌∷◌, length, Option, None, Some, if◌then◌else◌, nat_lt}
use Rattle.std.specs.List.{list_any}
use Rattle.nichols_tensor.specs.Combination.{Combination}
use Rattle.nichols_tensor.specs.InOrder.{in_order}
use Rattle.nichols_braid.specs.Braid.{BraidValue}
use Rattle.nichols_braid.specs.Symmetrizer.{symmetrizer_image}
use Rattle.nichols_lift.specs.declared.TheConstants.{PLACE_LIMIT}
use Rattle.nichols_input.specs.Document.{DocumentValue}
use Rattle.nichols_text.specs.Expressions.{image_line}
use Rattle.nichols_text.specs.Pieces.{symmetrize_piece}
use Rattle.nichols_text.specs.Refusals.{long_expression_text}
use Rattle.nichols_top.specs.Report.{Piece, piece, numbered_pieces, Report, line_report}
use Rattle.nichols_top.specs.declared.status.Status.TheVariants.{Complete, Refused}

-- whether an expression has a word that is too long for the sum over all permutations
abbrev pub is_long : Combination → Bool
is_long f = list_any (λ t. nat_lt PLACE_LIMIT (length t.word)) f

-- the number of the first such expression, counted from k
unfoldable pub first_long : ℕ → List Combination → Option ℕ
first_long k [] = None
first_long k (f ∷ fs) = if is_long f then Some k else first_long (suc k) fs

-- the image of an expression, with the number of the expression
unfoldable pub image_due : BraidValue → List ℕ → ℕ → Combination → Piece
image_due braid order k f = piece (image_line braid.field order k (in_order braid.field (symmetrizer_image braid f))) None

-- the header and the images
abbrev pub images_due : DocumentValue → Report
images_due document = record {
  pieces = piece (symmetrize_piece document.braid document.order) None ∷ numbered_pieces (image_due document.braid document.order) 1 document.expressions;
  status = Complete;
}

-- the images, unless an expression is too long
abbrev pub unless_long : Option ℕ → Report → Report
unless_long None report = report
unless_long (Some k) report = line_report (long_expression_text k) Refused

-- the report of the images of a document's expressions
unfoldable pub symmetrize_due : DocumentValue → Report
symmetrize_due document = unless_long (first_long 1 document.expressions) (images_due document)
