-- The report of an algebra with the normal forms of expressions.
use Rattle.std.specs.Prelude.{ℕ, ◌-◌, Bool, false, List, ◌++◌, length, Option, None, Some, if◌then◌else◌, nat_lt}
use Rattle.nichols_tensor.specs.Combination.{Combination}
use Rattle.nichols_tensor.specs.Parts.{longest}
use Rattle.nichols_braid.specs.Braid.{BraidValue}
use Rattle.nichols_braid.specs.Kernel.{is_in_kernel}
use Rattle.nichols_braid.specs.WholeForm.{normal_form_by_parts}
use Rattle.nichols_graded.specs.declared.ends.Stop.{Stop}
use Rattle.nichols_input.specs.Document.{DocumentValue}
use Rattle.nichols_text.specs.Expressions.{form_line, beyond_line}
use Rattle.nichols_top.specs.Algebra.{Scope, degrees_in, stop_in, pieces_due, status_of}
use Rattle.nichols_top.specs.Report.{Piece, piece, numbered_pieces, Report}

-- whether a normal form isn't known: the algebra isn't closed, and a word is longer than its last finished degree
abbrev pub is_beyond_stop : Option Stop → ℕ → Combination → Bool
is_beyond_stop None last f = false
is_beyond_stop (Some s) last f = nat_lt last (longest f)

-- the normal form of an expression, or the last finished degree, with the number of the expression
unfoldable pub form_due : BraidValue → List ℕ → Option Stop → ℕ → ℕ → Combination → Piece
form_due braid order e last k f = piece (if is_beyond_stop e last f then beyond_line k last else form_line braid.field order k (normal_form_by_parts is_in_kernel braid f)) None

-- the normal forms of a document's expressions
abbrev pub forms_due : DocumentValue → Scope → List Piece
forms_due document scope = numbered_pieces (form_due document.braid document.order (stop_in document.braid scope) (length (degrees_in document.braid scope) - 1)) 1 document.expressions

-- the report of an algebra, with the normal forms behind it
unfoldable pub reduce_due : DocumentValue → Scope → Report
reduce_due document scope = record {
  pieces = pieces_due document.braid document.order scope ++ forms_due document scope;
  status = status_of (stop_in document.braid scope);
}
