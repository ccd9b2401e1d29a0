-- The report of an algebra with the products of its expressions.
use Rattle.std.specs.Prelude.{ℕ, ◌-◌, Bool, false, ◌&&◌, not, nat_lt, List, ◌++◌, length, map, take, Option, None, Some, if◌then◌else◌}
use Rattle.std.specs.List.{list_any, range_with_len}
use Rattle.nichols_field.specs.Field.{FieldValue}
use Rattle.nichols_tensor.specs.Combination.{Combination, is_zero}
use Rattle.nichols_tensor.specs.Product.{product_of}
use Rattle.nichols_braid.specs.Braid.{BraidValue}
use Rattle.nichols_braid.specs.Kernel.{is_in_kernel}
use Rattle.nichols_braid.specs.WholeForm.{normal_form_by_parts}
use Rattle.nichols_graded.specs.declared.ends.Stop.{Stop}
use Rattle.nichols_input.specs.Document.{DocumentValue}
use Rattle.nichols_product.specs.Degrees.{degree_of_product}
use Rattle.nichols_top.specs.Algebra.{Scope, degrees_in, stop_in, pieces_due, status_of}
use Rattle.nichols_top.specs.ProductLines.{product_line, product_beyond_line}
use Rattle.nichols_top.specs.Report.{Piece, piece, Report}

-- whether a product isn't known: the algebra isn't closed, no factor is zero, and the degree of the product exceeds its last finished
-- degree
abbrev pub is_product_beyond_stop : FieldValue → Option Stop → ℕ → List Combination → Bool
is_product_beyond_stop field None last fs = false
is_product_beyond_stop field (Some s) last fs = not (list_any (is_zero field) fs) && nat_lt last (degree_of_product fs)

-- the normal form of the product of the first k expressions, or the last finished degree, with the number k
unfoldable pub first_product_due : BraidValue → List ℕ → Option Stop → ℕ → List Combination → ℕ → Piece
first_product_due braid order e last fs k =
    piece (if is_product_beyond_stop braid.field e last (take k fs) then product_beyond_line k last else product_line braid.field order k (normal_form_by_parts is_in_kernel braid (product_of braid.field (take k fs)))) None

-- the products of a document's first expression, of its first two, and so on up to all of them
abbrev pub first_products_due : DocumentValue → Scope → List Piece
first_products_due document scope =
    map (first_product_due document.braid document.order (stop_in document.braid scope) (length (degrees_in document.braid scope) - 1) document.expressions) (range_with_len 1 (length document.expressions))

-- the report of an algebra, with these products behind it
unfoldable pub product_due : DocumentValue → Scope → Report
product_due document scope = record {
  pieces = pieces_due document.braid document.order scope ++ first_products_due document scope;
  status = status_of (stop_in document.braid scope);
}
