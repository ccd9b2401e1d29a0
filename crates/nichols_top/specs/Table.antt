-- The report of an algebra with its table of products.
use Rattle.std.specs.Prelude.{ℕ, List, [], ◌∷◌, ◌++◌, map, nat_lt, sum, Option, None, Some, if◌then◌else◌}
use Rattle.std.specs.List.{flat_map}
use Rattle.nichols_tensor.specs.Combination.{single}
use Rattle.nichols_braid.specs.Braid.{BraidValue}
use Rattle.nichols_braid.specs.Kernel.{is_in_kernel}
use Rattle.nichols_braid.specs.Least.{basis}
use Rattle.nichols_braid.specs.WholeForm.{normal_form_by_parts}
use Rattle.nichols_graded.specs.declared.ends.Stop.{Stop}
use Rattle.nichols_top.specs.Algebra.{Scope, degrees_in, dimensions_of, in_brief, pieces_due, status_of, stop_in}
use Rattle.nichols_top.specs.Report.{Piece, piece, Report}
use Rattle.nichols_top.specs.TableLines.{times_line, too_large_line}
use Rattle.nichols_top.specs.declared.table.TheConstants.{TABLE_LIMIT}

-- the least words of some degrees, degree by degree
abbrev pub least_words : BraidValue → List ℕ → List (List ℕ)
least_words braid degrees = flat_map (basis is_in_kernel braid) degrees

-- the normal form of the product of two words, which is the word that has the letters of both
unfoldable pub times_due : BraidValue → List ℕ → List ℕ → List ℕ → Piece
times_due braid order u v = piece (times_line braid.field order u v (normal_form_by_parts is_in_kernel braid (single (u ++ v)))) None

-- the products of each of some words with each of them
unfoldable pub products_due : BraidValue → List ℕ → List (List ℕ) → List Piece
products_due braid order words = flat_map (λ u. map (times_due braid order u) words) words

-- the products of the least words of these degrees, or how many such words there are where they are too many
unfoldable pub table_pieces : BraidValue → List ℕ → List ℕ → List Piece
table_pieces braid order degrees = let dimension : ℕ = sum (dimensions_of braid degrees) in
    if nat_lt TABLE_LIMIT dimension then piece (too_large_line dimension) None ∷ [] else products_due braid order (least_words braid degrees)

-- the table of a closed algebra, by what stops it
abbrev pub table_at : BraidValue → List ℕ → Option Stop → List ℕ → List Piece
table_at braid order None degrees = table_pieces braid order degrees
table_at braid order (Some s) degrees = []

-- the brief report of an algebra, with its table of products behind it where it is closed
unfoldable pub table_due : BraidValue → List ℕ → Scope → Report
table_due braid order scope = record {
  pieces = pieces_due braid order (in_brief scope) ++ table_at braid order (stop_in braid scope) (degrees_in braid scope);
  status = status_of (stop_in braid scope);
}
