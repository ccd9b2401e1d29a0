-- The report of an algebra, by the quantum symmetrizers of its braid.
use Rattle.std.specs.Prelude.{ℕ, ◌-◌, Bool, true, List, [], ◌∷◌, ◌++◌, map, length, sum, Option, None, Some}
use Rattle.nichols_braid.specs.Braid.{BraidValue}
use Rattle.nichols_braid.specs.Kernel.{is_in_kernel}
use Rattle.nichols_braid.specs.Least.{basis, relations}
use Rattle.nichols_braid.specs.End.{dimension, stop_of}
use Rattle.nichols_command.specs.declared.command.Options.{Options}
use Rattle.nichols_graded.specs.Ends.{finished_degrees, stops_at}
use Rattle.nichols_graded.specs.Factors.{factors_of}
use Rattle.nichols_graded.specs.declared.ends.Stop.{Stop}
use Rattle.nichols_graded.specs.declared.ends.Stop.TheVariants as stop
use Rattle.nichols_text.specs.declared.end.EndLine.{EndLine}
use Rattle.nichols_text.specs.declared.end.EndLine.TheVariants.{Closed, DegreeLimit, Wide, Rows}
use Rattle.nichols_text.specs.Pieces.{header_piece, degree_piece, end_piece}
use Rattle.nichols_top.specs.Report.{Piece, piece, Report}
use Rattle.nichols_top.specs.declared.status.Status.{Status}
use Rattle.nichols_top.specs.declared.status.Status.TheVariants.{Complete, Stopped}

-- how far an algebra is made, and whether its report is brief; the workers and the window are no part of it
abbrev pub Scope : Type 0
Scope = record { degree_limit : ℕ; rows_limit : ℕ; brief : Bool }

abbrev pub scope_of : Options → Scope
scope_of options = record { degree_limit = options.degree_limit; rows_limit = options.rows_limit; brief = options.brief }

-- the same scope, in brief
abbrev pub in_brief : Scope → Scope
in_brief scope = record { degree_limit = scope.degree_limit; rows_limit = scope.rows_limit; brief = true }

-- the finished degrees
abbrev pub degrees_in : BraidValue → Scope → List ℕ
degrees_in braid scope = finished_degrees braid scope.degree_limit scope.rows_limit

-- what stops the algebra, or nothing where it is closed
abbrev pub stop_in : BraidValue → Scope → Option Stop
stop_in braid scope = stop_of is_in_kernel braid (stops_at braid scope.degree_limit scope.rows_limit)

-- the header
unfoldable pub header_due : BraidValue → List ℕ → Scope → Piece
header_due braid order scope = piece (header_piece braid order scope.degree_limit scope.rows_limit) None

-- a finished degree, with its least words and its relations unless the report is brief; ranks are printed as letters of the order
unfoldable pub degree_due : BraidValue → List ℕ → Bool → ℕ → Piece
degree_due braid order brief m = piece (degree_piece braid.field order m (basis is_in_kernel braid m) (relations is_in_kernel braid m) brief) (Some m)

-- the dimensions of some degrees
abbrev pub dimensions_of : BraidValue → List ℕ → List ℕ
dimensions_of braid degrees = map (dimension is_in_kernel braid) degrees

-- the end line after a last finished degree: closed after the degree before it, or stopped
abbrev pub end_line_of : Option Stop → ℕ → List ℕ → EndLine
end_line_of None last dimensions = Closed (last - 1) (sum dimensions)
end_line_of (Some stop.DegreeLimit) last dimensions = DegreeLimit last
end_line_of (Some (stop.Wide m)) last dimensions = Wide m
end_line_of (Some (stop.Rows m product count)) last dimensions = Rows m product count

-- the factors of the Hilbert series, where the algebra is closed and it has such factors
abbrev pub factors_at : Option Stop → List ℕ → Option (List ℕ)
factors_at None dimensions = factors_of dimensions
factors_at (Some s) dimensions = None

-- the status of an end
abbrev pub status_of : Option Stop → Status
status_of None = Complete
status_of (Some s) = Stopped

-- the end piece after the finished degrees
unfoldable pub end_due : BraidValue → Option Stop → List ℕ → Piece
end_due braid e degrees =
    piece (end_piece (end_line_of e (length degrees - 1) (dimensions_of braid degrees)) (dimensions_of braid degrees) (factors_at e (dimensions_of braid degrees))) None

-- the header, the finished degrees, and the end
unfoldable pub pieces_due : BraidValue → List ℕ → Scope → List Piece
pieces_due braid order scope = header_due braid order scope ∷ (map (degree_due braid order scope.brief) (degrees_in braid scope) ++ end_due braid (stop_in braid scope) (degrees_in braid scope) ∷ [])

-- the report of the algebra of a braid on ranks, in the letters of an order
unfoldable pub algebra_due : BraidValue → List ℕ → Scope → Report
algebra_due braid order scope = record { pieces = pieces_due braid order scope; status = status_of (stop_in braid scope) }
