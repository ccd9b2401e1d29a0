-- The report of an algebra with its quadratic cover.
use Rattle.std.specs.Prelude.{ℕ, ◌-◌, not, nat_eq, nat_lt, List, [], ◌∷◌, ◌++◌, length, find, slice_index, Option, None, if◌then◌else◌}
use Rattle.std.specs.List.{range_with_len}
use Rattle.nichols_tensor.specs.Relation.{PlainRelation}
use Rattle.nichols_braid.specs.Braid.{BraidValue}
use Rattle.nichols_braid.specs.End.{dimension}
use Rattle.nichols_braid.specs.Kernel.{is_in_kernel}
use Rattle.nichols_braid.specs.Least.{relations}
use Rattle.nichols_cover.specs.Cover.{CoverValue, StopValue, cover_of}
use Rattle.nichols_cover.specs.Ideal.{generators}
use Rattle.nichols_graded.specs.declared.ends.Stop.{Stop}
use Rattle.nichols_top.specs.Algebra.{Scope, degrees_in, in_brief, pieces_due, stop_in}
use Rattle.nichols_top.specs.CoverLines.{cover_lines}
use Rattle.nichols_top.specs.Report.{Piece, piece, Report}
use Rattle.nichols_top.specs.declared.cover.TheConstants.{CANDIDATE_LIMIT}
use Rattle.nichols_top.specs.declared.status.Status.{Status}
use Rattle.nichols_top.specs.declared.status.Status.TheVariants.{Complete, Stopped}

-- the relations of degree 2, where the last finished degree isn't below it
abbrev pub quadratic_relations : BraidValue → ℕ → List PlainRelation
quadratic_relations braid last = if nat_lt last 2 then [] else relations is_in_kernel braid 2

-- the cover that these relations generate, through the last finished degree
abbrev pub cover_through : BraidValue → ℕ → CoverValue
cover_through braid last = cover_of braid.field braid.letters (generators braid.field (quadratic_relations braid last)) last CANDIDATE_LIMIT

-- the first of the degrees of a cover in which the algebra has another dimension
unfoldable pub first_difference : BraidValue → List ℕ → Option ℕ
first_difference braid dimensions = find (λ m. not (nat_eq (dimension is_in_kernel braid m) (slice_index dimensions m))) (range_with_len 0 (length dimensions))

-- the piece of the cover
unfoldable pub cover_piece : BraidValue → ℕ → Piece
cover_piece braid last = let cover : CoverValue = cover_through braid last in piece (cover_lines cover (first_difference braid cover.dimensions)) None

-- the status: nothing stopped the algebra, nor the cover
abbrev pub cover_status : Option Stop → Option StopValue → Status
cover_status None None = Complete
cover_status _ _ = Stopped

-- the brief report of an algebra, with the piece of its cover behind it
unfoldable pub cover_due : BraidValue → List ℕ → Scope → Report
cover_due braid order scope = let last : ℕ = length (degrees_in braid scope) - 1 in record {
  pieces = pieces_due braid order (in_brief scope) ++ cover_piece braid last ∷ [];
  status = cover_status (stop_in braid scope) (cover_through braid last).stop;
}
