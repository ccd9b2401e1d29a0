use Rattle.std.proofs.Common.{length}
use Rattle.nichols_echelon.specs.Cells.{IsRow}
use Rattle.nichols_echelon.proofs.rows.is_row.Given as goal

abbrev pub invariant-loop-first : goal.invariant-loop-first
invariant-loop-first l = record {
  onward : IsRow l.cells → IsRow l.left;
  back : IsRow l.left → IsRow l.cells;
}

abbrev pub decreases-loop-first : goal.decreases-loop-first
decreases-loop-first l = length l.left
