use Rattle.std.proofs.Common.{◌≡◌, length}
use Rattle.nichols_echelon.specs.Combination.{AllRowsElements}
use Rattle.nichols_bench.proofs.made.made_rows.Given as goal

abbrev pub invariant-loop-row : goal.invariant-loop-row
invariant-loop-row l = record {
  elements : AllRowsElements l.field l.rows.items;
  count : length l.rows.items ≡ l.row;
}
