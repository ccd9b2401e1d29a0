use Rattle.std.proofs.Common.{◌≡◌, length}
use Rattle.nichols_echelon.specs.Combination.{AllRowsElements}
use Rattle.nichols_low_tests.proofs.elimination.rows_of.Given as goal

abbrev pub invariant-loop-values : goal.invariant-loop-values
invariant-loop-values l = record {
  elements : AllRowsElements l.field l.rows.items;
  count : length l.rows.items ≡ l.values-index;
}
