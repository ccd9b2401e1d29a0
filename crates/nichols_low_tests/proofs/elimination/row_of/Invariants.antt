use Rattle.nichols_echelon.specs.Cells.{AllElements}
use Rattle.nichols_low_tests.proofs.elimination.row_of.Given as goal

abbrev pub invariant-loop-place : goal.invariant-loop-place
invariant-loop-place l = AllElements l.field l.cells.items
