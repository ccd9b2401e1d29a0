use Rattle.nichols_echelon.specs.Cells.{AllElements}
use Rattle.nichols_bench.proofs.made.made_cells.Given as goal

abbrev pub invariant-loop-i : goal.invariant-loop-i
invariant-loop-i l = AllElements l.field l.cells.items
