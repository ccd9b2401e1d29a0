use Rattle.nichols_echelon.specs.Parts.{cells_behind}
use Rattle.nichols_echelon.proofs.Summing.{Scattered}
use Rattle.nichols_echelon.proofs.sums.scatter.Given as goal

abbrev pub invariant-loop-cell : goal.invariant-loop-cell
invariant-loop-cell l = Scattered l.field l.by (cells_behind l.offset l.cells) l.initial.values l.values l.marks l.cell-index
