use Rattle.std.proofs.Common.{◌≡◌, ◌++◌, take}
use Rattle.nichols_echelon.specs.Cells.{columns_of}
use Rattle.nichols_echelon.proofs.numbering.add_columns.Given as goal

abbrev pub invariant-loop-cell : goal.invariant-loop-cell
invariant-loop-cell l = l.columns.items ≡ l.initial.columns.items ++ columns_of (take l.cell-index l.cells)
