use Rattle.std.proofs.Common.{◌≡◌, take}
use Rattle.nichols_block.specs.Pass.{cells_at_columns}
use Rattle.nichols_block.proofs.forms.put_cells.Given as goal

abbrev pub invariant-loop-cell : goal.invariant-loop-cell
invariant-loop-cell l = l.cells.items ≡ cells_at_columns l.columns (take l.cell-index l.cell-items)
