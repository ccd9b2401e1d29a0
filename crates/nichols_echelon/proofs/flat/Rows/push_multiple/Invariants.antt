use Rattle.std.proofs.Common.{◌≡◌, take}
use Rattle.nichols_echelon.specs.Cells.{multiple_of}
use Rattle.nichols_echelon.proofs.flat.Rows.push_multiple.Given as goal

abbrev pub invariant-loop-cell : goal.invariant-loop-cell
invariant-loop-cell l = record {
  rows : l.self.rows ≡ l.fn.self.rows;
  begun : l.self.begun ≡ multiple_of l.field l.by (take l.cell-index l.cells);
}
