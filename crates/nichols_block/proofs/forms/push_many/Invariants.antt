use Rattle.std.proofs.Common.{◌≡◌, length, take}
use Rattle.nichols_block.proofs.SumForms.{AreSummed}
use Rattle.nichols_block.proofs.forms.push_many.Given as goal

abbrev pub invariant-loop-cell : goal.invariant-loop-cell
invariant-loop-cell l = record {
  summed : AreSummed l.field l.from.rows (take l.cell-index l.cells) l.sums;
  width : length l.sums ≡ length l.fn.sums;
}
