use Rattle.std.proofs.Common.{◌≡◌, length, take}
use Rattle.nichols_tensor.specs.Combination.{scalar_multiple}
use Rattle.nichols_value.specs.Rule.{right_in}
use Rattle.nichols_block.specs.Rows.{AreSums, summed_forms}
use Rattle.nichols_block.proofs.derivatives.add_right_rows.Given as goal

abbrev pub invariant-loop-cell : goal.invariant-loop-cell
invariant-loop-cell l = record {
  sums : AreSums l.field l.rule.basis l.sums (scalar_multiple l.field l.by (summed_forms l.field (right_in l.rule l.c) (take l.cell-index l.cells)));
  width : length l.sums ≡ length l.fn.sums;
}
