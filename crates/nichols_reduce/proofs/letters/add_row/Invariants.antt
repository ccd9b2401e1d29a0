use Rattle.std.proofs.Common.{[], slice_index_or, take}
use Rattle.nichols_tensor.specs.Combination.{scalar_multiple}
use Rattle.nichols_value.specs.Rule.{right_in}
use Rattle.nichols_reduce.specs.Sums.{HasGrownBy}
use Rattle.nichols_reduce.proofs.letters.add_row.Given as goal

abbrev pub invariant-loop-cell : goal.invariant-loop-cell
invariant-loop-cell l = HasGrownBy l.field l.rule.basis l.fn.sums (scalar_multiple l.field l.by (take l.cell-index (slice_index_or (right_in l.rule l.b) l.k []))) l.sums
