use Rattle.std.proofs.Common.{◌≡◌, length, reverse}
use Rattle.nichols_echelon.proofs.Retracing.{Retracing}
use Rattle.nichols_echelon.proofs.retrace.retraced.Given as goal

abbrev pub invariant-loop-cell : goal.invariant-loop-cell
invariant-loop-cell l = record {
  back : Retracing l.field l.echelon.pivots.items l.echelon.steps.rows l.steps l.sums l.end (reverse l.out.items);
  width : length l.sums ≡ length l.initial.sums;
}

abbrev pub decreases-loop-cell : goal.decreases-loop-cell
decreases-loop-cell l = l.end
