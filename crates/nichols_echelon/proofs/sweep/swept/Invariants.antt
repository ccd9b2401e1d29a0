use Rattle.std.proofs.Common.{length}
use Rattle.nichols_echelon.specs.Echelon.{kept_rows}
use Rattle.nichols_echelon.proofs.Sweeping.{Sweeping}
use Rattle.nichols_echelon.proofs.sweep.swept.Given as goal

abbrev pub invariant-loop-cell : goal.invariant-loop-cell
invariant-loop-cell l = Sweeping l.field (kept_rows l.rows l.echelon.left.rows) l.echelon.pivots.items (length l.echelon.left.rows) l.initial.sums l.steps.items l.sums l.end

abbrev pub decreases-loop-cell : goal.decreases-loop-cell
decreases-loop-cell l = l.end
