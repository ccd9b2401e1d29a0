use Rattle.std.proofs.Common.{◌≡◌, ℕ, ◌<◌, true, not, eqb, ◌||◌}
use Rattle.nichols_core.specs.Layout.{edge_at}
use Rattle.nichols_core.specs.States.{mark_at}
use Rattle.nichols_core.proofs.around.all_laid.Given as goal

abbrev pub invariant-loop-i : goal.invariant-loop-i
invariant-loop-i l = (k : ℕ) → k < l.i → (not (eqb (edge_at l.edges k).lower l.block) || mark_at l.laid k) ≡ true
