use Rattle.std.proofs.Common.{◌≡◌, ℕ, ◌<◌, false, get_or}
use Rattle.nichols_core.specs.Layout.{edge_at}
use Rattle.nichols_shelf.proofs.tests.play.entries_are.Given as goal

abbrev pub invariant-loop-i : goal.invariant-loop-i
invariant-loop-i l = (k : ℕ) → k < l.i → (edge_at l.layout.edges k).upper ≡ l.block → get_or l.picked k false ≡ l.marked
