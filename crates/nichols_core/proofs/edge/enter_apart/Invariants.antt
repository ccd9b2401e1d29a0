use Rattle.std.proofs.Common.{ℕ, ◌+◌, ◌<◌}
use Rattle.nichols_core.specs.Layout.{edge_at, entry_place}
use Rattle.nichols_core.proofs.edge.enter_apart.Given as goal

abbrev pub invariant-loop-i : goal.invariant-loop-i
invariant-loop-i l = (k : ℕ) → k + 1 < l.i → entry_place (edge_at l.edges k) < entry_place (edge_at l.edges (k + 1))
