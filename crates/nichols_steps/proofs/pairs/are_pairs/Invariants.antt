use Rattle.std.proofs.Common.{ℕ, ◌<◌}
use Rattle.nichols_core.specs.Layout.{edge_at}
use Rattle.nichols_steps.specs.Pairs.{JoinsPair}
use Rattle.nichols_steps.proofs.pairs.are_pairs.Given as goal

abbrev pub invariant-loop-pair : goal.invariant-loop-pair
invariant-loop-pair l = (k : ℕ) → k < l.pair → JoinsPair l.count k (edge_at l.layout.edges k)
