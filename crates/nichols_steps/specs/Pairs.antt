-- Layouts of pairs of blocks.
use Rattle.std.specs.Prelude.{◌≡◌, ℕ, ◌+◌, ◌*◌, ◌<◌, length}
use Rattle.nichols_core.specs.Layout.{LayoutValue, edge_at}
use Rattle.nichols_core.specs.declared.edge.Edge.{Edge}

-- the edge of pair k of n: it leads from block k to block n + k and has the letter 1
pub record JoinsPair (n k : ℕ) (e : Edge) : Type 0 where
  pub lower : e.lower ≡ k
  pub letter : e.letter ≡ 1
  pub upper : e.upper ≡ n + k

-- n pairs of blocks; edge k is that of pair k, and there is no other
pub record ArePairs (n : ℕ) (l : LayoutValue) : Type 0 where
  pub blocks : length l.degrees ≡ n * 2
  pub edges : length l.edges ≡ n
  pub each : (k : ℕ) → k < n → JoinsPair n k (edge_at l.edges k)
