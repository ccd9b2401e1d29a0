-- The numbers of edges in tables: LETTER_LIMIT for each block, by letter.
use Rattle.std.specs.Prelude.{◌≡◌, ℕ, ◌+◌, ◌-◌, ◌*◌, ◌<◌, List, length, slice_index}
use Rattle.nichols_tensor.specs.declared.TheConstants.{LETTER_LIMIT}
use Rattle.nichols_core.specs.Layout.{LayoutValue, edge_at}

-- where a table has the number of the edge of that letter at the block
abbrev pub letter_place : ℕ → ℕ → ℕ
letter_place b a = b * LETTER_LIMIT + (a - 1)

-- the table has the number of each edge at its upper block and letter
pub record FindsEntries (table : List ℕ) (l : LayoutValue) : Type 0 where
  pub size : length table ≡ length l.degrees * LETTER_LIMIT
  pub found : (k : ℕ) → k < length l.edges → slice_index table (letter_place (edge_at l.edges k).upper (edge_at l.edges k).letter) ≡ k

-- and here at its lower block and letter
pub record FindsExits (table : List ℕ) (l : LayoutValue) : Type 0 where
  pub size : length table ≡ length l.degrees * LETTER_LIMIT
  pub found : (k : ℕ) → k < length l.edges → slice_index table (letter_place (edge_at l.edges k).lower (edge_at l.edges k).letter) ≡ k
