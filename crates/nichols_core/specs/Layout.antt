-- Layouts: the blocks with their degrees, and the edges between them.
use Rattle.std.specs.Prelude.{◌≡◌, ℕ, ◌+◌, ◌*◌, ◌^◌, ◌<◌, ◌≤◌, ◌⊎◌, ◌==◌, ◌&&◌, Bool, List, length, slice_index, slice_index_or, count_by, All, position, Option}
use Rattle.nichols_tensor.specs.declared.TheConstants.{LETTER_LIMIT}
use Rattle.nichols_core.specs.declared.edge.Edge.{Edge}

-- the degree of each block, and the edges
pub record LayoutValue : Type 0 where
  pub degrees : List ℕ
  pub edges : List Edge

-- what stands past the last edge: an edge of letter 0
abbrev pub no_edge : Edge
no_edge = record { lower = 0; letter = 0; upper = 0 }

-- the edge with this number
abbrev pub edge_at : List Edge → ℕ → Edge
edge_at es k = slice_index_or es k no_edge

-- whether the edge goes out of the block, or into it, and has the letter
abbrev pub leaves : ℕ → ℕ → Edge → Bool
leaves b a e = (e.lower == b) && (e.letter == a)

abbrev pub enters : ℕ → ℕ → Edge → Bool
enters b a e = (e.upper == b) && (e.letter == a)

-- the number of the edge of that letter into the block, or out of it
abbrev pub edge_into : List Edge → ℕ → ℕ → Option ℕ
edge_into es b a = position (enters b a) es

abbrev pub edge_out : List Edge → ℕ → ℕ → Option ℕ
edge_out es b a = position (leaves b a) es

-- both ends are blocks, the upper one of the next degree, and the letter is from 1 to LETTER_LIMIT
pub record IsPlaced (degrees : List ℕ) (e : Edge) : Type 0 where
  pub lower : e.lower < length degrees
  pub upper : e.upper < length degrees
  pub rises : slice_index degrees e.upper ≡ slice_index degrees e.lower + 1
  pub from_one : 1 ≤ e.letter
  pub to_last : e.letter ≤ LETTER_LIMIT

-- the rules of a layout but for the order of its edges: each edge is placed, and of each letter at most
-- one edge goes out of a block, and at most one into it
pub record CanLayOut (degrees : List ℕ) (edges : List Edge) : Type 0 where
  pub placed : All (IsPlaced degrees) edges
  pub one_out : (b a : ℕ) → count_by (leaves b a) edges ≤ 1
  pub one_into : (b a : ℕ) → count_by (enters b a) edges ≤ 1

-- by upper block, and then by letter
abbrev pub IsBefore : Edge → Edge → Type 0
IsBefore e f = (e.upper < f.upper) ⊎ ((e.upper ≡ f.upper) × (e.letter < f.letter))

-- the rules of a layout: those above, fewer than 2^32 blocks, and the edges rise
pub record IsLayout (l : LayoutValue) : Type 0 where
  pub few : length l.degrees < 2 ^ 32
  pub good : CanLayOut l.degrees l.edges
  pub rising : (j k : ℕ) → j < k → k < length l.edges → IsBefore (edge_at l.edges j) (edge_at l.edges k)

-- numbers that rise with the lower block and then with the letter, or with the upper block and then with the letter
abbrev pub exit_place : Edge → ℕ
exit_place e = e.lower * 256 + e.letter

abbrev pub entry_place : Edge → ℕ
entry_place e = e.upper * 256 + e.letter

-- each edge stands before the next one, by such a number
abbrev pub IsRisingBy : (Edge → ℕ) → List Edge → Type 0
IsRisingBy n es = (k : ℕ) → k + 1 < length es → n (edge_at es k) < n (edge_at es (k + 1))
