-- Rows in parts: the k-th rows of some lists, one behind the other, where the columns of each list stand behind so many others.
use Rattle.std.specs.Prelude.{◌≡◌, ◌<◌, ◌+◌, ◌-◌, ◌^◌, ℕ, zero, suc, List, [], ◌∷◌, ◌++◌, map, length, slice_index, slice_index_or}
use Rattle.nichols_echelon.specs.Cells.{AllBelow, Cell}
use Rattle.nichols_echelon.specs.Combination.{row_at}
use Rattle.nichols_echelon.specs.Rows.{RowsValue}

-- cells behind so many columns
abbrev pub cells_behind : ℕ → List Cell → List Cell
cells_behind offset cells = map (λ c. record { column = offset + c.column; coefficient = c.coefficient }) cells

-- the list at an index, from 0
abbrev pub part_at : List RowsValue → ℕ → RowsValue
part_at lists a = slice_index_or lists a (record { rows = []; begun = [] })

-- the k-th row in parts, of the first lists
unfoldable pub joined_row : List RowsValue → List ℕ → ℕ → ℕ → List Cell
joined_row lists offsets k zero = []
joined_row lists offsets k (suc a) = joined_row lists offsets k a ++ cells_behind (slice_index offsets a) (row_at (part_at lists a).rows k)

-- the first rows in parts
unfoldable pub joined_rows : List RowsValue → List ℕ → ℕ → List (List Cell)
joined_rows lists offsets zero = []
joined_rows lists offsets (suc n) = joined_rows lists offsets n ++ joined_row lists offsets n (length lists) ∷ []

-- each list has a k-th row, whose columns behind the others have numbers of 32 bits
pub record HasParts (lists : List RowsValue) (offsets : List ℕ) (k : ℕ) : Type 0 where
  pub as_many : length offsets ≡ length lists
  pub inside : (a : ℕ) → a < length lists → k < length (part_at lists a).rows
  pub fit : (a : ℕ) → a < length lists → AllBelow (2 ^ 32 - slice_index offsets a) (row_at (part_at lists a).rows k)

-- the same for so many rows
abbrev pub AreParts : List RowsValue → List ℕ → ℕ → Type 0
AreParts lists offsets count = (k : ℕ) → k < count → HasParts lists offsets k
