-- Rows with their columns numbered: each column is named by how many of those that occur are less.
use Rattle.std.specs.Prelude.{◌≡◌, ◌<◌, ℕ, List, [], ◌∷◌, ◌++◌, length, slice_index}
use Rattle.std.specs.List.{AllByRecursion, Contains}
use Rattle.nichols_echelon.specs.Cells.{Cell, columns_of}
use Rattle.nichols_echelon.specs.Combination.{row_at}

-- the columns of all cells of the rows
unfoldable pub all_columns : List (List Cell) → List ℕ
all_columns [] = []
all_columns (row ∷ rows) = columns_of row ++ all_columns rows

-- each column of the cells is in the list
abbrev pub AllListed : List ℕ → List Cell → Type 0
AllListed columns cells = AllByRecursion (λ c. Contains columns c.column) cells

-- each cell in turn with its column's place in the list instead of its column
abbrev pub IsNumbered : List ℕ → List Cell → List Cell → Type 0
IsNumbered columns [] [] = Unit {0}
IsNumbered columns [] (y ∷ ys) = ⊥
IsNumbered columns (x ∷ xs) [] = ⊥
IsNumbered columns (x ∷ xs) (y ∷ ys) = (y.column < length columns) × (slice_index columns y.column ≡ x.column) × (y.coefficient ≡ x.coefficient) × IsNumbered columns xs ys

-- each row numbered
pub record AreNumbered (columns : List ℕ) (rows numbered : List (List Cell)) : Type 0 where
  pub count : length numbered ≡ length rows
  pub each : (k : ℕ) → IsNumbered columns (row_at rows k) (row_at numbered k)
