-- Linear combinations of rows.
use Rattle.std.specs.Prelude.{◌≡◌, ℕ, List, [], slice_index_or}
use Rattle.std.specs.List.{AllByRecursion}
use Rattle.nichols_field.specs.Field.{FieldValue, times, sum_by}
use Rattle.nichols_echelon.specs.Cells.{Cell, entry, IsRow, AllElements, AllBelow}

-- the row at a position, from 0
abbrev pub row_at : List (List Cell) → ℕ → List Cell
row_at rows k = slice_index_or rows k []

-- each coefficient of each row is an element of the field
abbrev pub AllRowsElements : FieldValue → List (List Cell) → Type 0
AllRowsElements field rows = AllByRecursion (λ row. AllElements field row) rows

-- each column of each row is below a bound
abbrev pub AllRowsBelow : ℕ → List (List Cell) → Type 0
AllRowsBelow bound rows = AllByRecursion (λ row. AllBelow bound row) rows

-- the columns of each row rise, and no coefficient is 0
abbrev pub AreRows : List (List Cell) → Type 0
AreRows rows = AllByRecursion (λ row. IsRow row) rows

-- the entry at a column of a combination of rows: each cell is the position of a row with its coefficient
unfoldable pub combined_entry : FieldValue → List (List Cell) → List Cell → ℕ → ℕ
combined_entry field rows cells column = sum_by field (λ c. times field c.coefficient (entry field (row_at rows c.column) column)) cells

-- the row at a position is, at every column, this combination of the rows before it
pub record IsCombination (field : FieldValue) (rows : List (List Cell)) (k : ℕ) (cells : List Cell) : Type 0 where
  pub earlier : AllBelow k cells
  pub elements : AllElements field cells
  pub value : (column : ℕ) → entry field (row_at rows k) column ≡ combined_entry field rows cells column

-- the row at a position is some combination of the rows before it
abbrev pub IsDependent : FieldValue → List (List Cell) → ℕ → Type 0
IsDependent field rows k = (cells : List Cell) × IsCombination field rows k cells

-- each column is the position of a row that is no combination of the rows before it
abbrev pub AllFree : FieldValue → List (List Cell) → List Cell → Type 0
AllFree field rows cells = AllByRecursion (λ c. IsDependent field rows c.column → ⊥) cells

-- two lists of positions with coefficients give the same combination of the rows
abbrev pub AreEqualCombinations : FieldValue → List (List Cell) → List Cell → List Cell → Type 0
AreEqualCombinations field rows xs ys = (column : ℕ) → combined_entry field rows xs column ≡ combined_entry field rows ys column
