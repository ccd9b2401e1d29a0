-- Rows of a sparse matrix over the field: lists of cells.
use Rattle.std.specs.Prelude.{◌≢◌, ◌<◌, ◌==◌, ℕ, List, map, if◌then◌else◌}
use Rattle.std.specs.List.{AllByRecursion}
use Rattle.nichols_field.specs.Field.{FieldValue, IsElement, sum_by, times}
use Rattle.nichols_tensor.specs.Rising.{IsBeforeFirst, IsRisingBy}

-- a cell as contracts see it: a column, and the coefficient there
abbrev pub Cell : Type 0
Cell = record { column : ℕ; coefficient : ℕ }

-- what one cell adds at a column
abbrev pub cell_value : Cell → ℕ → ℕ
cell_value c column = if c.column == column then c.coefficient else 0

-- the entry of a row at a column: the sum of the coefficients there
unfoldable pub entry : FieldValue → List Cell → ℕ → ℕ
entry field cells column = sum_by field (λ c. cell_value c column) cells

-- the cells with each coefficient multiplied
abbrev pub multiple_of : FieldValue → ℕ → List Cell → List Cell
multiple_of field by cells = map (λ c. record { column = c.column; coefficient = times field by c.coefficient }) cells

-- the columns of the cells
abbrev pub columns_of : List Cell → List ℕ
columns_of cells = map (λ c. c.column) cells

-- the column is less than the first of the list, if there is one
abbrev pub IsBelowFirst : ℕ → List ℕ → Type 0
IsBelowFirst column columns = IsBeforeFirst (λ c d. c < d) column columns

-- each column is less than the next
abbrev pub IsRising : List ℕ → Type 0
IsRising columns = IsRisingBy (λ c d. c < d) columns

-- no coefficient is 0
abbrev pub AllNonzero : List Cell → Type 0
AllNonzero cells = AllByRecursion (λ c. c.coefficient ≢ 0) cells

-- each coefficient is an element of the field
abbrev pub AllElements : FieldValue → List Cell → Type 0
AllElements field cells = AllByRecursion (λ c. IsElement field c.coefficient) cells

-- each column is below a bound
abbrev pub AllBelow : ℕ → List Cell → Type 0
AllBelow bound cells = AllByRecursion (λ c. c.column < bound) cells

-- the cells are a row: their columns rise, and no coefficient is 0
pub record IsRow (cells : List Cell) : Type 0 where
  pub rising : IsRising (columns_of cells)
  pub nonzero : AllNonzero cells
