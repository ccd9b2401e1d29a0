-- Sums of rows, as one unreduced number for each place.
use Rattle.std.specs.Prelude.{◌≡◌, ◌≢◌, ◌≤◌, ◌<◌, ◌*◌, ◌/◌, ◌%◌, ◌^◌, ◌++◌, ◌∷◌, [], ◌==◌, ℕ, List, length, slice_index, if◌then◌else◌}
use Rattle.std.specs.Int.{bit_at}
use Rattle.nichols_field.specs.Field.{FieldValue, IsElement, element_of_sum, plus}
use Rattle.nichols_echelon.specs.Cells.{Cell, IsRow, AllElements, AllBelow, entry}
use Rattle.nichols_echelon.specs.Rows.{RowsValue}

-- the sum at a place
abbrev pub sum_at : FieldValue → List ℕ → ℕ → ℕ
sum_at field values place = element_of_sum field (slice_index values place)

-- each sum is 0
abbrev pub IsZero : FieldValue → List ℕ → Type 0
IsZero field values = (place : ℕ) → sum_at field values place ≡ 0

-- a place whose number isn't 0 is marked, by its bit in a word for 64 places
pub record IsMarked (values marks : List ℕ) : Type 0 where
  pub wide : length values ≡ 64 * length marks
  pub short : length values ≤ 2 ^ 32
  pub marked : (place : ℕ) → slice_index values place ≢ 0 → bit_at (slice_index marks (place / 64)) (place % 64) ≡ 1

-- the row that has these sums as its entries
pub record IsSumRow (field : FieldValue) (values : List ℕ) (cells : List Cell) : Type 0 where
  pub row : IsRow cells
  pub elements : AllElements field cells
  pub below : AllBelow (length values) cells
  pub entries : (place : ℕ) → entry field cells place ≡ sum_at field values place

-- the open row of some rows was closed as the row of these sums
pub record IsDrained (field : FieldValue) (values : List ℕ) (before after : RowsValue) : Type 0 where
  pub cells : List Cell
  pub closed : after ≡ record { rows = before.rows ++ cells ∷ []; begun = [] }
  pub sums : IsSumRow field values cells

-- the cells with another behind them, if its coefficient isn't 0
unfoldable pub with_entry : List Cell → ℕ → ℕ → List Cell
with_entry cells place coefficient = if coefficient == 0 then cells else (cells ++ record { column = place; coefficient = coefficient } ∷ [])

-- the sums before a place were taken into the cells of a row
pub record IsDraining (field : FieldValue) (values : List ℕ) (cells : List Cell) (end : ℕ) : Type 0 where
  pub clear : (place : ℕ) → place < end → slice_index values place ≡ 0
  pub row : IsRow cells
  pub elements : AllElements field cells
  pub below : AllBelow end cells

-- what the cells and the sums hold together is the same before and after
abbrev pub KeepsSums : FieldValue → List ℕ → List Cell → List ℕ → List Cell → Type 0
KeepsSums field old before new after =
    (place : ℕ) → plus field (entry field after place) (sum_at field new place) ≡ plus field (entry field before place) (sum_at field old place)

-- numbers only went to 0
abbrev pub OnlyClears : List ℕ → List ℕ → Type 0
OnlyClears old new = (place : ℕ) → slice_index new place ≢ 0 → slice_index new place ≡ slice_index old place

-- each sum from a place on is 0
abbrev pub IsZeroFrom : FieldValue → List ℕ → ℕ → Type 0
IsZeroFrom field values start = (place : ℕ) → start ≤ place → sum_at field values place ≡ 0

-- the last sum other than 0 was taken out as a cell
pub record IsTaken (field : FieldValue) (old new : List ℕ) (cell : Cell) : Type 0 where
  pub nonzero : cell.coefficient ≢ 0
  pub element : IsElement field cell.coefficient
  pub inside : cell.column < length old
  pub here : cell.coefficient ≡ sum_at field old cell.column
  pub gone : IsZeroFrom field new cell.column
  pub rest : (place : ℕ) → place ≢ cell.column → sum_at field new place ≡ sum_at field old place
  pub behind : (place : ℕ) → cell.column < place → sum_at field old place ≡ 0

-- all sums are the same
abbrev pub IsSameSums : FieldValue → List ℕ → List ℕ → Type 0
IsSameSums field old new = (place : ℕ) → sum_at field new place ≡ sum_at field old place
