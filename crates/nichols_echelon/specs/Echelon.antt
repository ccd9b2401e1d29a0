-- What the elimination keeps of the rows that it has seen.
use Rattle.std.specs.Prelude.{◌≡◌, ◌<◌, ◌≤◌, ◌++◌, ℕ, List, [], ◌∷◌, Option, Some, None, length, slice_index, slice_index_or}
use Rattle.std.specs.List.{AllByRecursion}
use Rattle.nichols_field.specs.Field.{FieldValue, IsElement, plus, times, negative}
use Rattle.nichols_echelon.specs.Cells.{Cell, entry, IsRow, AllElements, AllBelow}
use Rattle.nichols_echelon.specs.Combination.{row_at, combined_entry}

-- what is kept of a row: what is left of it, or the row itself where nothing was taken out
abbrev pub kept_row : List Cell → List Cell → List Cell
kept_row row [] = row
kept_row row (c ∷ left) = c ∷ left

-- the same for each of the rows, of which the later ones stand as they are
unfoldable pub kept_rows : List (List Cell) → List (List Cell) → List (List Cell)
kept_rows [] left = left
kept_rows (row ∷ rows) [] = row ∷ rows
kept_rows (row ∷ rows) (cells ∷ left) = kept_row row cells ∷ kept_rows rows left

-- the position of the kept row that ends at a column, if there is one
abbrev pub pivot_at : List (Option ℕ) → ℕ → Option ℕ
pivot_at pivots column = slice_index_or pivots column None

-- the kept row at a position ends at some column of the table
abbrev pub IsClaimed : List (Option ℕ) → ℕ → Type 0
IsClaimed pivots position = (column : ℕ) × (pivot_at pivots column ≡ Some position)

-- each column of the cells is the position of such a row
abbrev pub AllClaimed : List (Option ℕ) → List Cell → Type 0
AllClaimed pivots cells = AllByRecursion (λ c. IsClaimed pivots c.column) cells

-- a row that ends at a column, and minus the inverse of its last coefficient
pub record IsPivot (field : FieldValue) (cells : List Cell) (factor column : ℕ) : Type 0 where
  pub shape : IsRow cells
  pub front : List Cell
  pub last : Cell
  pub parts : cells ≡ front ++ last ∷ []
  pub at : last.column ≡ column
  pub element : IsElement field factor
  pub inverse : times field last.coefficient factor ≡ negative field 1

-- multiples of kept rows before a position
pub record AreSteps (field : FieldValue) (pivots : List (Option ℕ)) (position : ℕ) (steps : List Cell) : Type 0 where
  pub elements : AllElements field steps
  pub below : AllBelow position steps
  pub claimed : AllClaimed pivots steps

-- each row is what is kept of it and its combination of kept rows
abbrev pub AreMade : FieldValue → List (List Cell) → List (List Cell) → List (List Cell) → Type 0
AreMade field rows kept steps = (i : ℕ) → i < length steps → (column : ℕ) →
    entry field (row_at rows i) column ≡ plus field (entry field (row_at kept i) column) (combined_entry field kept (row_at steps i) column)

-- what is left of the first rows, the multiples of kept rows that were taken out of each, and the columns at which the kept rows end
pub record IsEchelon (field : FieldValue) (rows left steps : List (List Cell)) (factors : List ℕ) (pivots : List (Option ℕ)) : Type 0 where
  pub within : length left ≤ length rows
  pub steps_count : length steps ≡ length left
  pub factors_count : length factors ≡ length left
  pub made : AreMade field rows (kept_rows rows left) steps
  pub are_steps : (i : ℕ) → i < length steps → AreSteps field pivots i (row_at steps i)
  pub elements : (i : ℕ) → i < length left → AllElements field (row_at (kept_rows rows left) i)
  pub below : (i : ℕ) → i < length left → AllBelow (length pivots) (row_at (kept_rows rows left) i)
  pub known : (column i : ℕ) → pivot_at pivots column ≡ Some i → (i < length left) × IsPivot field (row_at (kept_rows rows left) i) (slice_index factors i) column
