-- Which rows depend on the rows before them.
use Rattle.std.specs.Prelude.{◌≡◌, ◌<◌, ℕ, List, length, slice_index_or}
use Rattle.std.specs.List.{AllByRecursion}
use Rattle.nichols_field.specs.Field.{FieldValue}
use Rattle.nichols_echelon.specs.Cells.{Cell, IsRow}
use Rattle.nichols_echelon.specs.Combination.{IsDependent, IsCombination}
use Rattle.nichols_echelon.specs.declared.rows.Place.{Place}
use Rattle.nichols_echelon.specs.declared.rows.Place.TheVariants.{Independent, Depends}

-- the place of the row at a position
abbrev pub place_at : List Place → ℕ → Place
place_at places k = slice_index_or places k Independent

-- each column is the position of an independent row
abbrev pub AllIndependent : List Place → List Cell → Type 0
AllIndependent places cells = AllByRecursion (λ c. place_at places c.column ≡ Independent) cells

-- the cells are a row of positions of independent rows before k, and row k is their combination
pub record IsReduction (field : FieldValue) (rows : List (List Cell)) (places : List Place) (k : ℕ) (cells : List Cell) : Type 0 where
  pub combination : IsCombination field rows k cells
  pub independent : AllIndependent places cells
  pub shape : IsRow cells

-- the place says of row k what holds
abbrev pub IsPlace : FieldValue → List (List Cell) → List Place → ℕ → Place → Type 0
IsPlace field rows places k Independent = IsDependent field rows k → ⊥
IsPlace field rows places k (Depends cells) = IsReduction field rows places k cells

-- one place for each row: an independent row is no combination of the rows before it, any other is the one that its place gives
pub record IsSplit (field : FieldValue) (rows : List (List Cell)) (places : List Place) : Type 0 where
  pub count : length places ≡ length rows
  pub each : (k : ℕ) → k < length rows → IsPlace field rows places k (place_at places k)
