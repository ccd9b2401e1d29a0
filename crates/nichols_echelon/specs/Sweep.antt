-- What a sweep over the columns of a row leaves of it, and a combination of kept rows as one of rows.
use Rattle.std.specs.Prelude.{◌≡◌, ◌≢◌, ◌<◌, ◌+◌, ℕ, List, Option, Some, None, length}
use Rattle.nichols_field.specs.Field.{FieldValue, IsElement, plus}
use Rattle.nichols_echelon.specs.Cells.{Cell, IsRow, AllElements, AllBelow}
use Rattle.nichols_echelon.specs.Combination.{combined_entry}
use Rattle.nichols_echelon.specs.Sums.{sum_at, IsZero, IsZeroFrom}
use Rattle.nichols_echelon.specs.Echelon.{pivot_at, AllClaimed, AreSteps, AreMade}

-- the last of the sums that isn't 0, at a column where no kept row ends
pub record IsFreeEnd (field : FieldValue) (pivots : List (Option ℕ)) (values : List ℕ) (last : Cell) : Type 0 where
  pub free : pivot_at pivots last.column ≡ None
  pub nonzero : last.coefficient ≢ 0
  pub element : IsElement field last.coefficient
  pub inside : last.column < length values
  pub here : last.coefficient ≡ sum_at field values last.column
  pub behind : IsZeroFrom field values (last.column + 1)

-- all sums are 0, or they end so
abbrev pub EndsFree : FieldValue → List (Option ℕ) → List ℕ → Option Cell → Type 0
EndsFree field pivots values None = IsZero field values
EndsFree field pivots values (Some last) = IsFreeEnd field pivots values last

-- multiples of kept rows were taken out of the sums
pub record IsSwept (field : FieldValue) (kept : List (List Cell)) (pivots : List (Option ℕ)) (position : ℕ) (old new : List ℕ) (last : Option Cell) (steps : List Cell) : Type 0 where
  pub value : (column : ℕ) → sum_at field old column ≡ plus field (sum_at field new column) (combined_entry field kept steps column)
  pub are_steps : AreSteps field pivots position steps
  pub rest : EndsFree field pivots new last

-- a combination of kept rows, as one of the rows that they come from
pub record IsTraced (field : FieldValue) (pivots : List (Option ℕ)) (all_steps : List (List Cell)) (steps cells : List Cell) : Type 0 where
  pub value : (rows kept : List (List Cell)) → AreMade field rows kept all_steps → (column : ℕ) → combined_entry field rows cells column ≡ combined_entry field kept steps column
  pub shape : IsRow cells
  pub elements : AllElements field cells
  pub below : AllBelow (length all_steps) cells
  pub claimed : AllClaimed pivots cells
