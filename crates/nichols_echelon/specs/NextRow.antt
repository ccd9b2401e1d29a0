-- What the elimination makes of the next row.
use Rattle.std.specs.Prelude.{◌≡◌, ◌<◌, ◌++◌, ℕ, List, [], ◌∷◌, Option, Some, None, length, slice_set}
use Rattle.nichols_field.specs.Field.{FieldValue, plus}
use Rattle.nichols_echelon.specs.Cells.{Cell, entry, AllElements, AllBelow}
use Rattle.nichols_echelon.specs.Combination.{row_at, combined_entry}
use Rattle.nichols_echelon.specs.Split.{place_at, IsPlace}
use Rattle.nichols_echelon.specs.Echelon.{kept_row, kept_rows, pivot_at, IsClaimed, IsPivot, AreSteps, IsEchelon}
use Rattle.nichols_echelon.specs.Sweep.{IsTraced}
use Rattle.nichols_echelon.specs.declared.echelon.Echelon.{Echelon}
use Rattle.nichols_echelon.specs.declared.rows.Place.{Place}
use Rattle.nichols_echelon.specs.declared.rows.Place.TheVariants.{Independent, Depends}

-- the elimination, as it stands
abbrev pub Holds : FieldValue → List (List Cell) → Echelon → Type 0
Holds field rows e = IsEchelon field rows e.left.rows e.steps.rows e.factors.items e.pivots.items

-- a row more was seen: what is left of it, the multiples taken out, the factor, and the new table of columns
pub record IsGrown (old new : Echelon) (left steps : List Cell) (factor : ℕ) (pivots : List (Option ℕ)) : Type 0 where
  pub new_left : new.left ≡ record { rows = old.left.rows ++ left ∷ []; begun = [] }
  pub new_steps : new.steps ≡ record { rows = old.steps.rows ++ steps ∷ []; begun = [] }
  pub new_factors : new.factors.items ≡ old.factors.items ++ factor ∷ []
  pub new_pivots : new.pivots.items ≡ pivots

-- the next row is kept, and ends at a column where no kept row ended
pub record IsKept (field : FieldValue) (rows : List (List Cell)) (old new : Echelon) : Type 0 where
  pub left : List Cell
  pub steps : List Cell
  pub factor : ℕ
  pub column : ℕ
  pub grown : IsGrown old new left steps factor (slice_set old.pivots.items column (Some (length old.left.rows)))
  pub free : pivot_at old.pivots.items column ≡ None
  pub pivot : IsPivot field (kept_row (row_at rows (length old.left.rows)) left) factor column
  pub elements : AllElements field (kept_row (row_at rows (length old.left.rows)) left)
  pub below : AllBelow (length old.pivots.items) (kept_row (row_at rows (length old.left.rows)) left)
  pub are_steps : AreSteps field old.pivots.items (length old.left.rows) steps
  pub value : (x : ℕ) → entry field (row_at rows (length old.left.rows)) x ≡
      plus field (entry field (kept_row (row_at rows (length old.left.rows)) left) x) (combined_entry field (kept_rows rows old.left.rows) steps x)

-- the next row is a combination of kept rows, and so of rows
pub record IsSpent (field : FieldValue) (rows : List (List Cell)) (old new : Echelon) (cells : List Cell) : Type 0 where
  pub steps : List Cell
  pub grown : IsGrown old new [] [] 0 old.pivots.items
  pub value : (x : ℕ) → entry field (row_at rows (length old.left.rows)) x ≡ combined_entry field (kept_rows rows old.left.rows) steps x
  pub traced : IsTraced field old.pivots.items old.steps.rows steps cells

-- what is kept and answered of the next row
abbrev pub IsNextRow : FieldValue → List (List Cell) → Echelon → Echelon → Place → Type 0
IsNextRow field rows old new Independent = IsKept field rows old new
IsNextRow field rows old new (Depends cells) = IsSpent field rows old new cells

-- the places are those of the first rows, and the independent ones are kept
pub record Follows (field : FieldValue) (rows : List (List Cell)) (pivots : List (Option ℕ)) (places : List Place) : Type 0 where
  pub each : (i : ℕ) → i < length places → IsPlace field rows places i (place_at places i)
  pub claimed : (i : ℕ) → i < length places → place_at places i ≡ Independent → IsClaimed pivots i
  pub independent : (i : ℕ) → IsClaimed pivots i → place_at places i ≡ Independent
