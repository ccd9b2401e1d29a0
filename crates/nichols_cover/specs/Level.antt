-- A degree of the cover, as rows of numbers.
use Rattle.std.specs.Prelude.{◌≡◌, ◌<◌, ◌*◌, ◌^◌, ℕ, zero, suc, List, [], length}
use Rattle.nichols_field.specs.Field.{FieldValue}
use Rattle.nichols_tensor.specs.Combination.{AllElements, Combination, single}
use Rattle.nichols_tensor.specs.Positions.{word_at}
use Rattle.nichols_tensor.specs.Relation.{PlainRelation}
use Rattle.nichols_tensor.specs.Words.{HasDegree, IsOver, IsWordOver}
use Rattle.nichols_braid.specs.Least.{basis, candidates, normal_form}
use Rattle.nichols_echelon.specs.Cells.{AllBelow, Cell}
use Rattle.nichols_echelon.specs.Cells.{AllElements as AllCellsElements}
use Rattle.nichols_echelon.specs.Combination.{AllRowsBelow, AllRowsElements, row_at}
use Rattle.nichols_echelon.specs.declared.rows.Place.{Place}
use Rattle.nichols_rows.specs.CombinationAt.{combination_at}
use Rattle.nichols_cover.specs.Cover.{cover_dimension, without_tables}
use Rattle.nichols_cover.specs.Ideal.{in_ideal}
use Rattle.nichols_cover.specs.Rows.{forms_of, number_at}
use Rattle.nichols_cover.specs.declared.level.Level.{Level}

-- a relation between words of two of n letters, with coefficients in the field
pub record IsQuadraticRelation (field : FieldValue) (n : ℕ) (r : PlainRelation) : Type 0 where
  pub size : length r.candidate ≡ 2
  pub over : IsWordOver n r.candidate
  pub form_size : HasDegree 2 r.form
  pub form_over : IsOver n r.form
  pub elements : AllElements field r.form

-- the cells of a combination of least words
pub record AreFormCells (field : FieldValue) (ws : List (List ℕ)) (f : Combination) (cells : List Cell) : Type 0 where
  pub below : AllBelow (length ws) cells
  pub elements : AllCellsElements field cells
  pub form : combination_at ws cells ≡ f

-- the forms of a level are rows over its least words, one for each of n letters behind each of the least words below
pub record IsTable (field : FieldValue) (n : ℕ) (level : Level) : Type 0 where
  pub rows : length level.forms.rows ≡ level.below * n
  pub few : length level.forms.rows < 2 ^ 32
  pub below : AllRowsBelow level.count level.forms.rows
  pub elements : AllRowsElements field level.forms.rows

-- a level was made from the places of its candidates' own rows, which stood behind others; there are so many least words below
pub record IsMadeOf (others : ℕ) (places : List Place) (lower : ℕ) (level : Level) : Type 0 where
  pub below : level.below ≡ lower
  pub count : level.count ≡ number_at places (length places)
  pub few : level.count < 2 ^ 32
  pub forms : level.forms ≡ record { rows = forms_of others places; begun = [] }

-- the dimension of the degree below; 0 in degree 0
abbrev pub dimension_below : FieldValue → ℕ → List Combination → ℕ → ℕ
dimension_below field n rs zero = 0
dimension_below field n rs (suc m) = cover_dimension field n rs m

-- the least words of a degree of the cover, and the normal forms of the candidates over them
abbrev pub least_words : FieldValue → ℕ → List Combination → ℕ → List (List ℕ)
least_words field n rs m = basis (in_ideal rs) (without_tables field n) m

abbrev pub candidate_form : FieldValue → ℕ → List Combination → ℕ → ℕ → Combination
candidate_form field n rs m k = normal_form (in_ideal rs) (without_tables field n) m (single (word_at (candidates (in_ideal rs) (without_tables field n) m) k))

-- a level stands for degree m: it has the number of its least words and of those below, and the normal form of each candidate, fewer
-- than 2 ^ 32
pub record StandsFor (field : FieldValue) (n : ℕ) (rs : List Combination) (m : ℕ) (level : Level) : Type 0 where
  pub below : level.below ≡ dimension_below field n rs m
  pub count : level.count ≡ cover_dimension field n rs m
  pub rows : length level.forms.rows ≡ level.below * n
  pub few : length level.forms.rows < 2 ^ 32
  pub forms : (k : ℕ) → k < length level.forms.rows → AreFormCells field (least_words field n rs m) (candidate_form field n rs m k) (row_at level.forms.rows k)
