-- The rows of a degree: numbers of candidates, the products of least words with generators, and the normal forms of candidates.
use Rattle.std.specs.Prelude.{◌≡◌, ◌<◌, ◌+◌, ◌*◌, ◌-◌, ℕ, Bool, true, false, List, [], ◌∷◌, ◌++◌, map, filter, length, take, slice_index}
use Rattle.std.specs.List.{Contains, range_with_len}
use Rattle.nichols_field.specs.Field.{FieldValue, sum_by, times}
use Rattle.nichols_tensor.specs.Combination.{Combination}
use Rattle.nichols_echelon.specs.Cells.{AllElements, Cell, IsRow, entry}
use Rattle.nichols_echelon.specs.Combination.{row_at}
use Rattle.nichols_echelon.specs.Rows.{RowsValue}
use Rattle.nichols_echelon.specs.Split.{place_at}
use Rattle.nichols_echelon.specs.declared.rows.Place.{Place}
use Rattle.nichols_echelon.specs.declared.rows.Place.TheVariants.{Independent, Depends}
use Rattle.nichols_cover.specs.Units.{behind}

-- ---- products

-- cells over least words, with the letter y of n behind each word: `u y`, for the least word u with number i, is the candidate i n + y - 1
abbrev pub cells_followed : ℕ → ℕ → List Cell → List Cell
cells_followed n y cells = map (λ c. record { column = c.column * n + (y - 1); coefficient = c.coefficient }) cells

-- the cells of u x y, for the least word u with a number and a word xy: those of the normal form of u x, with y behind
abbrev pub cells_of_word : ℕ → List (List Cell) → ℕ → List ℕ → List Cell
cells_of_word n forms i w = cells_followed n (slice_index w 1) (row_at forms (i * n + (slice_index w 0 - 1)))

-- the entry of u r at a column
unfoldable pub product_entry : FieldValue → ℕ → List (List Cell) → ℕ → Combination → ℕ → ℕ
product_entry field n forms i r column = sum_by field (λ t. times field t.coefficient (entry field (cells_of_word n forms i t.word) column)) r

-- the row of u r
pub record IsProductRow (field : FieldValue) (n : ℕ) (forms : List (List Cell)) (i : ℕ) (r : Combination) (row : List Cell) : Type 0 where
  pub shape : IsRow row
  pub elements : AllElements field row
  pub entries : (column : ℕ) → entry field row column ≡ product_entry field n forms i r column

-- the rows are those of the entries of a list, in any order
pub record AreRowsOf {X : Type 0} (Is : X → List Cell → Type 0) (xs : List X) (rows : List (List Cell)) : Type 0 where
  pub each : (row : List Cell) → Contains rows row → (x : X) × Contains xs x × Is x row
  pub all : (x : X) → Contains xs x → (row : List Cell) × Contains rows row × Is x row

-- rows of the products of one least word were put behind others
pub record ArePut (field : FieldValue) (n : ℕ) (forms : List (List Cell)) (i : ℕ) (rs : List Combination) (before after : RowsValue) : Type 0 where
  pub added : List (List Cell)
  pub closed : after ≡ record { rows = before.rows ++ added; begun = [] }
  pub rows : AreRowsOf (IsProductRow field n forms i) rs added

-- the rows of the products of the first so many least words with generators
pub record AreProductRows (field : FieldValue) (n : ℕ) (forms : List (List Cell)) (count : ℕ) (rs : List Combination) (rows : List (List Cell)) : Type 0 where
  pub each : (row : List Cell) → Contains rows row → (i : ℕ) × (r : Combination) × (i < count) × Contains rs r × IsProductRow field n forms i r row
  pub all : (i : ℕ) (r : Combination) → i < count → Contains rs r → (row : List Cell) × Contains rows row × IsProductRow field n forms i r row

-- ---- forms

-- whether a place is that of an independent row
abbrev pub is_independent : Place → Bool
is_independent Independent = true
is_independent (Depends cells) = false

-- how many of the first places are
unfoldable pub number_at : List Place → ℕ → ℕ
number_at places k = length (filter is_independent (take k places))

-- cells with the numbers of their columns
abbrev pub numbered : (ℕ → ℕ) → List Cell → List Cell
numbered number cells = map (λ c. record { column = number c.column; coefficient = c.coefficient }) cells

-- the cells of the form of a candidate whose row stands behind so many others: its own number, or what its place says of candidates,
-- by their numbers
abbrev pub form_cells : (ℕ → ℕ) → ℕ → ℕ → Place → List Cell
form_cells number others own Independent = record { column = own; coefficient = 1 } ∷ []
form_cells number others own (Depends cells) = numbered number (behind others cells)

-- those of one candidate of many, each with its place
abbrev pub form_at : ℕ → List Place → ℕ → List Cell
form_at others places k = form_cells (number_at places) others (number_at places k) (place_at places k)

-- those of all
unfoldable pub forms_of : ℕ → List Place → List (List Cell)
forms_of others places = map (form_at others places) (range_with_len 0 (length places))
