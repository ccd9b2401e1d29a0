-- How far a pass over the words of a block has come.
use Rattle.std.specs.Prelude.{◌≡◌, ◌<◌, ◌-◌, ◌&&◌, ℕ, suc, Bool, not, List, [], ◌∷◌, ◌++◌, map, filter, length, drop, slice_index, slice_set}
use Rattle.std.specs.List.{AllByRecursion, Contains}
use Rattle.nichols_field.specs.Field.{FieldValue}
use Rattle.nichols_tensor.specs.Combination.{Combination, single}
use Rattle.nichols_tensor.specs.Positions.{word_at}
use Rattle.nichols_tensor.specs.Relation.{PlainRelation}
use Rattle.nichols_tensor.specs.Words.{IsWordOver, up_to}
use Rattle.nichols_braid.specs.Braid.{BraidValue, IsLetter}
use Rattle.nichols_braid.specs.Kernel.{is_killed}
use Rattle.nichols_braid.specs.Least.{is_least, normal_form}
use Rattle.nichols_braid.specs.Product.{product_of}
use Rattle.nichols_echelon.specs.Cells.{AllElements, Cell, IsRow, entry}
use Rattle.nichols_echelon.specs.Combination.{combined_entry}
use Rattle.nichols_echelon.specs.Rows.{RowsValue}
use Rattle.nichols_echelon.specs.declared.rows.Place.{Place}
use Rattle.nichols_echelon.specs.declared.rows.Place.TheVariants.{Independent, Depends}
use Rattle.nichols_rows.specs.Places.{independent_in}
use Rattle.nichols_value.specs.declared.spot.Spot.{Spot}
use Rattle.nichols_value.specs.Block.{block_basis, block_relations, left_lower_basis, lower_basis}
use Rattle.nichols_value.specs.Rule.{right_forms}
use Rattle.nichols_value.specs.Kept.{IsSpot, relation_at}
use Rattle.nichols_block.specs.Rows.{AreRowsOf, rows_by}
use Rattle.nichols_block.specs.Words.{block_new_words, but_last, is_left, is_right}

-- the word is one of the block
pub record IsOfBlock (braid : BraidValue) (m : ℕ) (g w : List ℕ) : Type 0 where
  pub size : length w ≡ m
  pub over : IsWordOver braid.letters w
  pub product : product_of braid w ≡ g

-- ---- rows

-- rows with another one behind
abbrev pub with_row : RowsValue → List Cell → RowsValue
with_row rows cells = record { rows = rows.rows ++ cells ∷ []; begun = [] }

-- rows by letter, with another row behind those of a letter
abbrev pub with_row_of : List RowsValue → ℕ → List Cell → List RowsValue
with_row_of lists a cells = slice_set lists (a - 1) (with_row (rows_by lists a) cells)

-- a row that is, at every column, a combination of rows
pub record IsRowSum (field : FieldValue) (rows : List (List Cell)) (cells : List Cell) (row : List Cell) : Type 0 where
  pub shape : IsRow row
  pub elements : AllElements field row
  pub entries : (column : ℕ) → entry field row column ≡ combined_entry field rows cells column

-- such a row was put behind others
pub record IsSumPushed (field : FieldValue) (rows : List (List Cell)) (cells : List Cell) (before after : RowsValue) : Type 0 where
  pub row : List Cell
  pub closed : after ≡ with_row before row
  pub sum : IsRowSum field rows cells row

-- the same, behind those of a letter
pub record IsSumPushedAt (field : FieldValue) (rows : List (List Cell)) (cells : List Cell) (before : List RowsValue) (letter : ℕ) (after : List RowsValue) : Type 0 where
  pub row : List Cell
  pub closed : after ≡ with_row_of before letter row
  pub sum : IsRowSum field rows cells row

-- ---- new words

-- the cells of a row with other columns
abbrev pub cells_at_columns : List ℕ → List Cell → List Cell
cells_at_columns columns cells = map (λ c. record { column = slice_index columns c.column; coefficient = c.coefficient }) cells

-- the cells of the normal form of a new word: of its own place among the least words, or of those that it depends on
abbrev pub new_cells : List ℕ → ℕ → Place → List Cell
new_cells columns least Independent = record { column = least; coefficient = 1 } ∷ []
new_cells columns least (Depends cells) = cells_at_columns columns cells

-- how many least words there are, with a new word more
abbrev pub least_more : ℕ → Place → ℕ
least_more least Independent = suc least
least_more least (Depends cells) = least

-- the spots, with that of a new word that depends on others
abbrev pub spots_more : List Spot → ℕ → ℕ → Place → List Spot
spots_more spots b k Independent = spots
spots_more spots b k (Depends cells) = spots ++ record { letter = b; place = k } ∷ []

-- whether a word is least both without its last letter and without its first one
abbrev pub is_both : BraidValue → List ℕ → Bool
is_both braid w = is_least is_killed braid (but_last w) && is_least is_killed braid (drop 1 w)

-- ---- the pass

-- of the words `image u`, for u in a list, those that the pass has met have their rows, and the others are still ahead
pub record IsSide (ws us : List (List ℕ)) (image : List ℕ → List ℕ) (form : List ℕ → Combination) (test : List ℕ → Bool) (rest : List (List ℕ)) (kept : RowsValue) : Type 0 where
  pub done : List (List ℕ)
  pub ahead : List (List ℕ)
  pub parts : us ≡ done ++ ahead
  pub rows : AreRowsOf ws (map (λ u. form (image u)) done) kept
  pub words : filter test rest ≡ map image ahead

-- each new word that the pass has met has a number, which is its place among the least words if it is one of them
pub record IsNumbering (ws new : List (List ℕ)) (places : List Place) (test : List ℕ → Bool) (rest : List (List ℕ)) (columns : List ℕ) (least : ℕ) : Type 0 where
  pub done : List (List ℕ)
  pub ahead : List (List ℕ)
  pub places_done : List Place
  pub places_ahead : List Place
  pub parts : new ≡ done ++ ahead
  pub places_parts : places ≡ places_done ++ places_ahead
  pub as_many : length places_done ≡ length done
  pub numbers : length columns ≡ length done
  pub words : filter test rest ≡ ahead
  pub count : least ≡ length (independent_in done places_done)
  pub turns : (p : ℕ) → p < length columns → Contains ws (word_at new p) → (slice_index columns p < length ws) × (word_at ws (slice_index columns p) ≡ word_at new p)

-- whether a word is the candidate of a relation
abbrev pub is_related : BraidValue → List ℕ → Bool
is_related braid w = is_least is_killed braid (but_last w) && not (is_least is_killed braid w)

-- the relation of a word
abbrev pub own_relation : BraidValue → ℕ → List ℕ → PlainRelation
own_relation braid m w = record { candidate = w; form = normal_form is_killed braid m (single w) }

-- the relations of the block are those at the spots, and those of the words ahead
pub record IsTable (braid : BraidValue) (m : ℕ) (g : List ℕ) (rest : List (List ℕ)) (spots : List Spot) : Type 0 where
  pub inside : AllByRecursion (IsSpot (map (lower_basis braid m g) (up_to braid.letters))) spots
  pub table : map (relation_at (map (lower_basis braid m g) (up_to braid.letters)) (map (right_forms braid m g) (up_to braid.letters))) spots ++ map (own_relation braid m) (filter (is_related braid) rest) ≡ block_relations braid m g

-- the right rows and the left rows of a letter, as far as the pass has come
abbrev pub IsRightSide : BraidValue → ℕ → List ℕ → List (List ℕ) → List RowsValue → ℕ → Type 0
IsRightSide braid m g rest right b =
    IsSide (block_basis braid m g) (lower_basis braid m g b) (λ u. u ++ b ∷ []) (λ w. normal_form is_killed braid m (single w)) (is_right braid b) rest (rows_by right b)

abbrev pub IsLeftSide : BraidValue → ℕ → List ℕ → List (List ℕ) → List RowsValue → ℕ → Type 0
IsLeftSide braid m g rest left a =
    IsSide (block_basis braid m g) (left_lower_basis braid m g a) (λ v. a ∷ v) (λ w. normal_form is_killed braid m (single w)) (is_left braid a) rest (rows_by left a)

-- all of it, with these words ahead
pub record IsPassing (braid : BraidValue) (m : ℕ) (g : List ℕ) (places : List Place) (rest : List (List ℕ)) (rights lefts : List RowsValue) (spots : List Spot) (columns : List ℕ) (least : ℕ) : Type 0 where
  pub right_letters : length rights ≡ braid.letters
  pub left_letters : length lefts ≡ braid.letters
  pub right : (b : ℕ) → IsLetter braid b → IsRightSide braid m g rest rights b
  pub left : (a : ℕ) → IsLetter braid a → IsLeftSide braid m g rest lefts a
  pub new : IsNumbering (block_basis braid m g) (block_new_words braid m g) places (is_both braid) rest columns least
  pub table : IsTable braid m g rest spots
