-- The rows of new words are rows, with elements of the field, in as many columns as the lower blocks have words.
use Rattle.std.proofs.Common.{◌≡◌, ◌≢◌, ℕ, zero, suc, ◌+◌, ◌<◌, ◌≤◌, List, [], ◌∷◌, ◌++◌, length, refl, sym, subst, arith}
use Rattle.std.specs.Prelude.{slice_index_or}
use Rattle.std.specs.List.{AllByRecursion}
use Rattle.nichols_field.specs.Field.{FieldValue, IsElement}
use Rattle.nichols_tensor.specs.Positions.{word_at}
use Rattle.nichols_braid.specs.Braid.{BraidValue, IsBraid}
use Rattle.nichols_braid.specs.Forms.{derived_form}
use Rattle.nichols_braid.specs.Kernel.{is_killed}
use Rattle.nichols_echelon.specs.Cells.{Cell, AllBelow, AllElements, AllNonzero, IsBelowFirst, IsRising, IsRow, columns_of}
use Rattle.nichols_echelon.specs.Combination.{AllRowsBelow, AllRowsElements, AreRows, row_at}
use Rattle.nichols_echelon.specs.Parts.{cells_behind}
use Rattle.nichols_echelon.specs.Rows.{RowsValue}
use Rattle.nichols_echelon.proofs.Shapes.{all_rows, row_nil}
use Rattle.nichols_value.specs.Block.{lower_basis}
use Rattle.nichols_block.specs.NewRows.{AreNewRows, columns_to, joined_row}
use Rattle.nichols_block.specs.Rows.{AreNewDerivatives, rows_by}
use Rattle.nichols_block.specs.Words.{block_new_words}
use Rattle.nichols_block.proofs.NewRowEntries.{IsRowOf, row_by_letter}
use Rattle.nichols_tensor.proofs.Over.{all-append, all-weaker}

-- ---- shifted cells

abbrev AllFrom : ℕ → List Cell → Type 0
AllFrom bound cells = AllByRecursion (λ c. bound ≤ c.column) cells

pub shifted_below : (offset n : ℕ) (cells : List Cell) → AllBelow n cells → AllBelow (offset + n) (cells_behind offset cells)
shifted_below offset n [] h = tt
shifted_below offset n (c ∷ cells) h = (omega (arith, h.0), shifted_below offset n cells h.1)

pub shifted_elements : (k : FieldValue) (offset : ℕ) (cells : List Cell) → AllElements k cells → AllElements k (cells_behind offset cells)
shifted_elements k offset [] h = tt
shifted_elements k offset (c ∷ cells) h = (h.0, shifted_elements k offset cells h.1)

shifted_from : (offset : ℕ) (cells : List Cell) → AllFrom offset (cells_behind offset cells)
shifted_from offset [] = tt
shifted_from offset (c ∷ cells) = (omega arith, shifted_from offset cells)

shifted_nonzero : (offset : ℕ) (cells : List Cell) → AllNonzero cells → AllNonzero (cells_behind offset cells)
shifted_nonzero offset [] h = tt
shifted_nonzero offset (c ∷ cells) h = (h.0, shifted_nonzero offset cells h.1)

shifted_rise : (offset : ℕ) (cells : List Cell) → IsRising (columns_of cells) → IsRising (columns_of (cells_behind offset cells))
shifted_rise offset [] h = tt
shifted_rise offset (c ∷ cells) h = (first cells h.0, shifted_rise offset cells h.1)
  where
    first : (ds : List Cell) → IsBelowFirst c.column (columns_of ds) → IsBelowFirst (offset + c.column) (columns_of (cells_behind offset ds))
    first [] e = tt
    first (d ∷ ds) e = omega (arith, e)

-- ---- one row behind another

rise_joined : (xs ys : List Cell) (bound : ℕ) → IsRising (columns_of xs) → AllBelow bound xs → IsRising (columns_of ys) → AllFrom bound ys → IsRising (columns_of (xs ++ ys))
rise_joined [] ys bound r b s f = s
rise_joined (c ∷ []) ys bound r b s f = (first ys f, s)
  where
    first : (zs : List Cell) → AllFrom bound zs → IsBelowFirst c.column (columns_of zs)
    first [] h = tt
    first (z ∷ zs) h = omega (arith, b.0, h.0)
rise_joined (c ∷ d ∷ xs) ys bound r b s f = (r.0, rise_joined (d ∷ xs) ys bound r.1 b.1 s f)

-- cells behind the columns of a row make a row with it
pub row_behind : (xs : List Cell) (offset : ℕ) (cells : List Cell) → IsRow xs → AllBelow offset xs → IsRow cells → IsRow (xs ++ cells_behind offset cells)
row_behind xs offset cells x below h = record {
  rising = rise_joined xs (cells_behind offset cells) offset x.rising below (shifted_rise offset cells h.rising) (shifted_from offset cells);
  nonzero = all-append (λ (c : Cell). c.coefficient ≢ 0) xs (cells_behind offset cells) x.nonzero (shifted_nonzero offset cells h.nonzero);
}

-- ---- the rows of new words

pub columns_more : (braid : BraidValue) (m : ℕ) (g : List ℕ) (a : ℕ) → columns_to braid m g (suc a) ≡ columns_to braid m g a + length (lower_basis braid m g (suc a))
unfolding columns_to
columns_more braid m g a = refl

pub joined_none : (braid : BraidValue) (m : ℕ) (g : List ℕ) (lists : List RowsValue) (i : ℕ) → joined_row braid m g lists i 0 ≡ []
unfolding joined_row
joined_none braid m g lists i = refl

pub joined_more : (braid : BraidValue) (m : ℕ) (g : List ℕ) (lists : List RowsValue) (i a : ℕ) → joined_row braid m g lists i (suc a) ≡ joined_row braid m g lists i a ++ cells_behind (columns_to braid m g a) (slice_index_or (rows_by lists (suc a)).rows i [])
unfolding joined_row
joined_more braid m g lists i a = refl

-- what is known of cells put together
pub record AreJoined (k : FieldValue) (width : ℕ) (cells : List Cell) : Type 0 where
  pub row : IsRow cells
  pub below : AllBelow width cells
  pub elements : AllElements k cells

pub joined_shape : (braid : BraidValue) → IsBraid braid → (m : ℕ) (g : List ℕ) (lists : List RowsValue) → AreNewDerivatives braid (suc m) g lists → (i : ℕ) → i < length (block_new_words braid (suc m) g) → (n : ℕ) → n ≤ braid.letters →
    AreJoined braid.field (columns_to braid (suc m) g n) (joined_row braid (suc m) g lists i n)
unfolding joined_row columns_to
joined_shape braid is m g lists h i within zero less = record { row = row_nil; below = tt; elements = tt }
joined_shape braid is m g lists h i within (suc a) less =
    let offset : ℕ = columns_to braid (suc m) g a in
    let width : ℕ = length (lower_basis braid (suc m) g (suc a)) in
    let cells : List Cell = slice_index_or (rows_by lists (suc a)).rows i [] in
    let before : AreJoined braid.field offset (joined_row braid (suc m) g lists i a) = joined_shape braid is m g lists h i within a (omega (arith, less)) in
    let r : IsRowOf braid.field (lower_basis braid (suc m) g (suc a)) (derived_form is_killed braid (suc m) (word_at (block_new_words braid (suc m) g) i) (suc a)) cells =
    row_by_letter braid is m g lists h i within (suc a) (omega arith, less) in
    record {
      row = row_behind (joined_row braid (suc m) g lists i a) offset cells before.row before.below r.row;
      below = all-append (λ (c : Cell). c.column < offset + width) (joined_row braid (suc m) g lists i a) (cells_behind offset cells)
          (all-weaker (λ (c : Cell). c.column < offset) (λ (c : Cell). c.column < offset + width) (λ c e. omega (arith, e)) (joined_row braid (suc m) g lists i a) before.below) (shifted_below offset width cells r.below);
      elements = all-append (λ (c : Cell). IsElement braid.field c.coefficient) (joined_row braid (suc m) g lists i a) (cells_behind offset cells) before.elements (shifted_elements braid.field offset cells r.elements);
    }

-- the rows of the new words: what a split asks of them
pub record AreSplittable (k : FieldValue) (width : ℕ) (rows : List (List Cell)) : Type 0 where
  pub shape : AreRows rows
  pub elements : AllRowsElements k rows
  pub below : AllRowsBelow width rows

pub new_rows_shape : (braid : BraidValue) → IsBraid braid → (m : ℕ) (g : List ℕ) (lists : List RowsValue) (rows : List (List Cell)) → AreNewDerivatives braid (suc m) g lists → AreNewRows braid (suc m) g lists rows →
    AreSplittable braid.field (columns_to braid (suc m) g braid.letters) rows
new_rows_shape braid is m g lists rows h r = record {
  shape = all_rows IsRow rows (λ i less. (each i less).row);
  elements = all_rows (AllElements braid.field) rows (λ i less. (each i less).elements);
  below = all_rows (AllBelow (columns_to braid (suc m) g braid.letters)) rows (λ i less. (each i less).below);
}
  where
    each : (i : ℕ) → i < length rows → AreJoined braid.field (columns_to braid (suc m) g braid.letters) (row_at rows i)
    each i less =
        subst (AreJoined braid.field (columns_to braid (suc m) g braid.letters)) (sym (r.each i less))
        (joined_shape braid is m g lists h i (let count : length rows ≡ length (block_new_words braid (suc m) g) = r.count in omega arith) braid.letters (omega arith))
