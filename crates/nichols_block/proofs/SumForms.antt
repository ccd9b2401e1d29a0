-- A sum of rows that are forms is the form that is read from them.
use Rattle.std.proofs.lemmas.List.Elements.{All-from_recursion}
use Rattle.std.proofs.Common.{◌≡◌, ◌≢◌, subst, ℕ, ◌+◌, ◌<◌, ◌≤◌, List, [], ◌∷◌, ◌++◌, length, take, get_or, sym, ◌∙◌, ap, ap₂, arith, inl, inr}
use Rattle.std.specs.List.{AllByRecursion}
use Rattle.std.proofs.lemmas.Bool.{cases_lt}
use Rattle.std.proofs.lemmas.List.{take_more}
use Rattle.nichols_field.specs.Field.{FieldValue, IsElement, IsField, plus, times}
use Rattle.nichols_field.proofs.FieldLaws.{plus_comm, plus_zero, times_is_element, times_zero, zero_is_element}
use Rattle.nichols_tensor.specs.Combination.{Combination, AllAmong, AllElements, linear_map, value_at}
use Rattle.nichols_tensor.specs.InOrder.{in_order}
use Rattle.nichols_tensor.specs.Positions.{word_at}
use Rattle.nichols_tensor.specs.WordOrder.{IsOrdered, IsRising}
use Rattle.nichols_tensor.proofs.InOrder.{value_at-in_order}
use Rattle.nichols_tensor.proofs.Values.{weight, value_at-linear_map}
use Rattle.nichols_echelon.specs.Cells.{AllBelow, AllNonzero, Cell, IsRow, entry, multiple_of}
use Rattle.nichols_echelon.specs.Cells.{AllElements as AllCellsElements}
use Rattle.nichols_echelon.specs.Combination.{AllRowsBelow, AllRowsElements, AreRows, combined_entry, row_at}
use Rattle.nichols_echelon.specs.Rows.{RowsValue}
use Rattle.nichols_echelon.specs.Sums.{IsZero, sum_at}
use Rattle.nichols_echelon.proofs.Combinations.{combined_entry-cons, combined_entry-nil, combined_entry-push}
use Rattle.nichols_echelon.proofs.Multiples.{multiple_elements, multiple_entry, multiple_row}
use Rattle.nichols_echelon.proofs.Entries.{cell_elsewhere, entry-cons, entry-nil, entry_beyond, entry_first, entry_is_element}
use Rattle.nichols_echelon.proofs.Shapes.{row_front, row_of_all}
use Rattle.nichols_rows.specs.CombinationAt.{combination_at}
use Rattle.nichols_value.specs.Kept.{AreCellsOf}
use Rattle.nichols_value.proofs.FormCells.{cells_of_form, entry_at_place}
use Rattle.nichols_block.specs.Pass.{IsRowSum, IsSumPushed, with_row}

-- ---- the loop

-- the sums are those of the first cells
pub record AreSummed (k : FieldValue) (rows : List (List Cell)) (cells : List Cell) (values : List ℕ) : Type 0 where
  pub sums : (place : ℕ) → sum_at k values place ≡ combined_entry k rows cells place

pub summed_start : (k : FieldValue) (rows : List (List Cell)) (values : List ℕ) → IsZero k values → AreSummed k rows [] values
summed_start k rows values zero_sums = record { sums = λ place. zero_sums place ∙ sym (combined_entry-nil k rows place) }

pub summed_more : (k : FieldValue) → IsField k → (rows : List (List Cell)) (cells row : List Cell) (i : ℕ) (c : Cell) (old new : List ℕ) → i < length cells → c ≡ get_or cells i c → row ≡ row_at rows c.column → AreSummed k rows (take i cells) old →
    ((place : ℕ) → sum_at k new place ≡ plus k (sum_at k old place) (times k c.coefficient (entry k row place))) → AreSummed k rows (take (i + 1) cells) new
summed_more k is rows cells row i c old new less at row_is before added = record {
  sums = λ place.
      added place ∙ ap₂ (λ n (r : List Cell). plus k n (times k c.coefficient (entry k r place))) (before.sums place) row_is ∙ sym (combined_entry-push k is rows (take i cells) c place)
      ∙ ap (λ (xs : List Cell). combined_entry k rows xs place) (sym (take_more cells i c less ∙ ap (λ (d : Cell). take i cells ++ d ∷ []) (sym at)));
}

-- ---- sums of one row, or of none

pub no_row_sum : (k : FieldValue) (rows : List (List Cell)) → IsRowSum k rows [] []
no_row_sum k rows = record { shape = record { rising = tt; nonzero = tt }; elements = tt; entries = λ column. entry-nil k column ∙ sym (combined_entry-nil k rows column) }

pub one_row_sum : (k : FieldValue) → IsField k → (rows : List (List Cell)) (c : Cell) → IsElement k c.coefficient → c.coefficient ≢ 0 → IsRow (row_at rows c.column) → AllCellsElements k (row_at rows c.column) →
    IsRowSum k rows (c ∷ []) (multiple_of k c.coefficient (row_at rows c.column))
one_row_sum k is rows c element nonzero row elements = record {
  shape = multiple_row k is c.coefficient element nonzero (row_at rows c.column) elements row;
  elements = multiple_elements k is c.coefficient (row_at rows c.column);
  entries = λ column.
      let v : ℕ = times k c.coefficient (entry k (row_at rows c.column) column) in
      multiple_entry k is c.coefficient (row_at rows c.column) column
      ∙ sym (combined_entry-cons k rows c [] column ∙ ap (plus k v) (combined_entry-nil k rows column) ∙ plus_zero k v (times_is_element k c.coefficient (entry k (row_at rows c.column) column) is));
}

pub pushed_none : (k : FieldValue) (rows : List (List Cell)) (cells : List Cell) (before after : RowsValue) → cells ≡ [] → before.begun ≡ [] → after ≡ record { rows = before.rows ++ before.begun ∷ []; begun = [] } → IsSumPushed k rows cells before after
pushed_none k rows cells before after e begun closed = record {
  row = [];
  closed = closed ∙ ap (with_row before) begun;
  sum = subst (λ (cs : List Cell). IsRowSum k rows cs []) (sym e) (no_row_sum k rows);
}

pub pushed_one : (k : FieldValue) → IsField k → (rows : List (List Cell)) (cells : List Cell) (c : Cell) (row : List Cell) (before after : RowsValue) → cells ≡ c ∷ [] → AllCellsElements k cells → AllNonzero cells → AllBelow (length rows) cells → AreRows rows → AllRowsElements k rows →
    row ≡ row_at rows c.column → after ≡ with_row before (multiple_of k c.coefficient row) → IsSumPushed k rows cells before after
pushed_one k is rows cells c row before after e factors nonzero places shape elements is_row closed =
    let own : AllCellsElements k (c ∷ []) = subst (AllCellsElements k) e factors in
    let other : AllNonzero (c ∷ []) = subst AllNonzero e nonzero in
    let place : AllBelow (length rows) (c ∷ []) = subst (AllBelow (length rows)) e places in
    record {
      row = multiple_of k c.coefficient (row_at rows c.column);
      closed = closed ∙ ap (λ (r : List Cell). with_row before (multiple_of k c.coefficient r)) is_row;
      sum = subst (λ (cs : List Cell). IsRowSum k rows cs (multiple_of k c.coefficient (row_at rows c.column))) (sym e)
          (one_row_sum k is rows c own.0 other.0 (All-from_recursion IsRow rows shape c.column [] place.0) (All-from_recursion (AllCellsElements k) rows elements c.column [] place.0));
    }

-- ---- its form

-- a row whose entries from a column on are 0 has no such column
pub below_by_entries : (k : FieldValue) → IsField k → (n : ℕ) (row : List Cell) → IsRow row → AllCellsElements k row → ((column : ℕ) → n ≤ column → entry k row column ≡ 0) → AllBelow n row
below_by_entries k is n [] shape elements none = tt
below_by_entries k is n (c ∷ row) shape elements none = (here, below_by_entries k is n row (row_front c row shape).2 elements.1 later)
  where
    here : c.column < n
    here =
        elim (cases_lt c.column n) [
          | inl less ↦ less
          | inr more ↦ absurd ((row_front c row shape).0 (sym (entry_first k is c row shape elements.0) ∙ none c.column more))
        ]

    later : (column : ℕ) → n ≤ column → entry k row column ≡ 0
    later column more =
        sym (plus_comm k 0 (entry k row column) ∙ plus_zero k (entry k row column) (entry_is_element k is row column))
        ∙ ap (λ v. plus k v (entry k row column)) (sym (cell_elsewhere c column (λ e. absurd (let l : c.column < n = here in omega arith)))) ∙ sym (entry-cons k c row column) ∙ none column more

combined_beyond : (k : FieldValue) → IsField k → (rows : List (List Cell)) (n : ℕ) → AllRowsBelow n rows → (cells : List Cell) (column : ℕ) → n ≤ column → combined_entry k rows cells column ≡ 0
combined_beyond k is rows n below [] column more = combined_entry-nil k rows column
combined_beyond k is rows n below (c ∷ cells) column more =
    combined_entry-cons k rows c cells column
    ∙ ap₂ (plus k) (ap (times k c.coefficient) (entry_beyond k is n (row_at rows c.column) column (row_of_all (AllBelow n) rows tt below c.column) more) ∙ times_zero k c.coefficient is)
    (combined_beyond k is rows n below cells column more) ∙ plus_zero k 0 (zero_is_element k is)

-- the value at a word of what is read
read_value : (k : FieldValue) → IsField k → (ws us : List (List ℕ)) → IsRising ws → (image : List ℕ → Combination) (rows : List (List Cell)) → AllRowsBelow (length ws) rows → (cells : List Cell) →
    AllByRecursion (λ (c : Cell). combination_at ws (row_at rows c.column) ≡ image (word_at us c.column)) cells → (p : ℕ) → p < length ws →
    combined_entry k rows cells p ≡ weight k (λ v. value_at k (image v) (word_at ws p)) (combination_at us cells)
unfolding weight
read_value k is ws us rising image rows below [] forms p less = combined_entry-nil k rows p
read_value k is ws us rising image rows below (c ∷ cells) forms p less =
    combined_entry-cons k rows c cells p
    ∙ ap₂ (λ m n. plus k (times k c.coefficient m) n)
    (entry_at_place k ws rising (row_at rows c.column) (row_of_all (AllBelow (length ws)) rows tt below c.column) p less ∙ ap (λ (f : Combination). value_at k f (word_at ws p)) forms.0)
    (read_value k is ws us rising image rows below cells forms.1 p less)

-- the row of the sum is that of the form
pub sum_form : (k : FieldValue) → IsField k → (ws us : List (List ℕ)) → IsRising ws → (image : List ℕ → Combination) (rows : List (List Cell)) → AllRowsBelow (length ws) rows → (cells row : List Cell) →
    AllByRecursion (λ (c : Cell). combination_at ws (row_at rows c.column) ≡ image (word_at us c.column)) cells → IsRowSum k rows cells row → (f : Combination) → f ≡ in_order k (linear_map k image (combination_at us cells)) →
    AllAmong f ws → IsOrdered f → AllElements k f → AreCellsOf ws f row
sum_form k is ws us rising image rows below cells row forms sum f read among ordered elements =
    cells_of_form k is ws f row rising sum.shape (below_by_entries k is (length ws) row sum.shape sum.elements (λ column more. sum.entries column ∙ combined_beyond k is rows (length ws) below cells column more)) sum.elements
    among ordered elements
    (λ p less.
    sum.entries p ∙ read_value k is ws us rising image rows below cells forms p less ∙ sym (value_at-linear_map k is image (combination_at us cells) (word_at ws p))
    ∙ sym (value_at-in_order k is (linear_map k image (combination_at us cells)) (word_at ws p)) ∙ ap (λ (g : Combination). value_at k g (word_at ws p)) (sym read))
