-- Entries of rows.
use Rattle.std.proofs.Common.{◌≡◌, ◌<◌, ◌≤◌, ◌==◌, ℕ, List, [], ◌∷◌, ◌++◌, map, refl, sym, ◌∙◌, ap, ap₂, arith, ◌+◌, length, get_or, take}
use Rattle.std.proofs.lemmas.List.{take_more}
use Rattle.std.proofs.lemmas.Bool.{eqb-true, eq-eqb, ne_eqb, cond-true, cond-false, cases_order}
use Rattle.nichols_field.specs.Field.{FieldValue, IsField, IsElement, plus, times}
use Rattle.nichols_field.proofs.FieldLaws.{plus_zero, zero_is_element}
use Rattle.nichols_field.proofs.FieldAlgebra.{times_chosen}
use Rattle.nichols_field.proofs.Sums.{sum-append, sum-push, sum-multiple}
use Rattle.nichols_tensor.proofs.Sparse.{Keyed, value_is, value_here, value_elsewhere, others, value_of_others, IsStrict, value_first, values_tell}
use Rattle.nichols_echelon.specs.Cells.{Cell, cell_value, entry, IsRow, AllElements, AllBelow}

pub entry-nil : (k : FieldValue) (column : ℕ) → entry k [] column ≡ 0
unfolding entry
entry-nil k column = refl

pub entry-cons : (k : FieldValue) (c : Cell) (cells : List Cell) (column : ℕ) → entry k (c ∷ cells) column ≡ plus k (cell_value c column) (entry k cells column)
unfolding entry
entry-cons k c cells column = refl

-- rows are sparse vectors by their columns
abbrev pub by_column : Keyed Cell ℕ
by_column = record { key = λ c. c.column; coefficient = λ c. c.coefficient; same = λ c d. c == d; one = eqb-true; itself = λ c. eq-eqb c c refl }

pub column_order : IsStrict (λ (c d : ℕ). c < d)
column_order = record { apart = λ c d h e. absurd (omega (arith, h, e)); onward = λ b c d h k. omega (arith, h, k); cases = cases_order }

pub entry_is_element : (k : FieldValue) → IsField k → (cells : List Cell) (column : ℕ) → IsElement k (entry k cells column)
unfolding entry
entry_is_element k is cells column = value_is by_column k is cells column

pub entry-append : (k : FieldValue) → IsField k → (xs ys : List Cell) (column : ℕ) → entry k (xs ++ ys) column ≡ plus k (entry k xs column) (entry k ys column)
unfolding entry
entry-append k is xs ys column = sum-append k is (λ c. cell_value c column) xs ys

pub entry-push : (k : FieldValue) → IsField k → (cells : List Cell) (c : Cell) (column : ℕ) → entry k (cells ++ c ∷ []) column ≡ plus k (entry k cells column) (cell_value c column)
unfolding entry
entry-push k is cells c column = sum-push k is (λ d. cell_value d column) cells c

-- a cell at the column, and one elsewhere
pub cell_here : (c : Cell) (column : ℕ) → c.column ≡ column → cell_value c column ≡ c.coefficient
cell_here = value_here by_column

pub cell_elsewhere : (c : Cell) (column : ℕ) → (c.column ≡ column → ⊥) → cell_value c column ≡ 0
cell_elsewhere = value_elsewhere by_column

-- the cells with each coefficient multiplied
unfoldable pub scalar_multiple : FieldValue → ℕ → List Cell → List Cell
scalar_multiple k a cells = map (λ c. record { column = c.column; coefficient = times k a c.coefficient }) cells

pub entry-scalar_multiple : (k : FieldValue) → IsField k → (a : ℕ) (cells : List Cell) (column : ℕ) → entry k (scalar_multiple k a cells) column ≡ times k a (entry k cells column)
unfolding entry scalar_multiple
entry-scalar_multiple k is a cells column =
    sum-multiple k is (λ c. cell_value c column) a (λ c. record { column = c.column; coefficient = times k a c.coefficient })
    (λ c. sym (times_chosen k (c.column == column) a c.coefficient is)) cells

-- the cells without those at a column
unfoldable pub without : ℕ → List Cell → List Cell
without m cells = others by_column m cells

pub entry-without_other : (k : FieldValue) → IsField k → (m : ℕ) (cells : List Cell) (column : ℕ) → (column ≡ m → ⊥) → entry k (without m cells) column ≡ entry k cells column
unfolding entry without
entry-without_other k is m cells column n = value_of_others by_column k is m cells column ∙ cond-false (column == m) 0 (entry k cells column) (ne_eqb column m n)

pub entry-without_same : (k : FieldValue) → IsField k → (m : ℕ) (cells : List Cell) → entry k (without m cells) m ≡ 0
unfolding entry without
entry-without_same k is m cells = value_of_others by_column k is m cells m ∙ cond-true (m == m) 0 (entry k cells m) (eq-eqb m m refl)

-- the entry at the first column of a row
pub entry_first : (k : FieldValue) → IsField k → (c : Cell) (cells : List Cell) → IsRow (c ∷ cells) → IsElement k c.coefficient → entry k (c ∷ cells) c.column ≡ c.coefficient
unfolding entry
entry_first k is c cells h ec = value_first by_column column_order k is c cells ec h.rising

-- rows with the same entries are the same
pub row_from_entries : (k : FieldValue) → IsField k → (xs ys : List Cell) → IsRow xs → IsRow ys → AllElements k xs → AllElements k ys → ((column : ℕ) → entry k xs column ≡ entry k ys column) → xs ≡ ys
unfolding entry
row_from_entries k is xs ys hx hy ex ey e =
    let cell : ℕ → ℕ → Cell = λ a b. record { column = a; coefficient = b } in
    values_tell by_column column_order k is (λ x y. ap₂ cell) xs ys ex ey hx.rising hy.rising hx.nonzero hy.nonzero e

-- one more cell in a sum of entries
pub entry_more : (k : FieldValue) → IsField k → (cells : List Cell) (i : ℕ) (c : Cell) (column : ℕ) → i < length cells → c ≡ get_or cells i c →
    entry k (take (i + 1) cells) column ≡ plus k (entry k (take i cells) column) (cell_value c column)
entry_more k is cells i c column h e =
    ap (λ (cs : List Cell). entry k cs column) (take_more cells i c h ∙ ap (λ (d : Cell). take i cells ++ d ∷ []) (sym e)) ∙ entry-push k is (take i cells) c column

-- no entry stands from a bound of the columns on
pub entry_beyond : (k : FieldValue) → IsField k → (n : ℕ) (cells : List Cell) (j : ℕ) → AllBelow n cells → n ≤ j → entry k cells j ≡ 0
entry_beyond k is n [] j h above = entry-nil k j
entry_beyond k is n (c ∷ cells) j h above =
    entry-cons k c cells j ∙ ap₂ (plus k) (cell_elsewhere c j (λ e. let b : c.column < n = h.0 in absurd (omega arith))) (entry_beyond k is n cells j h.1 above) ∙ plus_zero k 0 (zero_is_element k is)
