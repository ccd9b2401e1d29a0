-- Combinations of rows.
use Rattle.std.proofs.Common.{◌≡◌, ◌≢◌, ◌<◌, ◌==◌, ℕ, suc, Bool, true, false, not, cond, List, [], ◌∷◌, ◌++◌, refl, sym, ◌∙◌, ap, ap₂, arith}
use Rattle.std.proofs.lemmas.Bool.{eqb-false}
use Rattle.nichols_field.specs.Field.{FieldValue, IsField, IsElement, plus, times, negative}
use Rattle.nichols_field.proofs.FieldLaws.{times_assoc, times_is_element}
use Rattle.nichols_field.proofs.FieldAlgebra.{same_from_difference, difference_of_same}
use Rattle.nichols_echelon.specs.Cells.{Cell, entry, AllElements, AllBelow}
use Rattle.nichols_echelon.specs.Combination.{row_at, combined_entry}
use Rattle.nichols_echelon.proofs.Entries.{by_column, entry-append, entry-scalar_multiple, scalar_multiple, without}
use Rattle.nichols_field.proofs.Sums.{sum_is_element, sum-append, sum-push, sum-multiple}
use Rattle.nichols_tensor.proofs.Sparse.{weighted, sum_split, weightless_by}
use Rattle.nichols_tensor.proofs.Over.{all-append}

pub combined_entry-nil : (k : FieldValue) (rows : List (List Cell)) (column : ℕ) → combined_entry k rows [] column ≡ 0
unfolding combined_entry
combined_entry-nil k rows column = refl

pub combined_entry-cons : (k : FieldValue) (rows : List (List Cell)) (c : Cell) (cells : List Cell) (column : ℕ) →
    combined_entry k rows (c ∷ cells) column ≡ plus k (times k c.coefficient (entry k (row_at rows c.column) column)) (combined_entry k rows cells column)
unfolding combined_entry
combined_entry-cons k rows c cells column = refl

pub combined_is_element : (k : FieldValue) → IsField k → (rows : List (List Cell)) (cells : List Cell) (column : ℕ) → IsElement k (combined_entry k rows cells column)
unfolding combined_entry
combined_is_element k is rows cells column = sum_is_element k is (weighted by_column k (λ j. entry k (row_at rows j) column)) cells

pub combined_entry-append : (k : FieldValue) → IsField k → (rows : List (List Cell)) (xs ys : List Cell) (column : ℕ) →
    combined_entry k rows (xs ++ ys) column ≡ plus k (combined_entry k rows xs column) (combined_entry k rows ys column)
unfolding combined_entry
combined_entry-append k is rows xs ys column = sum-append k is (weighted by_column k (λ j. entry k (row_at rows j) column)) xs ys

pub combined_entry-push : (k : FieldValue) → IsField k → (rows : List (List Cell)) (xs : List Cell) (c : Cell) (column : ℕ) →
    combined_entry k rows (xs ++ c ∷ []) column ≡ plus k (combined_entry k rows xs column) (times k c.coefficient (entry k (row_at rows c.column) column))
unfolding combined_entry
combined_entry-push k is rows xs c column = sum-push k is (weighted by_column k (λ j. entry k (row_at rows j) column)) xs c

pub combined_entry-scalar_multiple : (k : FieldValue) → IsField k → (rows : List (List Cell)) (a : ℕ) (cells : List Cell) (column : ℕ) →
    combined_entry k rows (scalar_multiple k a cells) column ≡ times k a (combined_entry k rows cells column)
unfolding combined_entry scalar_multiple
combined_entry-scalar_multiple k is rows a cells column =
    sum-multiple k is (weighted by_column k (λ j. entry k (row_at rows j) column)) a (λ c. record { column = c.column; coefficient = times k a c.coefficient })
    (λ c. times_assoc k a c.coefficient (entry k (row_at rows c.column) column)) cells

pub all_below-scalar_multiple : (k : FieldValue) (a n : ℕ) (cells : List Cell) → AllBelow n cells → AllBelow n (scalar_multiple k a cells)
unfolding scalar_multiple
all_below-scalar_multiple k a n [] h = tt
all_below-scalar_multiple k a n (c ∷ cells) h = (h.0, all_below-scalar_multiple k a n cells h.1)

pub all_elements-scalar_multiple : (k : FieldValue) → IsField k → (a : ℕ) (cells : List Cell) → AllElements k (scalar_multiple k a cells)
unfolding scalar_multiple
all_elements-scalar_multiple k is a [] = tt
all_elements-scalar_multiple k is a (c ∷ cells) = (times_is_element k a c.coefficient is, all_elements-scalar_multiple k is a cells)

-- the cells below a bound without those at the last position
without_below : (n : ℕ) (b : Bool) (c : Cell) (cells : List Cell) → AllBelow n cells → (b ≡ false → c.column < n) → AllBelow n (cond (not b) (c ∷ cells) cells)
without_below n true c cells h l = h
without_below n false c cells h l = (l refl, h)

pub all_below-without : (n : ℕ) (cells : List Cell) → AllBelow (suc n) cells → AllBelow n (without n cells)
unfolding without
all_below-without n [] h = tt
all_below-without n (c ∷ cells) h =
    without_below n (c.column == n) c (without n cells) (all_below-without n cells h.1)
    (λ e. let there : c.column ≢ n = eqb-false c.column n e in let below : c.column < suc n = h.0 in omega arith)

-- a combination is the part of one position and that of the others
pub combined_split : (k : FieldValue) → IsField k → (rows : List (List Cell)) (m : ℕ) (cells : List Cell) (column : ℕ) →
    combined_entry k rows cells column ≡ plus k (times k (entry k cells m) (entry k (row_at rows m) column)) (combined_entry k rows (without m cells) column)
unfolding entry combined_entry without
combined_split k is rows m cells column = sum_split by_column k is (λ j. entry k (row_at rows j) column) m cells

-- cells that cancel at each position combine to 0
pub combined_of_zero : (k : FieldValue) → IsField k → (rows : List (List Cell)) (cells : List Cell) → ((j : ℕ) → entry k cells j ≡ 0) → (column : ℕ) → combined_entry k rows cells column ≡ 0
unfolding entry combined_entry
combined_of_zero k is rows cells none column = weightless_by by_column k is (λ j. entry k (row_at rows j) column) cells none

-- what two lists of cells have at each position, less the one from the other
unfoldable pub minus : FieldValue → List Cell → List Cell → List Cell
minus k xs ys = xs ++ scalar_multiple k (negative k 1) ys

pub entry-minus : (k : FieldValue) → IsField k → (xs ys : List Cell) (j : ℕ) → entry k (minus k xs ys) j ≡ plus k (entry k xs j) (times k (negative k 1) (entry k ys j))
unfolding minus
entry-minus k is xs ys j = entry-append k is xs (scalar_multiple k (negative k 1) ys) j ∙ ap (plus k (entry k xs j)) (entry-scalar_multiple k is (negative k 1) ys j)

pub combined_entry-minus : (k : FieldValue) → IsField k → (rows : List (List Cell)) (xs ys : List Cell) (column : ℕ) →
    combined_entry k rows (minus k xs ys) column ≡ plus k (combined_entry k rows xs column) (times k (negative k 1) (combined_entry k rows ys column))
unfolding minus
combined_entry-minus k is rows xs ys column =
    combined_entry-append k is rows xs (scalar_multiple k (negative k 1) ys) column ∙ ap (plus k (combined_entry k rows xs column)) (combined_entry-scalar_multiple k is rows (negative k 1) ys column)

pub all_below-minus : (k : FieldValue) (n : ℕ) (xs ys : List Cell) → AllBelow n xs → AllBelow n ys → AllBelow n (minus k xs ys)
unfolding minus
all_below-minus k n xs ys h g = all-append (λ c. c.column < n) xs (scalar_multiple k (negative k 1) ys) h (all_below-scalar_multiple k (negative k 1) n ys g)

-- cells with the same sum at each position combine to the same
pub combined_from_entries : (k : FieldValue) → IsField k → (rows : List (List Cell)) (xs ys : List Cell) → ((j : ℕ) → entry k xs j ≡ entry k ys j) →
    (column : ℕ) → combined_entry k rows xs column ≡ combined_entry k rows ys column
combined_from_entries k is rows xs ys same column =
    same_from_difference k (combined_entry k rows xs column) (combined_entry k rows ys column) is (combined_is_element k is rows xs column) (combined_is_element k is rows ys column)
    (sym (combined_entry-minus k is rows xs ys column)
    ∙ combined_of_zero k is rows (minus k xs ys) (λ j. entry-minus k is xs ys j ∙ ap (λ v. plus k v (times k (negative k 1) (entry k ys j))) (same j) ∙ difference_of_same k (entry k ys j) is) column)

-- a combination reads only the rows at its positions
pub combined_alike : (k : FieldValue) (rows others : List (List Cell)) (n : ℕ) → ((j : ℕ) → j < n → row_at rows j ≡ row_at others j) → (cells : List Cell) → AllBelow n cells → (column : ℕ) →
    combined_entry k rows cells column ≡ combined_entry k others cells column
combined_alike k rows others n same [] below column = combined_entry-nil k rows column ∙ sym (combined_entry-nil k others column)
combined_alike k rows others n same (c ∷ cells) below column =
    combined_entry-cons k rows c cells column
    ∙ ap₂ (λ (row : List Cell) (m : ℕ). plus k (times k c.coefficient (entry k row column)) m) (same c.column below.0) (combined_alike k rows others n same cells below.1 column)
    ∙ sym (combined_entry-cons k others c cells column)
