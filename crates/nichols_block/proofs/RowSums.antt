-- Sums of multiples of rows, as values of combinations.
use Rattle.std.proofs.Common.{◌≡◌, ℕ, ◌+◌, ◌<◌, ◌≤◌, List, [], ◌∷◌, ◌++◌, length, get_or, take, sym, ◌∙◌, ap, ap₂, subst, arith}
use Rattle.std.proofs.lemmas.List.{take_more}
use Rattle.std.proofs.lemmas.List.Elements.{All-from_recursion}
use Rattle.nichols_field.specs.Field.{FieldValue, IsField, plus, times}
use Rattle.nichols_field.proofs.FieldLaws.{plus_assoc, plus_comm, plus_zero, times_assoc, times_plus, times_zero, zero_is_element}
use Rattle.nichols_tensor.specs.Combination.{Combination, scalar_multiple, value_at}
use Rattle.nichols_tensor.specs.Positions.{word_at}
use Rattle.nichols_tensor.specs.WordOrder.{IsRising}
use Rattle.nichols_tensor.proofs.Over.{all-weaker}
use Rattle.nichols_tensor.proofs.Values.{value_at-append, value_at-scalar_multiple}
use Rattle.nichols_echelon.specs.Cells.{AllBelow, Cell, entry}
use Rattle.nichols_echelon.specs.Sums.{IsZero, sum_at}
use Rattle.nichols_echelon.proofs.Entries.{entry_beyond}
use Rattle.nichols_value.specs.Kept.{AreCellsOf}
use Rattle.nichols_block.specs.Rows.{AreSums, summed_forms}
use Rattle.nichols_value.proofs.FormCells.{form_entry}

-- sums that are 0
pub no_sums : (k : FieldValue) (ws : List (List ℕ)) (values : List ℕ) (forms : List Combination) (by : ℕ) → IsZero k values → AreSums k ws values (scalar_multiple k by (summed_forms k forms []))
unfolding summed_forms
no_sums k ws values forms by none = record { inside = λ place less. none place; beyond = λ place after. none place }

-- one cell more
value_more : (k : FieldValue) → IsField k → (by : ℕ) (forms : List Combination) (xs : List Cell) (c : Cell) (w : List ℕ) →
    value_at k (scalar_multiple k by (summed_forms k forms (xs ++ c ∷ []))) w ≡ plus k (value_at k (scalar_multiple k by (summed_forms k forms xs)) w) (times k (times k by c.coefficient) (value_at k (get_or forms c.column []) w))
unfolding summed_forms
value_more k is by forms xs c w =
    value_at-scalar_multiple k is by (summed_forms k forms (xs ++ c ∷ [])) w ∙ ap (times k by) (inner xs) ∙ times_plus k by (value_at k (summed_forms k forms xs) w) (times k c.coefficient (value_at k (get_or forms c.column []) w))
    ∙ ap₂ (plus k) (sym (value_at-scalar_multiple k is by (summed_forms k forms xs) w)) (sym (times_assoc k by c.coefficient (value_at k (get_or forms c.column []) w)))
  where
    inner : (ys : List Cell) → value_at k (summed_forms k forms (ys ++ c ∷ [])) w ≡ plus k (value_at k (summed_forms k forms ys) w) (times k c.coefficient (value_at k (get_or forms c.column []) w))
    inner [] =
        value_at-append k is (scalar_multiple k c.coefficient (get_or forms c.column [])) [] w ∙ ap (λ n. plus k n 0) (value_at-scalar_multiple k is c.coefficient (get_or forms c.column []) w)
        ∙ plus_comm k (times k c.coefficient (value_at k (get_or forms c.column []) w)) 0
    inner (y ∷ ys) =
        value_at-append k is (scalar_multiple k y.coefficient (get_or forms y.column [])) (summed_forms k forms (ys ++ c ∷ [])) w
        ∙ ap (plus k (value_at k (scalar_multiple k y.coefficient (get_or forms y.column [])) w)) (inner ys)
        ∙ sym (plus_assoc k (value_at k (scalar_multiple k y.coefficient (get_or forms y.column [])) w) (value_at k (summed_forms k forms ys) w) (times k c.coefficient (value_at k (get_or forms c.column []) w)))
        ∙ ap (λ n. plus k n (times k c.coefficient (value_at k (get_or forms c.column []) w))) (sym (value_at-append k is (scalar_multiple k y.coefficient (get_or forms y.column [])) (summed_forms k forms ys) w))

pub sums_more : (k : FieldValue) → IsField k → (by : ℕ) (forms : List Combination) (cells : List Cell) (i : ℕ) (c : Cell) (ws : List (List ℕ)) (old new : List ℕ) (row : List Cell) → IsRising ws → i < length cells → c ≡ get_or cells i c →
    AreCellsOf ws (get_or forms c.column []) row → AreSums k ws old (scalar_multiple k by (summed_forms k forms (take i cells))) →
    ((place : ℕ) → sum_at k new place ≡ plus k (sum_at k old place) (times k (times k by c.coefficient) (entry k row place))) →
    AreSums k ws new (scalar_multiple k by (summed_forms k forms (take (i + 1) cells)))
sums_more k is by forms cells i c ws old new row rising less at shape before added = record {
  inside = λ place within.
      added place ∙ ap₂ (λ m n. plus k m (times k (times k by c.coefficient) n)) (before.inside place within) (form_entry k ws (get_or forms c.column []) row rising shape place within)
      ∙ sym (ap (λ xs. value_at k (scalar_multiple k by (summed_forms k forms xs)) (word_at ws place)) more ∙ value_more k is by forms (take i cells) c (word_at ws place));
  beyond = λ place after.
      added place ∙ ap₂ (λ m n. plus k m (times k (times k by c.coefficient) n)) (before.beyond place after) (entry_beyond k is (length ws) row place shape.below after)
      ∙ ap (plus k 0) (times_zero k (times k by c.coefficient) is) ∙ plus_zero k 0 (zero_is_element k is);
}
  where
    more : take (i + 1) cells ≡ take i cells ++ c ∷ []
    more = take_more cells i c less ∙ ap (λ (d : Cell). take i cells ++ d ∷ []) (sym at)

-- ---- cells at their places

pub column_at : (n : ℕ) (cells : List Cell) (i : ℕ) (c : Cell) → AllBelow n cells → i < length cells → c ≡ get_or cells i c → c.column < n
column_at n cells i c below less at = subst (λ (d : Cell). d.column < n) (sym at) (All-from_recursion (λ (d : Cell). d.column < n) cells below i c less)

pub below_wider : (m n : ℕ) → m ≤ n → (cells : List Cell) → AllBelow m cells → AllBelow n cells
below_wider m n wider = all-weaker (λ (c : Cell). c.column < m) (λ (c : Cell). c.column < n) (λ c h. omega arith)
