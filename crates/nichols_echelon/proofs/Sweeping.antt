-- The sweep over the columns of a sum.
use Rattle.std.proofs.Common.{◌≡◌, ◌≢◌, ◌<◌, ◌≤◌, ℕ, List, [], ◌∷◌, ◌++◌, Option, Some, None, refl, sym, ◌∙◌, ap, ap₂, subst, arith, inl, inr, length}
use Rattle.std.proofs.lemmas.Bool.{cases_eq}
use Rattle.nichols_field.specs.Field.{FieldValue, IsField, IsElement, plus, times, negative}
use Rattle.nichols_field.proofs.FieldLaws.{plus_comm, plus_assoc, plus_zero, times_assoc, times_comm, times_zero, plus_negative, zero_is_element, times_is_element, negative_is_element}
use Rattle.nichols_field.proofs.FieldAlgebra.{zero_plus, zero_times, plus_times, difference_of_same}
use Rattle.nichols_echelon.specs.Cells.{Cell, entry, AllElements}
use Rattle.nichols_echelon.specs.Combination.{row_at, combined_entry}
use Rattle.nichols_echelon.specs.Echelon.{pivot_at, IsPivot, AreSteps}
use Rattle.nichols_echelon.specs.Sums.{sum_at, IsZeroFrom, IsTaken}
use Rattle.nichols_echelon.specs.Sweep.{IsSwept}
use Rattle.nichols_echelon.proofs.Summing.{sum_is_element}
use Rattle.nichols_echelon.proofs.Shapes.{all_push}
use Rattle.nichols_echelon.proofs.Combinations.{combined_entry-nil, combined_entry-push}
use Rattle.nichols_echelon.proofs.Kept.{nothing_behind, inverse_here}

pub record Sweeping (k : FieldValue) (kept : List (List Cell)) (pivots : List (Option ℕ)) (position : ℕ) (initial : List ℕ) (steps : List Cell) (values : List ℕ) (end : ℕ) : Type 0 where
  pub value : (x : ℕ) → sum_at k initial x ≡ plus k (sum_at k values x) (combined_entry k kept steps x)
  pub are_steps : AreSteps k pivots position steps
  pub zero : IsZeroFrom k values end
  pub inside : end ≤ length values
  pub width : length values ≡ length initial

pub sweep_start : (k : FieldValue) → IsField k → (kept : List (List Cell)) (pivots : List (Option ℕ)) (position : ℕ) (values : List ℕ) (end : ℕ) → IsZeroFrom k values end → end ≤ length values →
    Sweeping k kept pivots position values [] values end
sweep_start k is kept pivots position values end zero inside = record {
  value = λ x. sym (ap (plus k (sum_at k values x)) (combined_entry-nil k kept x) ∙ plus_zero k (sum_at k values x) (sum_is_element k is values x));
  are_steps = record { elements = tt; below = tt; claimed = tt };
  zero = zero;
  inside = inside;
  width = refl;
}

-- v + (v n) a is 0 where a n is minus 1
cancels : (k : FieldValue) → IsField k → (v n a : ℕ) → IsElement k v → times k a n ≡ negative k 1 → plus k v (times k (times k v n) a) ≡ 0
cancels k is v n a ev h =
    ap (plus k v) (times_assoc k v n a ∙ ap (times k v) (times_comm k n a ∙ h) ∙ times_comm k v (negative k 1)) ∙ difference_of_same k v is

-- (a + b) + (z + d) ≡ a + z where b + d ≡ 0
regrouped : (k : FieldValue) → (a b d z : ℕ) → plus k b d ≡ 0 → IsElement k a → plus k (plus k a b) (plus k z d) ≡ plus k a z
regrouped k a b d z h ea =
    ap (plus k (plus k a b)) (plus_comm k z d) ∙ sym (plus_assoc k (plus k a b) d z) ∙ ap (λ m. plus k m z) (plus_assoc k a b d ∙ ap (plus k a) h ∙ plus_zero k a ea)

module _ (k : FieldValue) (is : IsField k) (kept : List (List Cell)) (pivots : List (Option ℕ)) (position : ℕ) (initial : List ℕ) (steps : List Cell) (values : List ℕ) (end : ℕ)
    (s : Sweeping k kept pivots position initial steps values end) (taken : List ℕ) (cell : Cell) (t : IsTaken k values taken cell) where
  -- the sum that was taken out is put back
  put_back : (next : List ℕ) → sum_at k next cell.column ≡ plus k (sum_at k taken cell.column) cell.coefficient → ((x : ℕ) → x ≢ cell.column → sum_at k next x ≡ sum_at k taken x) →
      (x : ℕ) → sum_at k next x ≡ sum_at k values x
  put_back next here elsewhere x =
      elim (cases_eq x cell.column) [
        | inl at ↦ ap (sum_at k next) at ∙ here ∙ ap (λ m. plus k m cell.coefficient) (t.gone cell.column (omega arith)) ∙ zero_plus k cell.coefficient t.element ∙ t.here ∙ ap (sum_at k values) (sym at)
        | inr other ↦ elsewhere x other ∙ t.rest x other
      ]

  pub sweep_free : (next : List ℕ) → pivot_at pivots cell.column ≡ None → sum_at k next cell.column ≡ plus k (sum_at k taken cell.column) cell.coefficient →
      ((x : ℕ) → x ≢ cell.column → sum_at k next x ≡ sum_at k taken x) → length next ≡ length values → IsSwept k kept pivots position initial next (Some cell) steps
  sweep_free next free here elsewhere width =
      let same : (x : ℕ) → sum_at k next x ≡ sum_at k values x = put_back next here elsewhere in
      record {
        value = λ x. s.value x ∙ ap (λ m. plus k m (combined_entry k kept steps x)) (sym (same x));
        are_steps = s.are_steps;
        rest = record {
          free = free;
          nonzero = t.nonzero;
          element = t.element;
          inside = omega (arith, t.inside, width);
          here = t.here ∙ sym (same cell.column);
          behind = λ x h. same x ∙ t.behind x (omega (arith, h));
        };
      }

  module _ (i factor : ℕ) (claimed : pivot_at pivots cell.column ≡ Some i) (earlier : i < position) (p : IsPivot k (row_at kept i) factor cell.column) (elements : AllElements k (row_at kept i))
      (back : List ℕ) (here : sum_at k back cell.column ≡ plus k (sum_at k taken cell.column) cell.coefficient) (elsewhere : (x : ℕ) → x ≢ cell.column → sum_at k back x ≡ sum_at k taken x)
      (next : List ℕ) (by : ℕ) (by_is : by ≡ times k cell.coefficient factor) (sum : (x : ℕ) → sum_at k next x ≡ plus k (sum_at k back x) (times k by (entry k (row_at kept i) x))) where
    gone : plus k (sum_at k values cell.column) (times k by (entry k (row_at kept i) cell.column)) ≡ 0
    gone =
        ap₂ (λ v b. plus k v (times k b (entry k (row_at kept i) cell.column))) (sym t.here) by_is
        ∙ cancels k is cell.coefficient factor (entry k (row_at kept i) cell.column) t.element (inverse_here k is (row_at kept i) factor cell.column p elements)

    -- the sums are those before and the multiple of the row
    next_is : (x : ℕ) → sum_at k next x ≡ plus k (sum_at k values x) (times k by (entry k (row_at kept i) x))
    next_is x = sum x ∙ ap (λ m. plus k m (times k by (entry k (row_at kept i) x))) (put_back back here elsewhere x)

    at_end : sum_at k next cell.column ≡ 0
    at_end = next_is cell.column ∙ gone

    next_zero : (x : ℕ) → cell.column ≤ x → sum_at k next x ≡ 0
    next_zero x from =
        elim (cases_eq x cell.column) [
          | inl here ↦ ap (sum_at k next) here ∙ at_end
          | inr other ↦
              next_is x
              ∙ ap₂ (λ a b. plus k a (times k by b)) (t.behind x (omega (arith, from, other))) (nothing_behind k is (row_at kept i) factor cell.column p x (omega (arith, from, other)))
              ∙ ap (plus k 0) (times_zero k by is) ∙ plus_zero k 0 (zero_is_element k is)
        ]

    -- the kept row that ends at the column is taken out
    pub sweep_pivot : (a : ℕ) → a ≡ negative k by → length next ≡ length values → Sweeping k kept pivots position initial (steps ++ record { column = i; coefficient = a } ∷ []) next cell.column
    sweep_pivot a is_a width =
        let c : Cell = record { column = i; coefficient = a } in
        let eb : IsElement k by = subst (IsElement k) (sym by_is) (times_is_element k cell.coefficient factor is) in
        record {
          value = λ x.
              let y : ℕ = entry k (row_at kept i) x in
              s.value x
              ∙ sym (ap₂ (plus k) (next_is x) (combined_entry-push k is kept steps c x ∙ ap (λ m. plus k (combined_entry k kept steps x) (times k m y)) is_a)
              ∙ regrouped k (sum_at k values x) (times k by y) (times k (negative k by) y) (combined_entry k kept steps x)
              (sym (plus_times k by (negative k by) y) ∙ ap (λ m. times k m y) (plus_negative k by is eb) ∙ zero_times k y is) (sum_is_element k is values x));
          are_steps = record {
            elements = all_push (λ d. IsElement k d.coefficient) steps c s.are_steps.elements (subst (IsElement k) (sym is_a) (negative_is_element k by is));
            below = all_push (λ d. d.column < position) steps c s.are_steps.below earlier;
            claimed = all_push (λ d. (x : ℕ) × (pivot_at pivots x ≡ Some d.column)) steps c s.are_steps.claimed (cell.column, claimed);
          };
          zero = next_zero;
          inside = omega (arith, t.inside, width);
          width = width ∙ s.width;
        }
