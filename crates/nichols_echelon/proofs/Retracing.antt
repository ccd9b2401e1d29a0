-- The way back over the positions of a combination of kept rows.
use Rattle.std.proofs.Common.{◌≡◌, ◌≢◌, ◌<◌, ◌≤◌, ℕ, zero, suc, List, [], ◌∷◌, ◌++◌, Option, sym, ◌∙◌, ap, ap₂, subst, arith, inl, inr, length, reverse}
use Rattle.std.proofs.lemmas.List.{reverse-append}
use Rattle.std.proofs.lemmas.Bool.{cases_eq, cases_lt}
use Rattle.nichols_field.specs.Field.{FieldValue, IsField, IsElement, plus, times, negative}
use Rattle.nichols_field.proofs.FieldLaws.{plus_assoc, plus_zero, times_plus, times_zero, zero_is_element, plus_is_element}
use Rattle.nichols_field.proofs.FieldAlgebra.{zero_plus, zero_times, one_times, plus_times, swap_middle, negative_plus}
use Rattle.nichols_echelon.specs.Cells.{Cell, cell_value, entry, IsRow, IsBelowFirst, AllElements, AllBelow, columns_of}
use Rattle.nichols_echelon.specs.Combination.{row_at, combined_entry}
use Rattle.nichols_echelon.specs.Echelon.{IsClaimed, AllClaimed, AreSteps, AreMade}
use Rattle.nichols_echelon.specs.Sums.{sum_at, IsZero, IsZeroFrom, IsTaken, IsSameSums}
use Rattle.nichols_echelon.specs.Sweep.{IsTraced}
use Rattle.nichols_echelon.proofs.Summing.{sum_is_element}
use Rattle.nichols_echelon.proofs.Shapes.{all_push, row_nil, row_cons}
use Rattle.nichols_echelon.proofs.Entries.{entry-nil, entry-cons, entry-push, entry-append, entry-scalar_multiple, entry_is_element, entry_beyond, cell_here, cell_elsewhere, scalar_multiple}
use Rattle.nichols_echelon.proofs.Combinations.{combined_entry-nil, combined_entry-cons, combined_entry-push, combined_entry-append, combined_entry-scalar_multiple, combined_is_element, combined_from_entries}

-- F + -x S and x (C + S) + O are F + x C and O
pub traced_sum : (k : FieldValue) → IsField k → (f s x c o : ℕ) → IsElement k x → plus k (plus k f (times k (negative k x) s)) (plus k (times k x (plus k c s)) o) ≡ plus k (plus k f (times k x c)) o
traced_sum k is f s x c o ex =
    let ns : ℕ = times k (negative k x) s in
    let xs : ℕ = times k x s in
    let xc : ℕ = times k x c in
    ap (λ m. plus k (plus k f ns) (plus k m o)) (times_plus k x c s)
    ∙ sym (plus_assoc k (plus k f ns) (plus k xc xs) o)
    ∙ ap (λ m. plus k m o)
    (swap_middle k f ns xc xs
    ∙ ap (plus k (plus k f xc)) (sym (plus_times k (negative k x) x s) ∙ ap (λ m. times k m s) (negative_plus k x is ex) ∙ zero_times k s is)
    ∙ plus_zero k (plus k f xc) (plus_is_element k f xc is))

pub reverse-push : (cells : List Cell) (c : Cell) → reverse (cells ++ c ∷ []) ≡ c ∷ reverse cells
reverse-push cells c = reverse-append cells (c ∷ [])

-- the sums below a bound, as cells
unfoldable pub table : FieldValue → List ℕ → ℕ → List Cell
table k values zero = []
table k values (suc n) = table k values n ++ record { column = n; coefficient = sum_at k values n } ∷ []

all_below-table : (k : FieldValue) (values : List ℕ) (n m : ℕ) → n ≤ m → AllBelow m (table k values n)
unfolding table
all_below-table k values zero m h = tt
all_below-table k values (suc n) m h = all_push (λ c. c.column < m) (table k values n) (record { column = n; coefficient = sum_at k values n }) (all_below-table k values n m (omega (arith, h))) (omega (arith, h))

table_below : (k : FieldValue) → IsField k → (values : List ℕ) (n j : ℕ) → j < n → entry k (table k values n) j ≡ sum_at k values j
unfolding table
table_below k is values zero j h = absurd (omega (arith, h))
table_below k is values (suc n) j h =
    let c : Cell = record { column = n; coefficient = sum_at k values n } in
    entry-push k is (table k values n) c j
    ∙ elim (cases_eq n j) [
      | inl same ↦
          ap₂ (plus k) (entry_beyond k is n (table k values n) j (all_below-table k values n n (omega arith)) (omega (arith, same))) (cell_here c j same ∙ ap (sum_at k values) same)
          ∙ zero_plus k (sum_at k values j) (sum_is_element k is values j)
      | inr other ↦ ap₂ (plus k) (table_below k is values n j (omega (arith, h, other))) (cell_elsewhere c j other) ∙ plus_zero k (sum_at k values j) (sum_is_element k is values j)
    ]

-- where nothing stands from the bound on, the table has the sums
table_entry : (k : FieldValue) → IsField k → (values : List ℕ) (n j : ℕ) → IsZeroFrom k values n → entry k (table k values n) j ≡ sum_at k values j
table_entry k is values n j none =
    elim (cases_lt j n) [
      | inl below ↦ table_below k is values n j below
      | inr above ↦ entry_beyond k is n (table k values n) j (all_below-table k values n n (omega arith)) above ∙ sym (none j above)
    ]

-- an entry other than 0 stands at a column of the cells
entry_claimed : (k : FieldValue) → IsField k → (pivots : List (Option ℕ)) (cells : List Cell) (j : ℕ) → AllClaimed pivots cells → entry k cells j ≢ 0 → IsClaimed pivots j
entry_claimed k is pivots [] j h nonzero = absurd (nonzero (entry-nil k j))
entry_claimed k is pivots (c ∷ cells) j h nonzero =
    elim (cases_eq c.column j) [
      | inl same ↦ subst (IsClaimed pivots) same h.0
      | inr other ↦ entry_claimed k is pivots cells j h.1 (λ e. nonzero (entry-cons k c cells j ∙ ap₂ (plus k) (cell_elsewhere c j other) e ∙ plus_zero k 0 (zero_is_element k is)))
    ]

-- out is what came out, the last first
pub record Retracing (k : FieldValue) (pivots : List (Option ℕ)) (all : List (List Cell)) (steps : List Cell) (values : List ℕ) (end : ℕ) (out : List Cell) : Type 0 where
  pub value : (rows kept : List (List Cell)) → AreMade k rows kept all → (x : ℕ) → plus k (combined_entry k kept (table k values end) x) (combined_entry k rows out x) ≡ combined_entry k kept steps x
  pub zero : IsZeroFrom k values end
  pub full : (j : ℕ) → sum_at k values j ≢ 0 → IsClaimed pivots j
  pub inside : end ≤ length all
  pub wide : length all ≤ length values
  pub first : (j : ℕ) → j < end → IsBelowFirst j (columns_of out)
  pub shape : IsRow out
  pub elements : AllElements k out
  pub below : AllBelow (length all) out
  pub claimed : AllClaimed pivots out

pub retrace_start : (k : FieldValue) → IsField k → (pivots : List (Option ℕ)) (all : List (List Cell)) (steps : List Cell) (old values : List ℕ) → IsZero k old → length all ≤ length values →
    AreSteps k pivots (length all) steps → ((x : ℕ) → sum_at k values x ≡ plus k (sum_at k old x) (times k 1 (entry k steps x))) → Retracing k pivots all steps values (length all) []
retrace_start k is pivots all steps old values none wide are loaded =
    let at : (x : ℕ) → sum_at k values x ≡ entry k steps x =
    λ x.
    loaded x ∙ ap₂ (plus k) (none x) (one_times k (entry k steps x) (entry_is_element k is steps x)) ∙ zero_plus k (entry k steps x) (entry_is_element k is steps x) in
    let zero : IsZeroFrom k values (length all) = λ j h. at j ∙ entry_beyond k is (length all) steps j are.below h in
    record {
      value = λ rows kept made x.
          ap₂ (plus k)
          (combined_from_entries k is kept (table k values (length all)) steps
          (λ j. table_entry k is values (length all) j zero ∙ at j) x)
          (combined_entry-nil k rows x) ∙ plus_zero k (combined_entry k kept steps x) (combined_is_element k is kept steps x);
      zero = zero;
      full = λ j nonzero. entry_claimed k is pivots steps j are.claimed (λ e. nonzero (at j ∙ e));
      inside = omega arith;
      wide = wide;
      first = λ j h. tt;
      shape = row_nil;
      elements = tt;
      below = tt;
      claimed = tt;
    }

module _ (k : FieldValue) (is : IsField k) (pivots : List (Option ℕ)) (all : List (List Cell)) (steps : List Cell) (values : List ℕ) (end : ℕ) (out : List Cell) (r : Retracing k pivots all steps values end out)
    (taken : List ℕ) (cell : Cell) (t : IsTaken k values taken cell) where
  -- a sum other than 0 stands before the end
  pub before_end : cell.column < end
  before_end =
      elim (cases_lt cell.column end) [
        | inl before ↦ before
        | inr after ↦ absurd (t.nonzero (t.here ∙ r.zero cell.column after))
      ]

  -- the sums are those that are left, and the one that was taken out
  apart : (kept : List (List Cell)) (x : ℕ) → combined_entry k kept (table k values end) x ≡ plus k (combined_entry k kept (table k taken cell.column) x) (times k cell.coefficient (entry k (row_at kept cell.column) x))
  apart kept x =
      combined_from_entries k is kept (table k values end) (table k taken cell.column ++ cell ∷ [])
      (λ j. table_entry k is values end j r.zero ∙ sym (entry-push k is (table k taken cell.column) cell j ∙ ap (λ m. plus k m (cell_value cell j)) (table_entry k is taken cell.column j t.gone) ∙ joined j)) x
      ∙ combined_entry-push k is kept (table k taken cell.column) cell x
    where
      joined : (j : ℕ) → plus k (sum_at k taken j) (cell_value cell j) ≡ sum_at k values j
      joined j =
          elim (cases_eq j cell.column) [
            | inl same ↦
                ap₂ (plus k) (t.gone j (omega (arith, same))) (cell_here cell j (sym same)) ∙ zero_plus k cell.coefficient t.element ∙ t.here ∙ ap (sum_at k values) (sym same)
            | inr other ↦ ap₂ (plus k) (t.rest j other) (cell_elsewhere cell j (λ e. other (sym e))) ∙ plus_zero k (sum_at k values j) (sum_is_element k is values j)
          ]

  module _ (all_steps : (i : ℕ) → i < length all → AreSteps k pivots i (row_at all i)) (next : List ℕ) (width : length next ≡ length values)
      (sum : (x : ℕ) → sum_at k next x ≡ plus k (sum_at k taken x) (times k (negative k cell.coefficient) (entry k (row_at all cell.column) x))) where
    within : cell.column < length all
    within = omega (arith, r.inside, before_end)

    own : AreSteps k pivots cell.column (row_at all cell.column)
    own = all_steps cell.column within

    next_same : (j : ℕ) → entry k (row_at all cell.column) j ≡ 0 → sum_at k next j ≡ sum_at k taken j
    next_same j none =
        sum j ∙ ap (λ b. plus k (sum_at k taken j) (times k (negative k cell.coefficient) b)) none ∙ ap (plus k (sum_at k taken j)) (times_zero k (negative k cell.coefficient) is)
        ∙ plus_zero k (sum_at k taken j) (sum_is_element k is taken j)

    next_zero : (j : ℕ) → cell.column ≤ j → sum_at k next j ≡ 0
    next_zero j h = next_same j (entry_beyond k is cell.column (row_at all cell.column) j own.below h) ∙ t.gone j h

    next_full : (j : ℕ) → sum_at k next j ≢ 0 → IsClaimed pivots j
    next_full j nonzero =
        elim (cases_eq (entry k (row_at all cell.column) j) 0) [
          | inl none ↦
              elim (cases_eq j cell.column) [
                | inl same ↦ absurd (nonzero (next_zero j (omega (arith, same))))
                | inr other ↦ r.full j (λ e. nonzero (next_same j none ∙ t.rest j other ∙ e))
              ]
          | inr some ↦ entry_claimed k is pivots (row_at all cell.column) j own.claimed some
        ]

    next_combined : (kept : List (List Cell)) (x : ℕ) → combined_entry k kept (table k next cell.column) x ≡
        plus k (combined_entry k kept (table k taken cell.column) x) (times k (negative k cell.coefficient) (combined_entry k kept (row_at all cell.column) x))
    next_combined kept x =
        let back : ℕ = negative k cell.coefficient in
        let low : List Cell = table k taken cell.column in
        let parts : List Cell = row_at all cell.column in
        combined_from_entries k is kept (table k next cell.column) (low ++ scalar_multiple k back parts)
        (λ j. table_entry k is next cell.column j next_zero ∙ sum j
        ∙ sym (entry-append k is low (scalar_multiple k back parts) j ∙ ap₂ (plus k) (table_entry k is taken cell.column j t.gone) (entry-scalar_multiple k is back parts j))) x
        ∙ combined_entry-append k is kept low (scalar_multiple k back parts) x
        ∙ ap (plus k (combined_entry k kept low x)) (combined_entry-scalar_multiple k is kept back parts x)

    pub retrace_more : Retracing k pivots all steps next cell.column (cell ∷ out)
    retrace_more = record {
      value = λ rows kept made x.
          let f : ℕ = combined_entry k kept (table k taken cell.column) x in
          let s : ℕ = combined_entry k kept (row_at all cell.column) x in
          let e : ℕ = entry k (row_at kept cell.column) x in
          let o : ℕ = combined_entry k rows out x in
          ap₂ (plus k) (next_combined kept x) (combined_entry-cons k rows cell out x ∙ ap (λ m. plus k (times k cell.coefficient m) o) (made cell.column within x))
          ∙ traced_sum k is f s cell.coefficient e o t.element
          ∙ ap (λ m. plus k m o) (sym (apart kept x))
          ∙ r.value rows kept made x;
      zero = next_zero;
      full = next_full;
      inside = omega (arith, r.inside, before_end);
      wide = omega (arith, r.wide, width);
      first = λ j h. h;
      shape = row_cons cell out t.nonzero (r.first cell.column before_end) r.shape;
      elements = (t.element, r.elements);
      below = (within, r.below);
      claimed = (r.full cell.column (λ e. t.nonzero (t.here ∙ e)), r.claimed);
    }

pub retraced_all : (k : FieldValue) → IsField k → (pivots : List (Option ℕ)) (all : List (List Cell)) (steps : List Cell) (values : List ℕ) (end : ℕ) (out : List Cell) → IsZero k values →
    Retracing k pivots all steps values end out → IsTraced k pivots all steps out
retraced_all k is pivots all steps values end out none r = record {
  value = λ rows kept made x.
      sym (ap (λ m. plus k m (combined_entry k rows out x))
      (combined_from_entries k is kept (table k values end) [] (λ j. table_entry k is values end j r.zero ∙ none j ∙ sym (entry-nil k j)) x ∙ combined_entry-nil k kept x)
      ∙ zero_plus k (combined_entry k rows out x) (combined_is_element k is rows out x)) ∙ r.value rows kept made x;
  shape = r.shape;
  elements = r.elements;
  below = r.below;
  claimed = r.claimed;
}

pub zero_same : (k : FieldValue) (values new : List ℕ) → IsSameSums k values new → IsZero k new → IsZero k values
zero_same k values new same none j = sym (same j) ∙ none j
