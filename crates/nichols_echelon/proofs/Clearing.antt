-- Taking out the kept rows, from the last column down, is linear; it makes each kept row 0, and leaves a free column alone.
use Rattle.std.proofs.Common.{◌≡◌, ◌<◌, ◌≤◌, ℕ, zero, suc, List, [], ◌∷◌, Option, Some, None, refl, sym, ◌∙◌, ap, ap₂, subst, arith, inl, inr, get_or}
use Rattle.std.specs.List.{AllByRecursion}
use Rattle.std.proofs.lemmas.Bool.{cases_order}
use Rattle.nichols_field.specs.Field.{FieldValue, IsField, IsElement, plus, times, negative}
use Rattle.nichols_field.proofs.FieldLaws.{plus_comm, plus_zero, times_assoc, times_plus, times_zero, zero_is_element, plus_is_element}
use Rattle.nichols_field.proofs.FieldAlgebra.{zero_times, one_times, plus_times, swap_middle, difference_of_same}
use Rattle.nichols_echelon.specs.Cells.{Cell, entry, AllElements}
use Rattle.nichols_echelon.specs.Combination.{row_at, combined_entry}
use Rattle.nichols_echelon.specs.Echelon.{pivot_at, IsPivot}
use Rattle.nichols_echelon.proofs.Entries.{entry_is_element}
use Rattle.nichols_echelon.proofs.Combinations.{combined_entry-nil, combined_entry-cons, combined_is_element}
use Rattle.nichols_echelon.proofs.Kept.{nothing_behind, inverse_here}

-- the sum of u and a multiple of v
abbrev pub sum_with : FieldValue → (ℕ → ℕ) → ℕ → (ℕ → ℕ) → ℕ → ℕ
sum_with k u a v x = plus k (u x) (times k a (v x))

-- the entries v, after the multiple of the kept row was taken out, if there is one, that makes the entry at a column 0
unfoldable pub cleared_at : FieldValue → List (List Cell) → List ℕ → ℕ → Option ℕ → (ℕ → ℕ) → ℕ → ℕ
cleared_at k kept factors column None v x = v x
cleared_at k kept factors column (Some i) v x = plus k (v x) (times k (times k (v column) (get_or factors i 0)) (entry k (row_at kept i) x))

-- the same at each column below a number, from the last down
unfoldable pub cleared : FieldValue → List (List Cell) → List ℕ → List (Option ℕ) → ℕ → (ℕ → ℕ) → ℕ → ℕ
cleared k kept factors pivots zero v x = v x
cleared k kept factors pivots (suc column) v x = cleared k kept factors pivots column (cleared_at k kept factors column (pivot_at pivots column) v) x

module _ (k : FieldValue) (is : IsField k) (kept : List (List Cell)) (factors : List ℕ) (pivots : List (Option ℕ)) where
  at-same : (column : ℕ) (o : Option ℕ) (u v : ℕ → ℕ) → ((x : ℕ) → u x ≡ v x) → (x : ℕ) → cleared_at k kept factors column o u x ≡ cleared_at k kept factors column o v x
  unfolding cleared_at
  at-same column None u v same x = same x
  at-same column (Some i) u v same x = ap₂ (λ a b. plus k a (times k (times k b (get_or factors i 0)) (entry k (row_at kept i) x))) (same x) (same column)

  pub cleared-same : (n : ℕ) (u v : ℕ → ℕ) → ((x : ℕ) → u x ≡ v x) → (x : ℕ) → cleared k kept factors pivots n u x ≡ cleared k kept factors pivots n v x
  unfolding cleared
  cleared-same zero u v same x = same x
  cleared-same (suc n) u v same x =
      cleared-same n (cleared_at k kept factors n (pivot_at pivots n) u) (cleared_at k kept factors n (pivot_at pivots n) v) (at-same n (pivot_at pivots n) u v same) x

  at-sum : (column : ℕ) (o : Option ℕ) (u : ℕ → ℕ) (a : ℕ) (v : ℕ → ℕ) (x : ℕ) →
      cleared_at k kept factors column o (sum_with k u a v) x ≡ sum_with k (cleared_at k kept factors column o u) a (cleared_at k kept factors column o v) x
  unfolding cleared_at
  at-sum column None u a v x = refl
  at-sum column (Some i) u a v x =
      let n : ℕ = get_or factors i 0 in
      let r : ℕ = entry k (row_at kept i) x in
      let left : ℕ = times k (times k (u column) n) r in
      let right : ℕ = times k (times k (v column) n) r in
      ap (plus k (plus k (u x) (times k a (v x))))
      (ap (λ m. times k m r) (plus_times k (u column) (times k a (v column)) n) ∙ plus_times k (times k (u column) n) (times k (times k a (v column)) n) r
      ∙ ap (plus k left) (ap (λ m. times k m r) (times_assoc k a (v column) n) ∙ times_assoc k a (times k (v column) n) r))
      ∙ swap_middle k (u x) (times k a (v x)) left (times k a right)
      ∙ ap (plus k (plus k (u x) left)) (sym (times_plus k a (v x) right))

  pub cleared-sum : (n : ℕ) (u : ℕ → ℕ) (a : ℕ) (v : ℕ → ℕ) (x : ℕ) →
      cleared k kept factors pivots n (sum_with k u a v) x ≡ sum_with k (cleared k kept factors pivots n u) a (cleared k kept factors pivots n v) x
  unfolding cleared
  cleared-sum zero u a v x = refl
  cleared-sum (suc n) u a v x =
      let o : Option ℕ = pivot_at pivots n in
      cleared-same n (cleared_at k kept factors n o (sum_with k u a v)) (sum_with k (cleared_at k kept factors n o u) a (cleared_at k kept factors n o v)) (at-sum n o u a v) x
      ∙ cleared-sum n (cleared_at k kept factors n o u) a (cleared_at k kept factors n o v) x

  -- where the entry at the column is 0, nothing changes
  at-still : (column : ℕ) (o : Option ℕ) (v : ℕ → ℕ) → ((x : ℕ) → IsElement k (v x)) → v column ≡ 0 → (x : ℕ) → cleared_at k kept factors column o v x ≡ v x
  unfolding cleared_at
  at-still column None v elements none x = refl
  at-still column (Some i) v elements none x =
      ap (plus k (v x))
      (ap (λ m. times k (times k m (get_or factors i 0)) (entry k (row_at kept i) x)) none ∙ ap (λ m. times k m (entry k (row_at kept i) x)) (zero_times k (get_or factors i 0) is)
      ∙ zero_times k (entry k (row_at kept i) x) is)
      ∙ plus_zero k (v x) (elements x)

  pub cleared-zero : (n : ℕ) (v : ℕ → ℕ) → ((x : ℕ) → v x ≡ 0) → (x : ℕ) → cleared k kept factors pivots n v x ≡ 0
  unfolding cleared
  cleared-zero zero v none x = none x
  cleared-zero (suc n) v none x =
      cleared-same n (cleared_at k kept factors n (pivot_at pivots n) v) v (at-still n (pivot_at pivots n) v (λ y. subst (IsElement k) (sym (none y)) (zero_is_element k is)) (none n)) x
      ∙ cleared-zero n v none x

  -- what makes 0 of each row makes 0 of their combination
  pub cleared-combined : (n : ℕ) (rows : List (List Cell)) (cells : List Cell) →
      AllByRecursion (λ c. (x : ℕ) → cleared k kept factors pivots n (entry k (row_at rows c.column)) x ≡ 0) cells → (x : ℕ) → cleared k kept factors pivots n (combined_entry k rows cells) x ≡ 0
  cleared-combined n rows [] none x = cleared-zero n (combined_entry k rows []) (combined_entry-nil k rows) x
  cleared-combined n rows (c ∷ cells) none x =
      cleared-same n (combined_entry k rows (c ∷ cells)) (sum_with k (combined_entry k rows cells) c.coefficient (entry k (row_at rows c.column)))
      (λ y. combined_entry-cons k rows c cells y ∙ plus_comm k (times k c.coefficient (entry k (row_at rows c.column) y)) (combined_entry k rows cells y)) x
      ∙ cleared-sum n (combined_entry k rows cells) c.coefficient (entry k (row_at rows c.column)) x
      ∙ ap₂ (λ a b. plus k a (times k c.coefficient b)) (cleared-combined n rows cells none.1 x) (none.0 x)
      ∙ ap (plus k 0) (times_zero k c.coefficient is) ∙ plus_zero k 0 (zero_is_element k is)

  -- what makes 0 of a combination leaves of a sum with it what it leaves of the rest
  pub cleared-made : (n : ℕ) (row cells : ℕ → ℕ) (rows : List (List Cell)) (steps : List Cell) → ((x : ℕ) → IsElement k (cleared k kept factors pivots n cells x)) →
      ((x : ℕ) → row x ≡ plus k (cells x) (combined_entry k rows steps x)) →
      AllByRecursion (λ c. (x : ℕ) → cleared k kept factors pivots n (entry k (row_at rows c.column)) x ≡ 0) steps → (x : ℕ) → cleared k kept factors pivots n row x ≡ cleared k kept factors pivots n cells x
  cleared-made n row cells rows steps element value none x =
      cleared-same n row (sum_with k cells 1 (combined_entry k rows steps)) (λ y. value y ∙ ap (plus k (cells y)) (sym (one_times k (combined_entry k rows steps y) (combined_is_element k is rows steps y)))) x
      ∙ cleared-sum n cells 1 (combined_entry k rows steps) x
      ∙ ap (λ m. plus k (cleared k kept factors pivots n cells x) (times k 1 m)) (cleared-combined n rows steps none x)
      ∙ ap (plus k (cleared k kept factors pivots n cells x)) (one_times k 0 (zero_is_element k is))
      ∙ plus_zero k (cleared k kept factors pivots n cells x) (element x)

  at_is_element : (column : ℕ) (o : Option ℕ) (v : ℕ → ℕ) → ((x : ℕ) → IsElement k (v x)) → (x : ℕ) → IsElement k (cleared_at k kept factors column o v x)
  unfolding cleared_at
  at_is_element column None v elements x = elements x
  at_is_element column (Some i) v elements x = plus_is_element k (v x) (times k (times k (v column) (get_or factors i 0)) (entry k (row_at kept i) x)) is

  pub cleared_is_element : (n : ℕ) (v : ℕ → ℕ) → ((x : ℕ) → IsElement k (v x)) → (x : ℕ) → IsElement k (cleared k kept factors pivots n v x)
  unfolding cleared
  cleared_is_element zero v elements x = elements x
  cleared_is_element (suc n) v elements x = cleared_is_element n (cleared_at k kept factors n (pivot_at pivots n) v) (at_is_element n (pivot_at pivots n) v elements) x

  -- a kept row is 0 once it was taken out of itself
  at-itself : (column i : ℕ) → times k (entry k (row_at kept i) column) (get_or factors i 0) ≡ negative k 1 → (x : ℕ) → cleared_at k kept factors column (Some i) (entry k (row_at kept i)) x ≡ 0
  unfolding cleared_at
  at-itself column i h x = ap (λ m. plus k (entry k (row_at kept i) x) (times k m (entry k (row_at kept i) x))) h ∙ difference_of_same k (entry k (row_at kept i) x) is

  pub cleared-kept : (n i column : ℕ) → column < n → pivot_at pivots column ≡ Some i → IsPivot k (row_at kept i) (get_or factors i 0) column → AllElements k (row_at kept i) →
      (x : ℕ) → cleared k kept factors pivots n (entry k (row_at kept i)) x ≡ 0
  unfolding cleared
  cleared-kept zero i column inside claimed p elements x = absurd (omega (arith, inside))
  cleared-kept (suc n) i column inside claimed p elements x =
      let v : ℕ → ℕ = entry k (row_at kept i) in
      elim (cases_order column n) [
        | inl same ↦
            cleared-zero n (cleared_at k kept factors n (pivot_at pivots n) v)
            (λ y. ap₂ (λ (c : ℕ) (o : Option ℕ). cleared_at k kept factors c o v y) (sym same) (ap (pivot_at pivots) (sym same) ∙ claimed)
            ∙ at-itself column i (inverse_here k is (row_at kept i) (get_or factors i 0) column p elements) y) x
        | inr (inl less) ↦
            cleared-same n (cleared_at k kept factors n (pivot_at pivots n) v) v
            (at-still n (pivot_at pivots n) v (entry_is_element k is (row_at kept i)) (nothing_behind k is (row_at kept i) (get_or factors i 0) column p n less)) x
            ∙ cleared-kept n i column less claimed p elements x
        | inr (inr more) ↦ absurd (omega (arith, inside, more))
      ]

  module _ (known : (column i : ℕ) → pivot_at pivots column ≡ Some i → IsPivot k (row_at kept i) (get_or factors i 0) column) where
    -- a kept row that ends before a column changes nothing there
    at-below : (n column : ℕ) → n < column → (o : Option ℕ) → pivot_at pivots n ≡ o → (v : ℕ → ℕ) → IsElement k (v column) → cleared_at k kept factors n o v column ≡ v column
    unfolding cleared_at
    at-below n column less None claimed v element = refl
    at-below n column less (Some i) claimed v element =
        ap (λ m. plus k (v column) (times k (times k (v n) (get_or factors i 0)) m)) (nothing_behind k is (row_at kept i) (get_or factors i 0) n (known n i claimed) column less)
        ∙ ap (plus k (v column)) (times_zero k (times k (v n) (get_or factors i 0)) is) ∙ plus_zero k (v column) element

    cleared-below : (n column : ℕ) → n ≤ column → (v : ℕ → ℕ) → ((x : ℕ) → IsElement k (v x)) → cleared k kept factors pivots n v column ≡ v column
    unfolding cleared
    cleared-below zero column less v elements = refl
    cleared-below (suc n) column less v elements =
        cleared-below n column (omega (arith, less)) (cleared_at k kept factors n (pivot_at pivots n) v) (at_is_element n (pivot_at pivots n) v elements)
        ∙ at-below n column (omega (arith, less)) (pivot_at pivots n) refl v (elements column)

    at-free : (column : ℕ) → pivot_at pivots column ≡ None → (v : ℕ → ℕ) (x : ℕ) → cleared_at k kept factors column (pivot_at pivots column) v x ≡ v x
    unfolding cleared_at
    at-free column free v x = ap (λ (o : Option ℕ). cleared_at k kept factors column o v x) free

    -- the last entry stays where no kept row ends
    pub cleared-free : (n column : ℕ) → pivot_at pivots column ≡ None → (v : ℕ → ℕ) → ((x : ℕ) → IsElement k (v x)) → ((x : ℕ) → column < x → v x ≡ 0) → cleared k kept factors pivots n v column ≡ v column
    unfolding cleared
    cleared-free zero column free v elements behind = refl
    cleared-free (suc n) column free v elements behind =
        elim (cases_order column n) [
          | inl same ↦
              cleared-same n (cleared_at k kept factors n (pivot_at pivots n) v) v (at-free n (ap (pivot_at pivots) (sym same) ∙ free) v) column
              ∙ cleared-below n column (omega (arith, same)) v elements
          | inr (inl less) ↦
              cleared-same n (cleared_at k kept factors n (pivot_at pivots n) v) v (at-still n (pivot_at pivots n) v elements (behind n less)) column
              ∙ cleared-free n column free v elements behind
          | inr (inr more) ↦
              cleared-below n column (omega (arith, more)) (cleared_at k kept factors n (pivot_at pivots n) v) (at_is_element n (pivot_at pivots n) v elements)
              ∙ at-below n column more (pivot_at pivots n) refl v (elements column)
        ]
