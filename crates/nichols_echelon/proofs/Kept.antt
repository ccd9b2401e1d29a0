-- Kept rows, and the column at which each ends.
use Rattle.std.proofs.Common.{◌≡◌, ◌≢◌, ◌<◌, ◌+◌, ℕ, zero, suc, List, [], ◌∷◌, ◌++◌, refl, sym, ◌∙◌, ap, ap₂, subst, arith, inl, inr, length, get_or, Option, None}
use Rattle.std.proofs.lemmas.Bool.{cases_lt}
use Rattle.std.proofs.lemmas.List.{get_or_append_left, get_or_push, get_or_default}
use Rattle.nichols_field.specs.Field.{FieldValue, IsField, IsElement, plus, times, negative}
use Rattle.nichols_field.proofs.FieldLaws.{plus_zero, times_one, times_negative_one, zero_is_element, negative_is_element}
use Rattle.nichols_field.proofs.FieldAlgebra.{zero_plus, swap_factors}
use Rattle.nichols_echelon.specs.Cells.{Cell, cell_value, entry, IsRow, AllElements, AllBelow}
use Rattle.nichols_echelon.specs.Combination.{row_at, combined_entry}
use Rattle.nichols_echelon.specs.Echelon.{kept_row, kept_rows, pivot_at, IsPivot}
use Rattle.nichols_echelon.proofs.Shapes.{all_back, row_last}
use Rattle.nichols_echelon.proofs.Entries.{entry-push, entry_is_element, entry_beyond, cell_here, cell_elsewhere}
use Rattle.nichols_echelon.proofs.Combinations.{combined_alike}

-- the entry of the table that was read at a column
pub pivot_read : (pivots : List (Option ℕ)) (column : ℕ) (read o : Option ℕ) → column < length pivots → read ≡ get_or pivots column read → read ≡ o → pivot_at pivots column ≡ o
pivot_read pivots column read o inside is e = get_or_default pivots column None read inside ∙ sym is ∙ e

-- what holds below a number and at it holds up to it
pub one_more : (P : ℕ → Type 0) (n : ℕ) → ((i : ℕ) → i < n → P i) → P n → (i : ℕ) → i < n + 1 → P i
one_more P n before last i h =
    elim (cases_lt i n) [
      | inl less ↦ before i less
      | inr more ↦ let same : n ≡ i = omega (arith, more, h) in subst P same last
    ]

kept_row-nil : (left : List Cell) → kept_row [] left ≡ left
kept_row-nil [] = refl
kept_row-nil (c ∷ left) = refl

pub kept_at : (rows left : List (List Cell)) (i : ℕ) → row_at (kept_rows rows left) i ≡ kept_row (row_at rows i) (row_at left i)
unfolding kept_rows
kept_at [] left i = sym (kept_row-nil (row_at left i))
kept_at (row ∷ rows) [] i = refl
kept_at (row ∷ rows) (cells ∷ left) zero = refl
kept_at (row ∷ rows) (cells ∷ left) (suc i) = kept_at rows left i

pub kept_before : (rows left : List (List Cell)) (l : List Cell) (i : ℕ) → i < length left → row_at (kept_rows rows (left ++ l ∷ [])) i ≡ row_at (kept_rows rows left) i
kept_before rows left l i h = kept_at rows (left ++ l ∷ []) i ∙ ap (kept_row (row_at rows i)) (get_or_append_left left (l ∷ []) [] i h) ∙ sym (kept_at rows left i)

pub kept_last : (rows left : List (List Cell)) (l : List Cell) → row_at (kept_rows rows (left ++ l ∷ [])) (length left) ≡ kept_row (row_at rows (length left)) l
kept_last rows left l = kept_at rows (left ++ l ∷ []) (length left) ∙ ap (kept_row (row_at rows (length left))) (get_or_push left l [] (length left) refl)

-- combinations of the rows kept before stay
pub combined_kept : (k : FieldValue) (rows left : List (List Cell)) (l cells : List Cell) → AllBelow (length left) cells → (column : ℕ) →
    combined_entry k (kept_rows rows (left ++ l ∷ [])) cells column ≡ combined_entry k (kept_rows rows left) cells column
combined_kept k rows left l cells below column = combined_alike k (kept_rows rows (left ++ l ∷ [])) (kept_rows rows left) (length left) (kept_before rows left l) cells below column

-- minus the inverse of a coefficient
pub minus_inverse : (k : FieldValue) → IsField k → (a b c : ℕ) → IsElement k b → times k a b ≡ 1 → c ≡ negative k b → times k a c ≡ negative k 1
minus_inverse k is a b c eb inverse e =
    ap (times k a) (e ∙ sym (times_negative_one k b is eb)) ∙ swap_factors k a (negative k 1) b ∙ ap (times k (negative k 1)) inverse
    ∙ times_one k (negative k 1) (negative_is_element k 1 is)

module _ (k : FieldValue) (is : IsField k) (cells : List Cell) (factor column : ℕ) (p : IsPivot k cells factor column) where
  front_row : IsRow p.front × AllBelow p.last.column p.front × (p.last.coefficient ≢ 0)
  front_row = row_last p.front p.last (subst IsRow p.parts p.shape)

  front_below : AllBelow column p.front
  front_below = subst (λ n. AllBelow n p.front) p.at front_row.1

  entry_parts : (x : ℕ) → entry k cells x ≡ plus k (entry k p.front x) (cell_value p.last x)
  entry_parts x = ap (λ (cs : List Cell). entry k cs x) p.parts ∙ entry-push k is p.front p.last x

  -- behind its end a row is 0
  pub nothing_behind : (x : ℕ) → column < x → entry k cells x ≡ 0
  nothing_behind x more =
      entry_parts x
      ∙ ap₂ (plus k) (entry_beyond k is column p.front x front_below (omega (arith, more))) (cell_elsewhere p.last x (λ e. (let no : ⊥ = omega (arith, e, p.at, more) in no)))
      ∙ plus_zero k 0 (zero_is_element k is)

  -- without its last cell the row is 0 at its end, and the same elsewhere
  pub front_here : entry k p.front column ≡ 0
  front_here = entry_beyond k is column p.front column front_below (omega arith)

  pub front_elsewhere : (x : ℕ) → (column ≡ x → ⊥) → entry k p.front x ≡ entry k cells x
  front_elsewhere x n =
      sym (entry_parts x ∙ ap (plus k (entry k p.front x)) (cell_elsewhere p.last x (λ e. n (sym p.at ∙ e))) ∙ plus_zero k (entry k p.front x) (entry_is_element k is p.front x))

  pub entry_here : AllElements k cells → entry k cells column ≡ p.last.coefficient
  entry_here elements =
      entry_parts column ∙ ap₂ (plus k) front_here (cell_here p.last column p.at)
      ∙ zero_plus k p.last.coefficient (all_back (λ c. IsElement k c.coefficient) p.front (p.last ∷ []) (subst (AllElements k) p.parts elements)).0

  pub inverse_here : AllElements k cells → times k (entry k cells column) factor ≡ negative k 1
  inverse_here elements = ap (λ v. times k v factor) (entry_here elements) ∙ p.inverse

  pub nonzero_here : AllElements k cells → entry k cells column ≢ 0
  nonzero_here elements e = front_row.2 (sym (entry_here elements) ∙ e)
