-- One more row that was seen.
use Rattle.std.proofs.Common.{◌≡◌, ◌<◌, ◌+◌, ◌⊎◌, ℕ, List, [], ◌∷◌, ◌++◌, Option, Some, None, refl, sym, ◌∙◌, ap, ap₂, subst, arith, inl, inr, length, get_or, set, get_or-set_same, get_or-set_other}
use Rattle.std.proofs.lemmas.Bool.{cases_eq}
use Rattle.std.proofs.lemmas.List.{get_or_append_left, get_or_push, length_push, length-set}
use Rattle.std.proofs.lemmas.Option.{same_Some, none-some}
use Rattle.nichols_field.specs.Field.{FieldValue, plus}
use Rattle.nichols_echelon.specs.Cells.{Cell, entry, AllElements, AllBelow}
use Rattle.nichols_echelon.specs.Combination.{row_at, combined_entry, IsDependent}
use Rattle.nichols_echelon.specs.Split.{place_at, AllIndependent, IsPlace}
use Rattle.nichols_echelon.specs.Echelon.{kept_row, kept_rows, pivot_at, IsClaimed, IsPivot, AreSteps, IsEchelon}
use Rattle.nichols_echelon.specs.NextRow.{Follows}
use Rattle.nichols_echelon.specs.declared.rows.Place.{Place}
use Rattle.nichols_echelon.specs.declared.rows.Place.TheVariants.{Independent, Depends}
use Rattle.nichols_echelon.proofs.Shapes.{all_both}
use Rattle.nichols_echelon.proofs.Kept.{one_more, kept_before, kept_last, combined_kept}
use Rattle.nichols_tensor.proofs.Over.{all-weaker}

-- a table of columns that knows what the old one knew, and of one more row where it ends
pub record KnowsMore (k : FieldValue) (rows left : List (List Cell)) (l : List Cell) (factor : ℕ) (old new : List (Option ℕ)) : Type 0 where
  pub width : length new ≡ length old
  pub stays : (column i : ℕ) → pivot_at old column ≡ Some i → pivot_at new column ≡ Some i
  pub knows : (column i : ℕ) → pivot_at new column ≡ Some i → ◌⊎◌ (pivot_at old column ≡ Some i) ((i ≡ length left) × IsPivot k (kept_row (row_at rows (length left)) l) factor column)

-- what one more row adds
pub record IsAdded (k : FieldValue) (rows left : List (List Cell)) (pivots : List (Option ℕ)) (l s : List Cell) : Type 0 where
  pub room : length left < length rows
  pub value : (x : ℕ) → entry k (row_at rows (length left)) x ≡ plus k (entry k (kept_row (row_at rows (length left)) l) x) (combined_entry k (kept_rows rows left) s x)
  pub steps : AreSteps k pivots (length left) s
  pub elements : AllElements k (kept_row (row_at rows (length left)) l)
  pub below : AllBelow (length pivots) (kept_row (row_at rows (length left)) l)

pub knows_same : (k : FieldValue) (rows left : List (List Cell)) (l : List Cell) (factor : ℕ) (pivots : List (Option ℕ)) → KnowsMore k rows left l factor pivots pivots
knows_same k rows left l factor pivots = record { width = refl; stays = λ column i h. h; knows = λ column i h. inl h }

pub knows_new : (k : FieldValue) (rows left : List (List Cell)) (l : List Cell) (factor column : ℕ) (pivots : List (Option ℕ)) → pivot_at pivots column ≡ None → column < length pivots →
    IsPivot k (kept_row (row_at rows (length left)) l) factor column → KnowsMore k rows left l factor pivots (set pivots column (Some (length left)))
knows_new k rows left l factor column pivots free inside p = record {
  width = length-set pivots column (Some (length left));
  stays = λ x i h. get_or-set_other pivots column x (Some (length left)) None (λ same. none-some i (sym free ∙ ap (pivot_at pivots) (sym same) ∙ h)) ∙ h;
  knows = λ x i h.
      elim (cases_eq x column) [
        | inl here ↦
            inr (
              sym (same_Some (length left) i (sym (get_or-set_same pivots column (Some (length left)) None inside) ∙ ap (pivot_at (set pivots column (Some (length left)))) (sym here) ∙ h)),
              subst (IsPivot k (kept_row (row_at rows (length left)) l) factor) (sym here) p,
            )
        | inr other ↦ inl (sym (get_or-set_other pivots column x (Some (length left)) None other) ∙ h)
      ];
}

module _ (k : FieldValue) (rows left steps : List (List Cell)) (factors : List ℕ) (pivots next : List (Option ℕ)) (l s : List Cell) (factor : ℕ)
    (e : IsEchelon k rows left steps factors pivots) (added : IsAdded k rows left pivots l s) (more : KnowsMore k rows left l factor pivots next) where
  steps_stay : (i : ℕ) (cells : List Cell) → AreSteps k pivots i cells → AreSteps k next i cells
  steps_stay i cells h = record {
    elements = h.elements;
    below = h.below;
    claimed = all-weaker (λ c. IsClaimed pivots c.column) (λ c. IsClaimed next c.column) (λ c q. (q.0, more.stays q.0 c.column q.1)) cells h.claimed;
  }

  -- the cells of the last row, in the new list
  last_cells : kept_row (row_at rows (length left)) l ≡ row_at (kept_rows rows (left ++ l ∷ [])) (length left)
  last_cells = sym (kept_last rows left l)

  made_at : (i : ℕ) → i < length left + 1 → (x : ℕ) → entry k (row_at rows i) x ≡
      plus k (entry k (row_at (kept_rows rows (left ++ l ∷ [])) i) x) (combined_entry k (kept_rows rows (left ++ l ∷ [])) (row_at (steps ++ s ∷ []) i) x)
  made_at =
      one_more
      (λ i. (x : ℕ) → entry k (row_at rows i) x ≡ plus k (entry k (row_at (kept_rows rows (left ++ l ∷ [])) i) x) (combined_entry k (kept_rows rows (left ++ l ∷ [])) (row_at (steps ++ s ∷ []) i) x)) (length left)
      (λ i h x.
      let seen : i < length steps = omega (arith, h, e.steps_count) in
      let below : AllBelow (length left) (row_at steps i) = all-weaker (λ c. c.column < i) (λ c. c.column < length left) (λ c b. omega (arith, b, h)) (row_at steps i) (e.are_steps i seen).below in
      e.made i seen x
      ∙ sym (ap₂ (λ (r : List Cell) (m : ℕ). plus k (entry k r x) m) (kept_before rows left l i h)
      (ap (λ (cs : List Cell). combined_entry k (kept_rows rows (left ++ l ∷ [])) cs x) (get_or_append_left steps (s ∷ []) [] i seen) ∙ combined_kept k rows left l (row_at steps i) below x)))
      (λ x.
      added.value x
      ∙ sym (ap₂ (λ (r : List Cell) (m : ℕ). plus k (entry k r x) m) (kept_last rows left l)
      (ap (λ (cs : List Cell). combined_entry k (kept_rows rows (left ++ l ∷ [])) cs x) (get_or_push steps s [] (length left) e.steps_count) ∙ combined_kept k rows left l s added.steps.below x)))

  steps_at : (i : ℕ) → i < length left + 1 → AreSteps k next i (row_at (steps ++ s ∷ []) i)
  steps_at =
      one_more (λ i. AreSteps k next i (row_at (steps ++ s ∷ []) i)) (length left)
      (λ i h.
      let seen : i < length steps = omega (arith, h, e.steps_count) in
      subst (AreSteps k next i) (sym (get_or_append_left steps (s ∷ []) [] i seen)) (steps_stay i (row_at steps i) (e.are_steps i seen)))
      (subst (AreSteps k next (length left)) (sym (get_or_push steps s [] (length left) e.steps_count)) (steps_stay (length left) s added.steps))

  elements_at : (i : ℕ) → i < length left + 1 → AllElements k (row_at (kept_rows rows (left ++ l ∷ [])) i)
  elements_at =
      one_more (λ i. AllElements k (row_at (kept_rows rows (left ++ l ∷ [])) i)) (length left)
      (λ i h. subst (AllElements k) (sym (kept_before rows left l i h)) (e.elements i h))
      (subst (AllElements k) last_cells added.elements)

  below_at : (i : ℕ) → i < length left + 1 → AllBelow (length next) (row_at (kept_rows rows (left ++ l ∷ [])) i)
  below_at i h =
      subst (λ n. AllBelow n (row_at (kept_rows rows (left ++ l ∷ [])) i)) (sym more.width)
      (one_more (λ j. AllBelow (length pivots) (row_at (kept_rows rows (left ++ l ∷ [])) j)) (length left)
      (λ j g. subst (AllBelow (length pivots)) (sym (kept_before rows left l j g)) (e.below j g))
      (subst (AllBelow (length pivots)) last_cells added.below) i h)

  known_at : (column i : ℕ) → pivot_at next column ≡ Some i → (i < length (left ++ l ∷ [])) × IsPivot k (row_at (kept_rows rows (left ++ l ∷ [])) i) (get_or (factors ++ factor ∷ []) i 0) column
  known_at column i claimed =
      elim (more.knows column i claimed) [
        | inl old ↦
            let h : (i < length left) × IsPivot k (row_at (kept_rows rows left) i) (get_or factors i 0) column = e.known column i old in (
              omega (arith, h.0, length_push left l),
              subst (λ n. IsPivot k (row_at (kept_rows rows (left ++ l ∷ [])) i) n column) (sym (get_or_append_left factors (factor ∷ []) 0 i (omega (arith, h.0, e.factors_count))))
                  (subst (λ (r : List Cell). IsPivot k r (get_or factors i 0) column) (sym (kept_before rows left l i h.0)) h.1),
            )
        | inr new ↦ (
          omega (arith, new.0, length_push left l),
          subst (λ j. IsPivot k (row_at (kept_rows rows (left ++ l ∷ [])) j) (get_or (factors ++ factor ∷ []) j 0) column) (sym new.0)
              (subst (λ n. IsPivot k (row_at (kept_rows rows (left ++ l ∷ [])) (length left)) n column) (sym (get_or_push factors factor 0 (length left) e.factors_count))
              (subst (λ (r : List Cell). IsPivot k r factor column) last_cells new.1)),
        )
      ]

  pub echelon_more : IsEchelon k rows (left ++ l ∷ []) (steps ++ s ∷ []) (factors ++ factor ∷ []) next
  echelon_more = record {
    within = omega (arith, length_push left l, added.room);
    steps_count = length_push steps s ∙ ap (λ n. n + 1) e.steps_count ∙ sym (length_push left l);
    factors_count = length_push factors factor ∙ ap (λ n. n + 1) e.factors_count ∙ sym (length_push left l);
    made = λ i h. made_at i (omega (arith, h, length_push steps s, e.steps_count));
    are_steps = λ i h. steps_at i (omega (arith, h, length_push steps s, e.steps_count));
    elements = λ i h. elements_at i (omega (arith, h, length_push left l));
    below = λ i h. below_at i (omega (arith, h, length_push left l));
    known = known_at;
  }

  module _ (places : List Place) (count : length places ≡ length left) (f : Follows k rows pivots places) where
    place_before : (place : Place) (i : ℕ) → i < length left → place_at (places ++ place ∷ []) i ≡ place_at places i
    place_before place i h = get_or_append_left places (place ∷ []) Independent i (omega (arith, h, count))

    place_last : (place : Place) → place_at (places ++ place ∷ []) (length left) ≡ place
    place_last place = get_or_push places place Independent (length left) count

    pub independent_before : (place : Place) (cells : List Cell) → AllBelow (length left) cells → AllIndependent places cells → AllIndependent (places ++ place ∷ []) cells
    independent_before place cells below free =
        all_both (λ c. c.column < length left) (λ c. place_at places c.column ≡ Independent) (λ c. place_at (places ++ place ∷ []) c.column ≡ Independent)
        (λ c b h. place_before place c.column b ∙ h) cells below free

    place_stays : (place : Place) (i : ℕ) → i < length left → (p : Place) → IsPlace k rows places i p → IsPlace k rows (places ++ place ∷ []) i p
    place_stays place i before Independent h = h
    place_stays place i before (Depends cells) h = record {
      combination = h.combination;
      independent = independent_before place cells (all-weaker (λ c. c.column < i) (λ c. c.column < length left) (λ c b. omega (arith, b, before)) cells h.combination.earlier) h.independent;
      shape = h.shape;
    }

    each_at : (place : Place) → IsPlace k rows (places ++ place ∷ []) (length left) place → (i : ℕ) → i < length left + 1 → IsPlace k rows (places ++ place ∷ []) i (place_at (places ++ place ∷ []) i)
    each_at place here =
        one_more (λ i. IsPlace k rows (places ++ place ∷ []) i (place_at (places ++ place ∷ []) i)) (length left)
        (λ i h. subst (IsPlace k rows (places ++ place ∷ []) i) (sym (place_before place i h)) (place_stays place i h (place_at places i) (f.each i (omega (arith, h, count)))))
        (subst (IsPlace k rows (places ++ place ∷ []) (length left)) (sym (place_last place)) here)

    claimed_before : (place : Place) (i : ℕ) → i < length left → place_at (places ++ place ∷ []) i ≡ Independent → IsClaimed next i
    claimed_before place i h free =
        let old : IsClaimed pivots i = f.claimed i (omega (arith, h, count)) (sym (place_before place i h) ∙ free) in (old.0, more.stays old.0 i old.1)

    -- the row is kept
    pub follows_kept : IsClaimed next (length left) → (IsDependent k rows (length left) → ⊥) → Follows k rows next (places ++ Independent ∷ [])
    follows_kept claimed free = record {
      each = λ i h. each_at Independent free i (omega (arith, h, length_push places Independent, count));
      claimed = λ i h same.
          one_more (λ j. place_at (places ++ Independent ∷ []) j ≡ Independent → IsClaimed next j) (length left) (claimed_before Independent) (λ q. claimed) i (omega (arith, h, length_push places Independent, count)) same;
      independent = λ i h.
          elim (more.knows h.0 i h.1) [
            | inl old ↦ place_before Independent i (e.known h.0 i old).0 ∙ f.independent i (h.0, old)
            | inr new ↦ ap (place_at (places ++ Independent ∷ [])) new.0 ∙ place_last Independent
          ];
    }

    -- the row depends on others, and no column is new
    pub follows_spent : (cells : List Cell) → next ≡ pivots → IsPlace k rows (places ++ Depends cells ∷ []) (length left) (Depends cells) → Follows k rows next (places ++ Depends cells ∷ [])
    follows_spent cells same here = record {
      each = λ i h. each_at (Depends cells) here i (omega (arith, h, length_push places (Depends cells), count));
      claimed = λ i h free.
          one_more (λ j. place_at (places ++ Depends cells ∷ []) j ≡ Independent → IsClaimed next j) (length left) (claimed_before (Depends cells))
          (λ q. absurd (differ (sym (place_last (Depends cells)) ∙ q))) i (omega (arith, h, length_push places (Depends cells), count)) free;
      independent = λ i h.
          let old : pivot_at pivots h.0 ≡ Some i = ap (λ (ps : List (Option ℕ)). pivot_at ps h.0) (sym same) ∙ h.1 in
          place_before (Depends cells) i (e.known h.0 i old).0 ∙ f.independent i (h.0, old);
    }
      where
        differ : Depends cells ≡ Independent → ⊥
        differ q = cc
