-- What the elimination makes of a row, from its parts.
use Rattle.std.proofs.Common.{◌≡◌, ◌≢◌, ◌<◌, ◌≤◌, ℕ, List, [], ◌∷◌, ◌++◌, Option, Some, None, refl, sym, ◌∙◌, ap, ap₂, subst, arith, inl, inr, length, set, replicate, get_or-set_same, ◌+◌}
use Rattle.std.proofs.lemmas.Bool.{cases_order, cases_lt}
use Rattle.std.proofs.lemmas.List.{length_push, length-set, length-replicate, get_or-replicate, get_or_past}
use Rattle.std.proofs.lemmas.Option.{none-some}
use Rattle.nichols_field.specs.Field.{FieldValue, IsField, IsElement, plus, times, negative}
use Rattle.nichols_field.proofs.FieldLaws.{plus_zero, zero_is_element}
use Rattle.nichols_field.proofs.FieldAlgebra.{zero_plus, one_times}
use Rattle.nichols_echelon.specs.Cells.{Cell, cell_value, entry, IsRow, AllElements, AllBelow}
use Rattle.nichols_echelon.specs.Combination.{row_at, combined_entry, AllRowsElements, AllRowsBelow, AreRows, IsDependent}
use Rattle.nichols_echelon.specs.Split.{place_at, IsPlace}
use Rattle.nichols_echelon.specs.Rows.{RowsValue}
use Rattle.nichols_echelon.specs.Sums.{sum_at, IsZero}
use Rattle.nichols_echelon.specs.Echelon.{kept_row, kept_rows, pivot_at, IsClaimed, IsEchelon}
use Rattle.nichols_echelon.specs.Sweep.{IsSwept, IsTraced}
use Rattle.nichols_echelon.specs.NextRow.{Holds, IsGrown, IsKept, IsSpent, IsNextRow, Follows}
use Rattle.nichols_echelon.specs.declared.echelon.Echelon.{Echelon}
use Rattle.nichols_echelon.specs.declared.rows.Place.{Place}
use Rattle.nichols_echelon.specs.declared.rows.Place.TheVariants.{Independent, Depends}
use Rattle.nichols_echelon.proofs.Shapes.{all_back, row_last, row_of_all}
use Rattle.nichols_echelon.proofs.Entries.{entry-nil, entry-push, entry_is_element, entry_beyond, cell_here, cell_elsewhere}
use Rattle.nichols_echelon.proofs.Combinations.{combined_entry-nil, combined_is_element}
use Rattle.nichols_echelon.proofs.Kept.{nothing_behind, nonzero_here}
use Rattle.nichols_echelon.proofs.Independence.{independent}
use Rattle.nichols_echelon.proofs.Growing.{IsAdded, KnowsMore, knows_same, knows_new, echelon_more, independent_before, follows_kept, follows_spent}
use Rattle.nichols_tensor.proofs.Over.{all-weaker}

-- a list that isn't empty ends in something
pub ends_in : (c : Cell) (cells : List Cell) → (front : List Cell) × (last : Cell) × (c ∷ cells ≡ front ++ last ∷ [])
ends_in c [] = ([], c, refl)
ends_in c (d ∷ cells) =
    let r : (front : List Cell) × (last : Cell) × (d ∷ cells ≡ front ++ last ∷ []) = ends_in d cells in
    (c ∷ r.0, r.1, ap (λ (cs : List Cell). c ∷ cs) r.2)

-- the last cell of a row stands at the last column with an entry
pub last_cell : (k : FieldValue) → IsField k → (cells : List Cell) (column : ℕ) → IsRow cells → AllElements k cells → entry k cells column ≢ 0 → ((x : ℕ) → column < x → entry k cells x ≡ 0) →
    (front : List Cell) × (last : Cell) × (cells ≡ front ++ last ∷ []) × (last.column ≡ column) × (last.coefficient ≡ entry k cells column)
last_cell k is [] column shape elements nonzero behind = absurd (nonzero (entry-nil k column))
last_cell k is (c ∷ cs) column shape elements nonzero behind = at (ends_in c cs)
  where
    at : (front : List Cell) × (last : Cell) × (c ∷ cs ≡ front ++ last ∷ []) →
        (front : List Cell) × (last : Cell) × (c ∷ cs ≡ front ++ last ∷ []) × (last.column ≡ column) × (last.coefficient ≡ entry k (c ∷ cs) column)
    at (front, last, parts) =
        let row : IsRow front × AllBelow last.column front × (last.coefficient ≢ 0) = row_last front last (subst IsRow parts shape) in
        let element : IsElement k last.coefficient = (all_back (λ d. IsElement k d.coefficient) front (last ∷ []) (subst (AllElements k) parts elements)).0 in
        let value : (x : ℕ) → entry k (c ∷ cs) x ≡ plus k (entry k front x) (cell_value last x) = λ x. ap (λ (ds : List Cell). entry k ds x) parts ∙ entry-push k is front last x in
        let here : entry k (c ∷ cs) last.column ≡ last.coefficient =
        value last.column ∙ ap₂ (plus k) (entry_beyond k is last.column front last.column row.1 (omega arith)) (cell_here last last.column refl) ∙ zero_plus k last.coefficient element in
        elim (cases_order last.column column) [
          | inl same ↦ (front, last, parts, same, sym here ∙ ap (entry k (c ∷ cs)) same)
          | inr (inl less) ↦
              absurd (nonzero (value column ∙ ap₂ (plus k) (entry_beyond k is last.column front column row.1 (omega (arith, less))) (cell_elsewhere last column (λ e. (let no : ⊥ = omega (arith, e, less) in no))) ∙ plus_zero k 0 (zero_is_element k is)))
          | inr (inr more) ↦ absurd (row.2 (sym here ∙ behind last.column more))
        ]

grown : (old new : Echelon) (left steps : List Cell) (factor column : ℕ) → new.left ≡ record { rows = old.left.rows ++ left ∷ []; begun = [] } → new.steps ≡ record { rows = old.steps.rows ++ steps ∷ []; begun = [] } →
    new.factors.items ≡ old.factors.items ++ factor ∷ [] → new.pivots.items ≡ set old.pivots.items column (Some (length old.factors.items)) → length old.factors.items ≡ length old.left.rows →
    IsGrown old new left steps factor (set old.pivots.items column (Some (length old.left.rows)))
grown old new left steps factor column l s f p count = record {
  new_left = l;
  new_steps = s;
  new_factors = f;
  new_pivots = p ∙ ap (λ n. set old.pivots.items column (Some n)) count;
}

pub closed_empty : (old new : RowsValue) → old.begun ≡ [] → new ≡ record { rows = old.rows ++ old.begun ∷ []; begun = [] } → new ≡ record { rows = old.rows ++ [] ∷ []; begun = [] }
closed_empty old new none e = e ∙ ap (λ (cs : List Cell). (let v : RowsValue = record { rows = old.rows ++ cs ∷ []; begun = [] } in v)) none

module _ (k : FieldValue) (is : IsField k) (rows : List (List Cell)) (old new : Echelon) (holds : Holds k rows old) (row : List Cell) (here : row ≡ row_at rows (length old.left.rows)) where
  -- a row that ends at a free column is kept as it is
  pub kept_whole : AreRows rows → AllRowsElements k rows → AllRowsBelow (length old.pivots.items) rows → (front : List Cell) (last : Cell) (factor : ℕ) → row ≡ front ++ last ∷ [] →
      pivot_at old.pivots.items last.column ≡ None → IsElement k factor → times k last.coefficient factor ≡ negative k 1 →
      new.left ≡ record { rows = old.left.rows ++ [] ∷ []; begun = [] } → new.steps ≡ record { rows = old.steps.rows ++ [] ∷ []; begun = [] } →
      new.factors.items ≡ old.factors.items ++ factor ∷ [] → new.pivots.items ≡ set old.pivots.items last.column (Some (length old.factors.items)) → IsKept k rows old new
  kept_whole shape elements below front last factor parts free element inverse l s f p = record {
    left = [];
    steps = [];
    factor = factor;
    column = last.column;
    grown = grown old new [] [] factor last.column l s f p holds.factors_count;
    free = free;
    pivot = record {
      shape = row_of_all IsRow rows (record { rising = tt; nonzero = tt }) shape (length old.left.rows);
      front = front;
      last = last;
      parts = sym here ∙ parts;
      at = refl;
      element = element;
      inverse = inverse;
    };
    elements = row_of_all (AllElements k) rows tt elements (length old.left.rows);
    below = row_of_all (AllBelow (length old.pivots.items)) rows tt below (length old.left.rows);
    are_steps = record { elements = tt; below = tt; claimed = tt };
    value = λ x.
        let v : ℕ = entry k (row_at rows (length old.left.rows)) x in
        sym (ap (plus k v) (combined_entry-nil k (kept_rows rows old.left.rows) x) ∙ plus_zero k v (entry_is_element k is (row_at rows (length old.left.rows)) x));
  }

  module _ (zero loaded values : List ℕ) (none : IsZero k zero) (load : (x : ℕ) → sum_at k loaded x ≡ plus k (sum_at k zero x) (times k 1 (entry k row x))) (steps : List Cell) where
    loaded_row : (x : ℕ) → sum_at k loaded x ≡ entry k (row_at rows (length old.left.rows)) x
    loaded_row x =
        load x ∙ ap₂ (plus k) (none x) (one_times k (entry k row x) (entry_is_element k is row x)) ∙ zero_plus k (entry k row x) (entry_is_element k is row x)
        ∙ ap (λ (cs : List Cell). entry k cs x) here

    -- a row of which something is left
    pub kept_left : (last : Cell) (factor : ℕ) (cells : List Cell) → IsSwept k (kept_rows rows old.left.rows) old.pivots.items (length old.left.rows) loaded values (Some last) steps →
        length values ≡ length old.pivots.items → IsRow cells → AllElements k cells → AllBelow (length values) cells → ((x : ℕ) → entry k cells x ≡ sum_at k values x) →
        IsElement k factor → times k last.coefficient factor ≡ negative k 1 →
        new.left ≡ record { rows = old.left.rows ++ cells ∷ []; begun = [] } → new.steps ≡ record { rows = old.steps.rows ++ steps ∷ []; begun = [] } →
        new.factors.items ≡ old.factors.items ++ factor ∷ [] → new.pivots.items ≡ set old.pivots.items last.column (Some (length old.factors.items)) → IsKept k rows old new
    kept_left last factor [] swept width shape elements below entries element inverse l s f p =
        absurd (swept.rest.nonzero (swept.rest.here ∙ sym (entries last.column) ∙ entry-nil k last.column))
    kept_left last factor (c ∷ cs) swept width shape elements below entries element inverse l s f p =
        let at : entry k (c ∷ cs) last.column ≡ last.coefficient = entries last.column ∙ sym swept.rest.here in
        let end : (front : List Cell) × (d : Cell) × (c ∷ cs ≡ front ++ d ∷ []) × (d.column ≡ last.column) × (d.coefficient ≡ entry k (c ∷ cs) last.column) =
        last_cell k is (c ∷ cs) last.column shape elements (λ e. swept.rest.nonzero (sym at ∙ e)) (λ x more. entries x ∙ swept.rest.behind x (omega (arith, more))) in
        record {
          left = c ∷ cs;
          steps = steps;
          factor = factor;
          column = last.column;
          grown = grown old new (c ∷ cs) steps factor last.column l s f p holds.factors_count;
          free = swept.rest.free;
          pivot = record {
            shape = shape;
            front = end.0;
            last = end.1;
            parts = end.2;
            at = end.3;
            element = element;
            inverse = ap (λ v. times k v factor) (end.4 ∙ at) ∙ inverse;
          };
          elements = elements;
          below = subst (λ n. AllBelow n (c ∷ cs)) width below;
          are_steps = swept.are_steps;
          value = λ x. sym (loaded_row x) ∙ swept.value x ∙ ap (λ m. plus k m (combined_entry k (kept_rows rows old.left.rows) steps x)) (sym (entries x));
        }

    -- a row of which nothing is left
    pub spent : (cells : List Cell) → IsSwept k (kept_rows rows old.left.rows) old.pivots.items (length old.left.rows) loaded values None steps → IsTraced k old.pivots.items old.steps.rows steps cells →
        new.left ≡ record { rows = old.left.rows ++ [] ∷ []; begun = [] } → new.steps ≡ record { rows = old.steps.rows ++ [] ∷ []; begun = [] } → new.factors.items ≡ old.factors.items ++ 0 ∷ [] →
        new.pivots.items ≡ old.pivots.items → IsSpent k rows old new cells
    spent cells swept traced l s f p = record {
      steps = steps;
      grown = record { new_left = l; new_steps = s; new_factors = f; new_pivots = p };
      value = λ x.
          let m : ℕ = combined_entry k (kept_rows rows old.left.rows) steps x in
          sym (loaded_row x) ∙ swept.value x ∙ ap (λ v. plus k v m) (swept.rest x) ∙ zero_plus k m (combined_is_element k is (kept_rows rows old.left.rows) steps x);
      traced = traced;
    }

-- the parts of what holds, along equations
carried : (k : FieldValue) (rows : List (List Cell)) (new : Echelon) (left steps : List (List Cell)) (factors : List ℕ) (pivots : List (Option ℕ)) → new.left.rows ≡ left → new.steps.rows ≡ steps →
    new.factors.items ≡ factors → new.pivots.items ≡ pivots → IsEchelon k rows left steps factors pivots → Holds k rows new
carried k rows new left steps factors pivots a b c d e =
    subst (λ (ls : List (List Cell)). IsEchelon k rows ls new.steps.rows new.factors.items new.pivots.items) (sym a)
    (subst (λ (ss : List (List Cell)). IsEchelon k rows left ss new.factors.items new.pivots.items) (sym b)
    (subst (λ (fs : List ℕ). IsEchelon k rows left steps fs new.pivots.items) (sym c)
    (subst (λ (ps : List (Option ℕ)). IsEchelon k rows left steps factors ps) (sym d) e)))

module _ (k : FieldValue) (is : IsField k) (rows : List (List Cell)) (old new : Echelon) (holds : Holds k rows old) (room : length old.left.rows < length rows)
    (places : List Place) (count : length places ≡ length old.left.rows) (follows : Follows k rows old.pivots.items places) where
  kept_more : IsKept k rows old new → Holds k rows new × Follows k rows new.pivots.items (places ++ Independent ∷ [])
  kept_more h =
      let n : ℕ = length old.left.rows in
      let inside : h.column < length old.pivots.items =
      subst (λ c. c < length old.pivots.items) h.pivot.at
      (all_back (λ c. c.column < length old.pivots.items) h.pivot.front (h.pivot.last ∷ []) (subst (AllBelow (length old.pivots.items)) h.pivot.parts h.below)).0 in
      let next : List (Option ℕ) = set old.pivots.items h.column (Some n) in
      let added : IsAdded k rows old.left.rows old.pivots.items h.left h.steps = record { room = room; value = h.value; steps = h.are_steps; elements = h.elements; below = h.below } in
      let more : KnowsMore k rows old.left.rows h.left h.factor old.pivots.items next = knows_new k rows old.left.rows h.left h.factor h.column old.pivots.items h.free inside h.pivot in
      let free : IsDependent k rows n → ⊥ =
      independent k is rows old.left.rows old.steps.rows old.factors.items old.pivots.items holds places count follows (kept_row (row_at rows n) h.left) h.steps h.column h.free h.are_steps.claimed
      (nonzero_here k is (kept_row (row_at rows n) h.left) h.factor h.column h.pivot h.elements) (nothing_behind k is (kept_row (row_at rows n) h.left) h.factor h.column h.pivot) h.value in (
        carried k rows new (old.left.rows ++ h.left ∷ []) (old.steps.rows ++ h.steps ∷ []) (old.factors.items ++ h.factor ∷ []) next
            (ap (λ (v : RowsValue). v.rows) h.grown.new_left) (ap (λ (v : RowsValue). v.rows) h.grown.new_steps) h.grown.new_factors h.grown.new_pivots
            (echelon_more k rows old.left.rows old.steps.rows old.factors.items old.pivots.items next h.left h.steps h.factor holds added more),
        subst (λ (ps : List (Option ℕ)). Follows k rows ps (places ++ Independent ∷ [])) (sym h.grown.new_pivots)
            (follows_kept k rows old.left.rows old.steps.rows old.factors.items old.pivots.items next h.left h.steps h.factor holds added more places count follows
            (h.column, get_or-set_same old.pivots.items h.column (Some n) None inside) free),
      )

  spent_more : AllRowsElements k rows → AllRowsBelow (length old.pivots.items) rows → (cells : List Cell) → IsSpent k rows old new cells → Holds k rows new × Follows k rows new.pivots.items (places ++ Depends cells ∷ [])
  spent_more elements below cells h =
      let n : ℕ = length old.left.rows in
      let added : IsAdded k rows old.left.rows old.pivots.items [] [] = record {
        room = room;
        value = λ x.
            let v : ℕ = entry k (row_at rows n) x in
            sym (ap (plus k v) (combined_entry-nil k (kept_rows rows old.left.rows) x) ∙ plus_zero k v (entry_is_element k is (row_at rows n) x));
        steps = record { elements = tt; below = tt; claimed = tt };
        elements = row_of_all (AllElements k) rows tt elements n;
        below = row_of_all (AllBelow (length old.pivots.items)) rows tt below n;
      } in
      let more : KnowsMore k rows old.left.rows [] 0 old.pivots.items old.pivots.items = knows_same k rows old.left.rows [] 0 old.pivots.items in
      let earlier : AllBelow n cells = subst (λ m. AllBelow m cells) holds.steps_count h.traced.below in
      let place : IsPlace k rows (places ++ Depends cells ∷ []) n (Depends cells) = record {
        combination = record {
          earlier = earlier;
          elements = h.traced.elements;
          value = λ x. h.value x ∙ sym (h.traced.value rows (kept_rows rows old.left.rows) holds.made x);
        };
        independent =
            independent_before k rows old.left.rows old.steps.rows old.factors.items old.pivots.items old.pivots.items [] [] 0 holds added more places count follows (Depends cells) cells earlier
            (all-weaker (λ c. IsClaimed old.pivots.items c.column) (λ c. place_at places c.column ≡ Independent) (λ c q. follows.independent c.column q) cells h.traced.claimed);
        shape = h.traced.shape;
      } in (
        carried k rows new (old.left.rows ++ [] ∷ []) (old.steps.rows ++ [] ∷ []) (old.factors.items ++ 0 ∷ []) old.pivots.items
            (ap (λ (v : RowsValue). v.rows) h.grown.new_left) (ap (λ (v : RowsValue). v.rows) h.grown.new_steps) h.grown.new_factors h.grown.new_pivots
            (echelon_more k rows old.left.rows old.steps.rows old.factors.items old.pivots.items old.pivots.items [] [] 0 holds added more),
        subst (λ (ps : List (Option ℕ)). Follows k rows ps (places ++ Depends cells ∷ [])) (sym h.grown.new_pivots)
            (follows_spent k rows old.left.rows old.steps.rows old.factors.items old.pivots.items old.pivots.items [] [] 0 holds added more places count follows cells refl place),
      )

  -- one turn of the loop over the rows
  pub settled_more : AllRowsElements k rows → AllRowsBelow (length old.pivots.items) rows → (place : Place) → IsNextRow k rows old new place → Holds k rows new × Follows k rows new.pivots.items (places ++ place ∷ [])
  settled_more elements below Independent h = kept_more h
  settled_more elements below (Depends cells) h = spent_more elements below cells h

-- what a row more leaves of the counts and the tables
pub record HasGrown (old new : Echelon) : Type 0 where
  pub count : length new.left.rows ≡ length old.left.rows + 1
  pub begun : (new.left.begun ≡ []) × (new.steps.begun ≡ [])
  pub width : length new.pivots.items ≡ length old.pivots.items

has_grown : (old new : Echelon) (left steps : List Cell) (factor : ℕ) (pivots : List (Option ℕ)) → IsGrown old new left steps factor pivots → length pivots ≡ length old.pivots.items → HasGrown old new
has_grown old new left steps factor pivots g width = record {
  count = ap (λ (v : RowsValue). length v.rows) g.new_left ∙ length_push old.left.rows left;
  begun = (ap (λ (v : RowsValue). v.begun) g.new_left, ap (λ (v : RowsValue). v.begun) g.new_steps);
  width = ap (λ (ps : List (Option ℕ)). length ps) g.new_pivots ∙ width;
}

pub settled_grown : (k : FieldValue) (rows : List (List Cell)) (old new : Echelon) (place : Place) → IsNextRow k rows old new place → HasGrown old new
settled_grown k rows old new Independent h = has_grown old new h.left h.steps h.factor (set old.pivots.items h.column (Some (length old.left.rows))) h.grown (length-set old.pivots.items h.column (Some (length old.left.rows)))
settled_grown k rows old new (Depends cells) h = has_grown old new [] [] 0 old.pivots.items h.grown refl

-- before the first row
pub holds_first : (k : FieldValue) (rows : List (List Cell)) (e : Echelon) → e.left.rows ≡ [] → e.steps.rows ≡ [] → e.factors.items ≡ [] → ((column : ℕ) → pivot_at e.pivots.items column ≡ None) →
    Holds k rows e × Follows k rows e.pivots.items []
holds_first k rows e l s f none = (
  carried k rows e [] [] [] e.pivots.items l s f refl (record {
    within = omega arith;
    steps_count = refl;
    factors_count = refl;
    made = λ i h. absurd (omega (arith, h));
    are_steps = λ i h. absurd (omega (arith, h));
    elements = λ i h. absurd (omega (arith, h));
    below = λ i h. absurd (omega (arith, h));
    known = λ column i h. absurd (none-some i (sym (none column) ∙ h));
  }),
  record {
    each = λ i h. absurd (omega (arith, h));
    claimed = λ i h. absurd (omega (arith, h));
    independent = λ i h. absurd (none-some i (sym (none h.0) ∙ h.1));
  },
)

pub no_pivots : (pivots : List (Option ℕ)) (width : ℕ) → pivots ≡ replicate width None → (column : ℕ) → pivot_at pivots column ≡ None
no_pivots pivots width e column =
    ap (λ (ps : List (Option ℕ)). pivot_at ps column) e
    ∙ elim (cases_lt column width) [
      | inl inside ↦ get_or-replicate width column None None inside
      | inr past ↦ get_or_past (replicate width None) column None (omega (arith, past, length-replicate width (let n : Option ℕ = None in n)))
    ]

pub rows_wider : (n m : ℕ) (rows : List (List Cell)) → n ≤ m → AllRowsBelow n rows → AllRowsBelow m rows
rows_wider n m rows less h = all-weaker (AllBelow n) (AllBelow m) (λ row b. all-weaker (λ c. c.column < n) (λ c. c.column < m) (λ c q. omega (arith, q, less)) row b) rows h
