-- A new pass keeps the rule, and leaves the state.
use Rattle.std.proofs.Common.{◌≡◌, ◌≢◌, ℕ, ◌+◌, true, false, true≢false, ◌&&◌, List, [], ◌∷◌, ◌++◌, length, set, refl, sym, ap, ◌∙◌, subst, ⊎_elim, arith, length-set}
use Rattle.std.proofs.lemmas.Bool.{false_from_ne_true, or_cases}
use Rattle.std.proofs.lemmas.Option.{none-some}
use Rattle.std.proofs.Math.Bool.{and-false}
use mathlib.Core.Option.{some}
use mathlib.Core.Logic.{dite}
use native.Mathlib.Decide.{ℕ_discrete}
use lib.ListN.{get_elem?}
use Rattle.atomic_table.specs.Table.{Splits}
use Rattle.atomic_table.proofs.Lists.{at_set, at_longer}
use Rattle.nichols_core.specs.Machine.{Machine, put, is_held_by, is_resumed_by}
use Rattle.nichols_core.specs.Runs.{one_if}
use Rattle.nichols_core.proofs.Stages.{put_here, put_else}
use Rattle.nichols_shelf.specs.Plan.{PlanValue}
use Rattle.nichols_shelf.specs.Places.{edge}
use Rattle.nichols_shelf.specs.Views.{one_more, newcomer}
use Rattle.nichols_shelf.specs.Seats.{is_made_by, tends, concerns, Knows, IsNumbered, Lives, SeatsStand}
use Rattle.nichols_shelf.specs.Slots.{Notes, SlotsStand}
use Rattle.nichols_shelf.specs.Stands.{Tableau, Book, Stands, Holds}
use Rattle.nichols_shelf.specs.declared.view.View.{View}
use Rattle.nichols_shelf.proofs.Listed.{at_end}
use Rattle.nichols_shelf.proofs.SeatsKept.{lives_set, concerns_held, concerns_resumed, concerns_owed, concerns_made}
use Rattle.nichols_shelf.proofs.SlotsKept.{slots_stay}

module _ (g : PlanValue) (s : Tableau) (m : Machine) (book : Book) (st : Stands g s m book) (id : ℕ) (v : View) (at : get_elem? s.views id ≡ some v) (live : v.live ≡ true) (zeroth : v.worker ≡ 0) where
  abbrev kv : Knows g m book.seat book.maker id v
  kv = st.seats.knows id v at live

  abbrev nv : IsNumbered book.count book.first v
  nv = st.seats.numbers id v at live

  abbrev w : ℕ
  w = v.passes

  -- no live view has the next number
  no_next : (j : ℕ) (u : View) → get_elem? s.views j ≡ some u → u.live ≡ true → u.worker ≢ w
  no_next j u there alive e =
      let p = (nv.zeroth zeroth).0 in
      let a = st.seats.positive in
      let c = st.seats.counted in
      dite (ℕ_discrete u.worker 0) (λ z. omega arith) (λ nz. let o = (st.seats.numbers j u there alive).others nz in omega arith)

  unconcerned : (b : ℕ) → concerns g m book.maker w b ≡ true → ⊥
  unconcerned b h = let x = st.seats.concerned w b h in no_next (book.seat w) x.view x.there x.live x.worker

  not_held : (b : ℕ) → is_held_by w (m.stage b) ≡ false
  not_held b = false_from_ne_true (is_held_by w (m.stage b)) (λ e. unconcerned b (concerns_held g m book.maker w b e))

  not_resumed : (b : ℕ) → is_resumed_by w (m.stage b) ≡ false
  not_resumed b = false_from_ne_true (is_resumed_by w (m.stage b)) (λ e. unconcerned b (concerns_resumed g m book.maker w b e))

  not_owed : (b : ℕ) → m.owes w b ≡ false
  not_owed b = false_from_ne_true (m.owes w b) (λ e. unconcerned b (concerns_owed g m book.maker w b e))

  not_made : (b : ℕ) → is_made_by g m book.maker w b ≡ false
  not_made b = false_from_ne_true (is_made_by g m book.maker w b) (λ e. unconcerned b (concerns_made g m book.maker w b e))

  untended : (b : ℕ) → tends g m book.maker w b ≡ true → ⊥
  untended b h = ⊎_elim (λ q. true≢false (sym q ∙ not_held b)) (λ q. true≢false (sym q ∙ not_made b)) (or_cases (is_held_by w (m.stage b)) (is_made_by g m book.maker w b) h)

  abbrev seat : ℕ → ℕ
  seat = put book.seat w (length s.views)

  abbrev after : List View
  after = set s.views id (one_more v) ++ newcomer v ∷ []

  -- what holds of the pass, of the others and of the new one holds of all afterwards
  all_after : (P : ℕ → View → Type 0) → P id (one_more v) → ((j : ℕ) (u : View) → j ≢ id → get_elem? s.views j ≡ some u → u.live ≡ true → P j u) → P (length s.views) (newcomer v)
      → (j : ℕ) (u : View) → get_elem? after j ≡ some u → u.live ≡ true → P j u
  all_after P mine other new j u there alive = ⊎_elim
      (λ e. ⊎_elim
      (λ (t : (j ≡ id) × (one_more v ≡ u)). subst (λ (x : ℕ × View). P x.0 x.1) (λ i. (sym t.0 i, t.1 i)) mine)
      (λ (t : (j ≢ id) × (get_elem? s.views j ≡ some u)). other j u t.0 t.1 alive)
      (at_set s.views id j (one_more v) u e))
      (λ (t : (j ≡ length (set s.views id (one_more v))) × (newcomer v ≡ u)).
      subst (λ (x : ℕ × View). P x.0 x.1) (λ i. (sym (t.0 ∙ length-set s.views id (one_more v)) i, t.1 i)) new)
      (at_end (set s.views id (one_more v)) (newcomer v) u j there)

  seats_after : SeatsStand g after m seat (book.count + 1) book.first book.maker
  seats_after = record {
    knows = all_after (λ j u. Knows g m seat book.maker j u)
        record { plan = kv.plan; place = put_else book.seat w (length s.views) v.worker (no_next id v at live) ∙ kv.place; held = kv.held; resumed = kv.resumed; owed = kv.owed; known = kv.known; made = kv.made }
        (λ j u apart there alive. let k = st.seats.knows j u there alive in
        record { plan = k.plan; place = put_else book.seat w (length s.views) u.worker (no_next j u there alive) ∙ k.place; held = k.held; resumed = k.resumed; owed = k.owed; known = k.known; made = k.made })
        record {
          plan = kv.plan;
          place = put_here book.seat w (length s.views) w refl;
          held = λ b. sym (not_held b);
          resumed = λ b. sym (not_resumed b);
          owed = λ b. sym (not_owed b);
          known = λ b e. absurd (true≢false (sym e));
          made = λ b. sym (ap one_if (not_made b));
        };
    numbers = all_after (λ j u. IsNumbered (book.count + 1) book.first u)
        record { zeroth = λ z. (ap (λ x. x + 1) (nv.zeroth z).0, (nv.zeroth z).1); others = λ nz. absurd (nz zeroth) }
        (λ j u apart there alive. let q = st.seats.numbers j u there alive in let k = st.seats.knows j u there alive in
        record { zeroth = λ z. absurd (apart (sym k.place ∙ ap book.seat (z ∙ sym zeroth) ∙ kv.place)); others = λ nz. let o = q.others nz in (o.0, omega arith) })
        (let p = (nv.zeroth zeroth).0 in let a = st.seats.positive in let c = st.seats.counted in record { zeroth = λ z. absurd (omega arith); others = λ nz. (omega arith, omega arith) });
    positive = st.seats.positive;
    counted = let c = st.seats.counted in omega arith;
    concerned = λ u b h.
        let x = st.seats.concerned u b h in
        let ne : u ≢ w = λ e. no_next (book.seat u) x.view x.there x.live (x.worker ∙ e) in
        let y = lives_set s.views id v (one_more v) at live refl u (book.seat u) x in
        subst (Lives after u) (sym (put_else book.seat w (length s.views) u ne))
        record { view = y.view; there = at_longer (set s.views id (one_more v)) (newcomer v ∷ []) (book.seat u) y.view y.there; live = y.live; worker = y.worker };
  }

  slots_after : SlotsStand g s.words s.homes after m book.maker book.value book.drawn
  slots_after = slots_stay g s.words s.homes s.views after m m.owes book.maker book.maker book.value book.drawn st.slots
      (all_after (λ j u. Notes g m book.maker book.value book.drawn u)
      (let r = st.slots.notes id v at live in record { picked = r.picked; picks = r.picks; laid = r.laid; lays = r.lays; draws = r.draws })
      (λ j u apart there alive. st.slots.notes j u there alive)
      record {
        picked = λ k x e. absurd (none-some x e);
        picks = λ k in_k h p. absurd (untended (edge g k).upper h);
        laid = λ k x e. absurd (none-some x e);
        lays = λ k in_k h p. absurd (untended (edge g k).lower h);
        draws = λ k in_k. sym (and-false (book.drawn k)) ∙ ap (λ t. book.drawn k && t) (sym (not_held (edge g k).lower));
      })

  pub split_stands : Stands g record { words = s.words; homes = s.homes; views = after } m (record book { seat = seat; count = book.count + 1 })
  split_stands = record { words = st.words; seats = seats_after; slots = slots_after }

pub splits : (g : PlanValue) (id : ℕ) (v : View) → v.live ≡ true → v.worker ≡ 0 → Splits (Holds g) id v (one_more v) (newcomer v)
splits g id v live zeroth s h at = record {
  machine = h.machine;
  book = record h.book { seat = put h.book.seat v.passes (length s.views); count = h.book.count + 1 };
  rules = h.rules;
  laws = h.laws;
  stands = split_stands g s h.machine h.book h.stands id v at live zeroth;
}
