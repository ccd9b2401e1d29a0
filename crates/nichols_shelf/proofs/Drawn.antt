-- A draw keeps the rule, and leaves the state.
use Rattle.std.proofs.Common.{◌≡◌, ◌≢◌, ℕ, ◌+◌, ◌-◌, ◌*◌, ◌<◌, Bool, true, false, true≢false, ◌&&◌, ◌||◌, List, [], ◌∷◌, get_or, set, refl, sym, ap, ◌∙◌, subst, ⊎_elim, eq-eqb, ne_eqb, arith, length-set}
use Rattle.std.specs.Prelude.{None, is_some}
use Rattle.std.proofs.lemmas.Bool.{false_from_ne_true, or_left}
use mathlib.Core.Option.{some, none}
use mathlib.Core.Logic.{dite}
use native.Mathlib.Decide.{ℕ_discrete}
use lib.ListN.{get_elem?}
use Rattle.atomic_table.specs.Table.{takes, step, Allows}
use Rattle.atomic_table.proofs.Lists.{at_set, set_here, set_else}
use Rattle.nichols_core.specs.Layout.{IsLayout}
use Rattle.nichols_core.specs.declared.stage.Stage.TheVariants.{Held}
use Rattle.nichols_core.specs.Machine.{Machine, put, is_held_by}
use Rattle.nichols_core.specs.SixLaws.{SixLaws, AllPicked}
use Rattle.nichols_core.proofs.Stages.{put_here, put_else, held_by}
use Rattle.nichols_core.proofs.Conditions.{true_held}
use Rattle.nichols_shelf.specs.Plan.{PlanValue}
use Rattle.nichols_shelf.specs.Lists.{is_in, noted_value}
use Rattle.nichols_shelf.specs.Places.{blocks, edges, edge, edge_place}
use Rattle.nichols_shelf.specs.Views.{draw_view}
use Rattle.nichols_shelf.specs.Seats.{is_made_by}
use Rattle.nichols_shelf.specs.Slots.{edge_code, IsDrawn, Notes, SlotsStand}
use Rattle.nichols_shelf.specs.Stands.{Tableau, Book, Stands, Holds}
use Rattle.nichols_shelf.specs.Steps.{Mine, draw_step}
use Rattle.nichols_shelf.specs.declared.view.View.{View}
use Rattle.nichols_shelf.proofs.Listed.{value_of}
use Rattle.nichols_shelf.proofs.StageTests.{not_held_by}
use Rattle.nichols_shelf.proofs.Edges.{placed}
use Rattle.nichols_shelf.proofs.EdgeWords.{code_here, code_else, words_same, seats_same}
use Rattle.nichols_shelf.proofs.SeatsKept.{other_worker}

module _ (g : PlanValue) (rules : IsLayout g.layout) (s : Tableau) (m : Machine) (laws : SixLaws g.layout.edges m) (book : Book) (st : Stands g s m book)
    (id : ℕ) (v : View) (at : get_elem? s.views id ≡ some v) (live : v.live ≡ true) (k : ℕ) (in_k : k < edges g) (lists : is_in (edge g k).lower v.held ≡ true)
    (all_picked : (j : ℕ) → j < edges g → (edge g j).upper ≡ (edge g k).lower → is_some (noted_value j v.picked) ≡ true)
    (not_laid : noted_value k v.laid ≡ None) (undrawn : v.drawn ≡ []) where
  abbrev low : ℕ
  low = (edge g k).lower

  abbrev found : ℕ
  found = get_or s.words (edge_place g k) 0

  abbrev v' : View
  v' = draw_view g k found v

  abbrev drawn : ℕ → Bool
  drawn = put book.drawn k true

  abbrev notes : Notes g m book.maker book.value book.drawn v
  notes = st.slots.notes id v at live

  held : m.stage low ≡ Held v.worker
  held = held_by v.worker (m.stage low) (sym ((st.seats.knows id v at live).held low) ∙ lists)

  is_held : is_held_by v.worker (m.stage low) ≡ true
  is_held = true_held v.worker (m.stage low) held

  unlaid : m.laid k ≡ false
  unlaid = false_from_ne_true (m.laid k) (λ p. true≢false (sym (notes.lays k in_k (or_left (is_held_by v.worker (m.stage low)) (is_made_by g m book.maker v.worker low) is_held) p) ∙ ap is_some not_laid))

  not_yet : book.drawn k ≡ false
  not_yet = false_from_ne_true (book.drawn k) (λ d. true≢false (sym ((λ i. d i && is_held i)) ∙ sym (notes.draws k in_k) ∙ ap (is_in k) undrawn))

  full : AllPicked g.layout.edges m low
  full j in_j up = let x = value_of (noted_value j v.picked) (all_picked j in_j up) in (notes.picked j x.0 x.1).1

  unpicked : m.picked k ≡ false
  unpicked = false_from_ne_true (m.picked k) (λ p. true≢false (sym (laws.picked k in_k p).0 ∙ unlaid))

  pub at_home : get_elem? s.homes k ≡ some (some None)
  at_home = st.slots.empty k in_k unlaid not_yet

  -- the drawn edges of a view
  draws_now : (u : View) (xs : List ℕ) → ((j : ℕ) → j ≢ k → is_in j xs ≡ is_in j u.drawn) → is_in k xs ≡ is_held_by u.worker (m.stage low) → Notes g m book.maker book.value book.drawn u → Notes g m book.maker book.value drawn (record u { drawn = xs })
  draws_now u xs same here r = record {
    picked = r.picked;
    picks = r.picks;
    laid = r.laid;
    lays = r.lays;
    draws = λ j in_j. dite (ℕ_discrete j k)
        (λ q. subst (λ z. is_in z xs ≡ (drawn z && is_held_by u.worker (m.stage (edge g z).lower))) (sym q) (here ∙ ap (λ t. t && is_held_by u.worker (m.stage low)) (sym (put_here book.drawn k true k refl))))
        (λ ne. same j ne ∙ (r.draws j in_j ∙ ap (λ t. t && is_held_by u.worker (m.stage (edge g j).lower)) (sym (put_else book.drawn k true j ne))));
  }

  slots_after : SlotsStand g (set s.words (edge_place g k) 1) (set s.homes k none) (set s.views id v') m book.maker book.value drawn
  slots_after = record {
    deep = length-set s.homes k none ∙ st.slots.deep;
    code = λ j in_j. dite (ℕ_discrete j k)
        (λ q. code_here g s.words m st.words k in_k 1 m.laid m.picked j q ∙ (λ i. edge_code (sym (put_here book.drawn k true j q) i) (sym (ap m.laid q ∙ unlaid) i) (sym (ap m.picked q ∙ unpicked) i)))
        (λ ne. code_else g s.words m st.words k in_k 1 m.laid m.picked j ne ∙ (st.slots.code j in_j ∙ ap (λ t. edge_code t (m.laid j) (m.picked j)) (sym (put_else book.drawn k true j ne))));
    home = λ j in_j h p. let r = st.slots.home j in_j h p in
        record { shared = r.shared; there = set_else s.homes k j none (λ q. true≢false (sym h ∙ ap m.laid q ∙ unlaid)) ∙ r.there; worth_is = r.worth_is };
    empty = λ j in_j h d. let ne : j ≢ k = λ q. true≢false (sym (put_here book.drawn k true j q) ∙ d) in
        set_else s.homes k j none ne ∙ st.slots.empty j in_j h (sym (put_else book.drawn k true j ne) ∙ d);
    spent = λ j in_j p x e. st.slots.spent j in_j p x (sym (set_else s.homes k j none (λ q. true≢false (sym p ∙ ap m.picked q ∙ unpicked))) ∙ e);
    right = st.slots.right;
    away = λ j in_j d. dite (ℕ_discrete j k)
        (λ q. subst (IsDrawn g (set s.homes k none) m) (sym q) record { unlaid = unlaid; out = set_here s.homes k none (subst (λ z. k < z) (sym st.slots.deep) in_k); full = full; holder = v.worker; held = held })
        (λ ne. let r = st.slots.away j in_j (sym (put_else book.drawn k true j ne) ∙ d) in record { unlaid = r.unlaid; out = set_else s.homes k j none ne ∙ r.out; full = r.full; holder = r.holder; held = r.held });
    notes = λ j u here alive. ⊎_elim
        (λ (t : (j ≡ id) × (v' ≡ u)). subst (Notes g m book.maker book.value drawn) t.1
        (let r = draws_now v (k ∷ v.drawn) (λ i ne. ap (λ t. t || is_in i v.drawn) (ne_eqb i k ne)) (ap (λ t. t || is_in k v.drawn) (eq-eqb k k refl) ∙ sym is_held) notes in
        record { picked = r.picked; picks = r.picks; laid = r.laid; lays = r.lays; draws = r.draws }))
        (λ (t : (j ≢ id) × (get_elem? s.views j ≡ some u)).
        let ne = other_worker g s.views m m book.seat book.count book.first book.maker book.maker st.seats id v v at live j u t.0 t.1 alive in
        let before = st.slots.notes j u t.1 alive in
        draws_now u u.drawn (λ i _. refl) (before.draws k in_k ∙ ap (λ x. x && is_held_by u.worker (m.stage low)) not_yet ∙ sym (not_held_by v.worker u.worker (m.stage low) held ne)) before)
        (at_set s.views id j v' u here);
  }

  pub draw_stands : Stands g record { words = set s.words (edge_place g k) 1; homes = set s.homes k none; views = set s.views id v' } m (record book { drawn = drawn })
  draw_stands = record {
    words = words_same g s.words m st.words k in_k 1 m.laid m.picked (λ j in_j. (placed g rules j in_j).lower);
    seats = seats_same g s.views m m.laid m.picked book.seat book.count book.first book.maker st.seats id v v' at live live refl refl refl refl refl refl refl refl refl;
    slots = slots_after;
  }

pub draw_allowed : (g : PlanValue) (slots id : ℕ) (me : Mine) (k : ℕ) → k < edges g → me.0.live ≡ true → is_in (edge g k).lower me.0.held ≡ true
    → ((j : ℕ) → j < edges g → (edge g j).upper ≡ (edge g k).lower → is_some (noted_value j me.0.picked) ≡ true)
    → noted_value k me.0.laid ≡ None → me.0.drawn ≡ []
    → Allows (Holds g) slots id me (edge_place g k) (λ _. 1) (draw_step (step slots (edge_place g k) 1 0 none) me)
draw_allowed g slots id me k in_k live lists picks lays undrawn s h deep at word =
    let x = get_or s.words (edge_place g k) 0 in
    let kn = h.stands.seats.knows id me.0 at live in
    let same : edge_place g k - (1 + 2 * blocks g) ≡ k = omega arith in (
      draw_view g k x me.0,
      takes k None,
      at_home g h.rules s h.machine h.laws h.book h.stands id me.0 at live k in_k lists picks lays undrawn,
      record {
        machine = h.machine;
        book = record h.book { drawn = put h.book.drawn k true };
        rules = h.rules;
        laws = h.laws;
        stands = draw_stands g h.rules s h.machine h.laws h.book h.stands id me.0 at live k in_k lists picks lays undrawn;
      },
      subst (λ (p : PlanValue). (let pair : Mine = (draw_view g k x me.0, (k, None) ∷ me.1) in pair ≡ (draw_view p (edge_place g k - (1 + 2 * blocks p)) x me.0, (edge_place g k - (1 + 2 * blocks p), None) ∷ me.1))) (sym kn.plan)
          (ap (λ c. (draw_view g c x me.0, (c, None) ∷ me.1)) (sym same)),
    )
