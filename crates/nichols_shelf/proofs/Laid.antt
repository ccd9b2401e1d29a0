-- A laying keeps the rule, and changes the state as its event does.
use Rattle.std.proofs.Common.{◌≡◌, ◌≢◌, ℕ, ◌+◌, ◌-◌, ◌*◌, ◌<◌, Bool, true, false, true≢false, ◌&&◌, List, ◌∷◌, get_or, set, refl, sym, ap, ◌∙◌, subst, ⊎_elim, arith, Option, length-set}
use Rattle.std.specs.Prelude.{Some, is_some}
use Rattle.std.proofs.lemmas.Bool.{false_from_ne_true, or_left, and_parts}
use Rattle.std.proofs.lemmas.Option.{same_Some}
use mathlib.Core.Option as table
use mathlib.Core.Option.{some, none}
use mathlib.Core.Logic.{dite}
use native.Mathlib.Decide.{ℕ_discrete}
use lib.ListN.{get_elem?}
use Rattle.atomic_table.specs.Table.{gives, put_back, rest, step, Allows}
use Rattle.atomic_table.proofs.Lists.{at_set, set_here, set_else}
use Rattle.nichols_core.specs.Layout.{IsLayout}
use Rattle.nichols_core.specs.declared.stage.Stage.TheVariants.{Held}
use Rattle.nichols_core.specs.Machine.{Machine, put, is_held_by, lay}
use Rattle.nichols_core.specs.SixLaws.{SixLaws, AllPicked}
use Rattle.nichols_core.proofs.Stages.{put_is, put_here, put_else, held_by}
use Rattle.nichols_core.proofs.LawsKept.{core, whole, lay_keeps}
use Rattle.nichols_core.proofs.Conditions.{true_held}
use Rattle.nichols_value.specs.Worth.{worth}
use Rattle.nichols_value.specs.declared.shared.Shared.{Shared}
use Rattle.nichols_value.specs.declared.value.BlockValue.{BlockValue}
use Rattle.nichols_shelf.specs.Plan.{PlanValue, IsRightFor}
use Rattle.nichols_shelf.specs.Lists.{is_in, without, noted_value}
use Rattle.nichols_shelf.specs.Places.{blocks, edges, edge, edge_place}
use Rattle.nichols_shelf.specs.Views.{lay_view}
use Rattle.nichols_shelf.specs.Seats.{is_made_by, tends}
use Rattle.nichols_shelf.specs.Slots.{edge_code, HasValue, IsDrawn, Notes, SlotsStand}
use Rattle.nichols_shelf.specs.Stands.{Tableau, Book, Stands, Holds}
use Rattle.nichols_shelf.specs.Steps.{Mine, value_out, lay_step}
use Rattle.nichols_shelf.specs.declared.view.View.{View}
use Rattle.nichols_shelf.proofs.Listed.{value_of, gone, others_stay, noted_same, noted_other}
use Rattle.nichols_shelf.proofs.StageTests.{not_held_by}
use Rattle.nichols_shelf.proofs.Edges.{placed}
use Rattle.nichols_shelf.proofs.EdgeWords.{code_here, code_else, words_same, seats_same}
use Rattle.nichols_shelf.proofs.SeatsKept.{untended, other_worker}

module _ (g : PlanValue) (rules : IsLayout g.layout) (s : Tableau) (m : Machine) (laws : SixLaws g.layout.edges m) (book : Book) (st : Stands g s m book)
    (id : ℕ) (v : View) (at : get_elem? s.views id ≡ some v) (live : v.live ≡ true) (k : ℕ) (in_k : k < edges g) (lists : is_in (edge g k).lower v.held ≡ true)
    (draws : is_in k v.drawn ≡ true) (shared : Shared) (right : IsRightFor g (edge g k).lower (worth shared))
    (equal : (j : ℕ) (y : BlockValue) → j < edges g → (edge g j).lower ≡ (edge g k).lower → noted_value j v.laid ≡ Some y → y ≡ worth shared) where
  abbrev low : ℕ
  low = (edge g k).lower

  abbrev found : ℕ
  found = get_or s.words (edge_place g k) 0

  abbrev x : BlockValue
  x = worth shared

  abbrev v' : View
  v' = lay_view g k x found v

  abbrev n : Machine
  n = lay k m

  abbrev drawn : ℕ → Bool
  drawn = put book.drawn k false

  abbrev value : ℕ → BlockValue
  value = put book.value low x

  abbrev homes : List (table.Option (Option Shared))
  homes = set s.homes k (some (Some shared))

  abbrev notes : Notes g m book.maker book.value book.drawn v
  notes = st.slots.notes id v at live

  pub held : m.stage low ≡ Held v.worker
  held = held_by v.worker (m.stage low) (sym ((st.seats.knows id v at live).held low) ∙ lists)

  is_held : is_held_by v.worker (m.stage low) ≡ true
  is_held = true_held v.worker (m.stage low) held

  was_drawn : book.drawn k ≡ true
  was_drawn = (and_parts (book.drawn k) (is_held_by v.worker (m.stage low)) (sym (notes.draws k in_k) ∙ draws)).0

  abbrev away : IsDrawn g s.homes m k
  away = st.slots.away k in_k was_drawn

  pub full : AllPicked g.layout.edges m low
  full = away.full

  pub unlaid : m.laid k ≡ false
  unlaid = away.unlaid

  unpicked : m.picked k ≡ false
  unpicked = false_from_ne_true (m.picked k) (λ p. true≢false (sym (laws.picked k in_k p).0 ∙ away.unlaid))

  -- the value of a block with a laid edge stays
  value_stays : (j : ℕ) → j < edges g → m.laid j ≡ true → value (edge g j).lower ≡ book.value (edge g j).lower
  value_stays j in_j h = dite (ℕ_discrete (edge g j).lower low)
      (λ q. let t : tends g m book.maker v.worker (edge g j).lower ≡ true = or_left (is_held_by v.worker (m.stage (edge g j).lower)) (is_made_by g m book.maker v.worker (edge g j).lower) (true_held v.worker (m.stage (edge g j).lower) (ap m.stage q ∙ held)) in
      let y = value_of (noted_value j v.laid) (notes.lays j in_j t h) in
      put_here book.value low x (edge g j).lower q ∙ (sym (equal j y.0 in_j q y.1) ∙ (notes.laid j y.0 y.1).2))
      (λ ne. put_else book.value low x (edge g j).lower ne)

  laid_more : (j : ℕ) → m.laid j ≡ true → n.laid j ≡ true
  laid_more j h = put_is m.laid k true j (λ t. t ≡ true) (λ _. refl) (λ _. h)

  value_here : value low ≡ x
  value_here = put_here book.value low x low refl

  -- what the others note
  notes_of : (u : View) → (is_in k u.drawn ≡ false) → (tends g m book.maker u.worker low ≡ true → ⊥) → Notes g m book.maker book.value book.drawn u → Notes g n book.maker value drawn u
  notes_of u unlisted never r = record {
    picked = λ j y h. let p = r.picked j y h in (p.0, p.1, p.2 ∙ sym (value_stays j p.0 (laws.picked j p.0 p.1).0));
    picks = r.picks;
    laid = λ j y h. let p = r.laid j y h in (p.0, laid_more j p.1, p.2 ∙ sym (value_stays j p.0 p.1));
    lays = λ j in_j t h. dite (ℕ_discrete j k)
        (λ q. absurd (never (ap (λ z. tends g m book.maker u.worker (edge g z).lower) (sym q) ∙ t)))
        (λ ne. r.lays j in_j t (sym (put_else m.laid k true j ne) ∙ h));
    draws = λ j in_j. dite (ℕ_discrete j k)
        (λ q. subst (λ z. is_in z u.drawn ≡ (drawn z && is_held_by u.worker (m.stage (edge g z).lower))) (sym q) (unlisted ∙ ap (λ t. t && is_held_by u.worker (m.stage low)) (sym (put_here book.drawn k false k refl))))
        (λ ne. r.draws j in_j ∙ ap (λ t. t && is_held_by u.worker (m.stage (edge g j).lower)) (sym (put_else book.drawn k false j ne)));
  }

  my_notes : Notes g n book.maker value drawn v'
  my_notes = record {
    picked = λ j y h. let p = notes.picked j y h in (p.0, p.1, p.2 ∙ sym (value_stays j p.0 (laws.picked j p.0 p.1).0));
    picks = notes.picks;
    laid = λ j y h. dite (ℕ_discrete j k)
        (λ q. let here : x ≡ y = same_Some x y (sym (noted_same k x v.laid) ∙ (ap (λ z. noted_value z ((k, x) ∷ v.laid)) (sym q) ∙ h)) in
        (subst (λ z. z < edges g) (sym q) in_k, put_here m.laid k true j q, sym here ∙ (sym value_here ∙ ap (λ z. value (edge g z).lower) (sym q))))
        (λ ne. let p = notes.laid j y (sym (noted_other j k x v.laid ne) ∙ h) in (p.0, laid_more j p.1, p.2 ∙ sym (value_stays j p.0 p.1)));
    lays = λ j in_j t h. dite (ℕ_discrete j k)
        (λ q. ap (λ z. is_some (noted_value z ((k, x) ∷ v.laid))) q ∙ ap is_some (noted_same k x v.laid))
        (λ ne. ap is_some (noted_other j k x v.laid ne) ∙ notes.lays j in_j t (sym (put_else m.laid k true j ne) ∙ h));
    draws = λ j in_j. dite (ℕ_discrete j k)
        (λ q. subst (λ z. is_in z (without k v.drawn) ≡ (drawn z && is_held_by v.worker (m.stage (edge g z).lower))) (sym q) (gone k v.drawn ∙ ap (λ t. t && is_held_by v.worker (m.stage low)) (sym (put_here book.drawn k false k refl))))
        (λ ne. others_stay j k v.drawn ne ∙ (notes.draws j in_j ∙ ap (λ t. t && is_held_by v.worker (m.stage (edge g j).lower)) (sym (put_else book.drawn k false j ne))));
  }

  slots_after : SlotsStand g (set s.words (edge_place g k) 2) homes (set s.views id v') n book.maker value drawn
  slots_after = record {
    deep = length-set s.homes k (some (Some shared)) ∙ st.slots.deep;
    code = λ j in_j. dite (ℕ_discrete j k)
        (λ q. code_here g s.words m st.words k in_k 2 n.laid m.picked j q ∙ (λ i. edge_code (drawn j) (sym (put_here m.laid k true j q) i) (sym (ap m.picked q ∙ unpicked) i)))
        (λ ne. code_else g s.words m st.words k in_k 2 n.laid m.picked j ne ∙ (st.slots.code j in_j ∙ (λ i. edge_code (sym (put_else book.drawn k false j ne) i) (sym (put_else m.laid k true j ne) i) (m.picked j))));
    home = λ j in_j h p. dite (ℕ_discrete j k)
        (λ q. subst (λ z. HasValue homes z (value (edge g z).lower)) (sym q) record { shared = shared; there = set_here s.homes k (some (Some shared)) (subst (λ z. k < z) (sym st.slots.deep) in_k); worth_is = sym value_here })
        (λ ne. let was = sym (put_else m.laid k true j ne) ∙ h in let r = st.slots.home j in_j was p in
        record { shared = r.shared; there = set_else s.homes k j (some (Some shared)) ne ∙ r.there; worth_is = r.worth_is ∙ sym (value_stays j in_j was) });
    empty = λ j in_j h d. let ne : j ≢ k = λ q. true≢false (sym (put_here m.laid k true j q) ∙ h) in
        set_else s.homes k j (some (Some shared)) ne ∙ st.slots.empty j in_j (sym (put_else m.laid k true j ne) ∙ h) (sym (put_else book.drawn k false j ne) ∙ d);
    spent = λ j in_j p x e. st.slots.spent j in_j p x (sym (set_else s.homes k j (some (Some shared)) (λ q. true≢false (sym p ∙ ap m.picked q ∙ unpicked))) ∙ e);
    right = λ j in_j h. dite (ℕ_discrete j k)
        (λ q. subst (λ z. IsRightFor g (edge g z).lower (value (edge g z).lower)) (sym q) (subst (IsRightFor g low) (sym value_here) right))
        (λ ne. let was = sym (put_else m.laid k true j ne) ∙ h in subst (IsRightFor g (edge g j).lower) (sym (value_stays j in_j was)) (st.slots.right j in_j was));
    away = λ j in_j d. let ne : j ≢ k = λ q. true≢false (sym d ∙ put_here book.drawn k false j q) in
        let r = st.slots.away j in_j (sym (put_else book.drawn k false j ne) ∙ d) in
        record { unlaid = put_else m.laid k true j ne ∙ r.unlaid; out = set_else s.homes k j (some (Some shared)) ne ∙ r.out; full = r.full; holder = r.holder; held = r.held };
    notes = λ j u here alive. ⊎_elim
        (λ (t : (j ≡ id) × (v' ≡ u)). subst (Notes g n book.maker value drawn) t.1 my_notes)
        (λ (t : (j ≢ id) × (get_elem? s.views j ≡ some u)).
        let ne = other_worker g s.views m m book.seat book.count book.first book.maker book.maker st.seats id v v at live j u t.0 t.1 alive in
        let before = st.slots.notes j u t.1 alive in
        notes_of u (before.draws k in_k ∙ (ap (λ y. y && is_held_by u.worker (m.stage low)) was_drawn ∙ not_held_by v.worker u.worker (m.stage low) held ne)) (untended g m book.maker v.worker u.worker low held ne) before)
        (at_set s.views id j v' u here);
  }

  pub lay_stands : Stands g record { words = set s.words (edge_place g k) 2; homes = homes; views = set s.views id v' } n (record book { drawn = drawn; value = value })
  lay_stands = record {
    words = words_same g s.words m st.words k in_k 2 n.laid m.picked (λ j in_j. (placed g rules j in_j).lower);
    seats = seats_same g s.views m n.laid m.picked book.seat book.count book.first book.maker st.seats id v v' at live live refl refl refl refl refl refl refl refl refl;
    slots = slots_after;
  }

pub lay_allowed : (g : PlanValue) (slots id : ℕ) (me : Mine) (k : ℕ) (shared : Shared) (others : List (ℕ × Option Shared)) → me.1 ≡ (k, Some shared) ∷ others → k < edges g → me.0.live ≡ true → is_in (edge g k).lower me.0.held ≡ true
    → is_in k me.0.drawn ≡ true → IsRightFor g (edge g k).lower (worth shared)
    → ((j : ℕ) (y : BlockValue) → j < edges g → (edge g j).lower ≡ (edge g k).lower → noted_value j me.0.laid ≡ Some y → y ≡ worth shared)
    → Allows (Holds g) slots id me (edge_place g k) (λ _. 2) (lay_step (step slots (edge_place g k) 2 0 none) me)
lay_allowed g slots id me k shared others out in_k live lists draws right equal s h deep at word =
    let x = get_or s.words (edge_place g k) 0 in
    let kn = h.stands.seats.knows id me.0 at live in
    let same : edge_place g k - (1 + 2 * blocks g) ≡ k = omega arith in (
      lay_view g k (worth shared) x me.0,
      gives,
      tt,
      subst (λ (c : List (ℕ × Option Shared)). Holds g record { words = set s.words (edge_place g k) 2; homes = put_back s.homes c; views = set s.views id (lay_view g k (worth shared) x me.0) }) (sym out)
          record {
            machine = lay k h.machine;
            book = record h.book { drawn = put h.book.drawn k false; value = put h.book.value (edge g k).lower (worth shared) };
            rules = h.rules;
            laws = whole g.layout.edges (lay k h.machine) (lay_keeps g.layout.edges h.machine me.0.worker k (core g.layout.edges h.machine h.laws) in_k
                (held g h.rules s h.machine h.laws h.book h.stands id me.0 at live k in_k lists draws shared right equal) (full g h.rules s h.machine h.laws h.book h.stands id me.0 at live k in_k lists draws shared right equal));
            stands = lay_stands g h.rules s h.machine h.laws h.book h.stands id me.0 at live k in_k lists draws shared right equal;
          },
      subst (λ (c : List (ℕ × Option Shared)). (let pair : Mine = (lay_view g k (worth shared) x me.0, rest c) in pair ≡ (lay_view me.0.plan (edge_place g k - (1 + 2 * blocks me.0.plan)) (value_out c) x me.0, rest c))) (sym out)
          (subst (λ (p : PlanValue). (let pair : Mine = (lay_view g k (worth shared) x me.0, others) in pair ≡ (lay_view p (edge_place g k - (1 + 2 * blocks p)) (worth shared) x me.0, others))) (sym kn.plan)
          (ap (λ c. (lay_view g c (worth shared) x me.0, others)) (sym same))),
    )
