-- A pick keeps the rule, and changes the state as its event does.
use Rattle.std.proofs.Common.{◌≡◌, ◌≢◌, ℕ, ◌+◌, ◌-◌, ◌*◌, ◌<◌, true, false, true≢false, ◌∷◌, get_or, set, refl, sym, ap, ◌∙◌, subst, ⊎_elim, arith, length-set}
use Rattle.std.specs.Prelude.{Some, None, is_some}
use Rattle.std.proofs.lemmas.Bool.{false_from_ne_true, or_left}
use Rattle.std.proofs.lemmas.Option.{same_Some}
use mathlib.Core.Option.{some, none, some-injective, some-ne-none}
use mathlib.Core.Logic.{dite}
use native.Mathlib.Decide.{ℕ_discrete}
use lib.ListN.{get_elem?}
use Rattle.atomic_table.specs.Table.{takes, step, Allows}
use Rattle.atomic_table.proofs.Lists.{at_set, set_here, set_else}
use Rattle.nichols_core.specs.Layout.{IsLayout}
use Rattle.nichols_core.specs.declared.stage.Stage.TheVariants.{Held, Published}
use Rattle.nichols_core.specs.Machine.{Machine, is_held_by, pick}
use Rattle.nichols_core.specs.SixLaws.{SixLaws}
use Rattle.nichols_core.proofs.Stages.{put_is, put_here, put_else, held_by}
use Rattle.nichols_core.proofs.LawsKept.{core, whole, pick_keeps}
use Rattle.nichols_core.proofs.Conditions.{true_held}
use Rattle.nichols_value.specs.Worth.{worth}
use Rattle.nichols_value.specs.declared.shared.Shared.{Shared}
use Rattle.nichols_shelf.specs.Plan.{PlanValue, IsRightFor}
use Rattle.nichols_shelf.specs.Lists.{is_in, noted_value}
use Rattle.nichols_shelf.specs.Places.{blocks, edges, edge, edge_place}
use Rattle.nichols_shelf.specs.Views.{pick_view}
use Rattle.nichols_shelf.specs.Seats.{is_made_by, tends}
use Rattle.nichols_shelf.specs.Slots.{edge_code, HasValue, Notes, SlotsStand}
use Rattle.nichols_shelf.specs.Stands.{Tableau, Book, Stands, Holds}
use Rattle.nichols_shelf.specs.Steps.{Mine, pick_step}
use Rattle.nichols_shelf.specs.declared.view.View.{View}
use Rattle.nichols_shelf.proofs.Listed.{noted_same, noted_other}
use Rattle.nichols_shelf.proofs.Edges.{placed}
use Rattle.nichols_shelf.proofs.EdgeWords.{code_here, code_else, words_same, seats_same}
use Rattle.nichols_shelf.proofs.SeatsKept.{untended, other_worker}

module _ (g : PlanValue) (rules : IsLayout g.layout) (s : Tableau) (m : Machine) (laws : SixLaws g.layout.edges m) (book : Book) (st : Stands g s m book)
    (id : ℕ) (v : View) (at : get_elem? s.views id ≡ some v) (live : v.live ≡ true) (k : ℕ) (in_k : k < edges g) (lists : is_in (edge g k).upper v.held ≡ true)
    (knows : is_in (edge g k).lower v.known ≡ true) (not_picked : noted_value k v.picked ≡ None) where
  abbrev up : ℕ
  up = (edge g k).upper

  abbrev low : ℕ
  low = (edge g k).lower

  abbrev found : ℕ
  found = get_or s.words (edge_place g k) 0

  abbrev n : Machine
  n = pick k m

  abbrev notes : Notes g m book.maker book.value book.drawn v
  notes = st.slots.notes id v at live

  pub held : m.stage up ≡ Held v.worker
  held = held_by v.worker (m.stage up) (sym ((st.seats.knows id v at live).held up) ∙ lists)

  is_held : is_held_by v.worker (m.stage up) ≡ true
  is_held = true_held v.worker (m.stage up) held

  pub low_published : m.stage low ≡ Published
  low_published = (st.seats.knows id v at live).known low knows

  pub is_laid : m.laid k ≡ true
  is_laid = (laws.published low low_published).1 k in_k refl

  pub unpicked : m.picked k ≡ false
  unpicked = false_from_ne_true (m.picked k) (λ p. true≢false (sym (notes.picks k in_k (or_left (is_held_by v.worker (m.stage up)) (is_made_by g m book.maker v.worker up) is_held) p) ∙ ap is_some not_picked))

  -- a drawn edge isn't laid
  undrawn : book.drawn k ≡ false
  undrawn = false_from_ne_true (book.drawn k) (λ d. true≢false (sym is_laid ∙ (st.slots.away k in_k d).unlaid))

  pub at_home : HasValue s.homes k (book.value low)
  at_home = st.slots.home k in_k is_laid unpicked

  abbrev shared : Shared
  shared = at_home.shared

  pub right : IsRightFor g low (worth shared)
  right = subst (IsRightFor g low) (sym at_home.worth_is) (st.slots.right k in_k is_laid)

  abbrev v' : View
  v' = pick_view g k (worth shared) found v

  more : (j : ℕ) → m.picked j ≡ true → n.picked j ≡ true
  more j p = put_is m.picked k true j (λ t. t ≡ true) (λ _. refl) (λ _. p)

  my_notes : Notes g n book.maker book.value book.drawn v'
  my_notes = record {
    picked = λ j y h. dite (ℕ_discrete j k)
        (λ q. let here : worth shared ≡ y = same_Some (worth shared) y (sym (noted_same k (worth shared) v.picked) ∙ (ap (λ z. noted_value z ((k, worth shared) ∷ v.picked)) (sym q) ∙ h)) in
        (subst (λ z. z < edges g) (sym q) in_k, put_here m.picked k true j q, sym here ∙ at_home.worth_is ∙ ap (λ z. book.value (edge g z).lower) (sym q)))
        (λ ne. let p = notes.picked j y (sym (noted_other j k (worth shared) v.picked ne) ∙ h) in (p.0, more j p.1, p.2));
    picks = λ j in_j t h. dite (ℕ_discrete j k)
        (λ q. ap (λ z. is_some (noted_value z ((k, worth shared) ∷ v.picked))) q ∙ ap is_some (noted_same k (worth shared) v.picked))
        (λ ne. ap is_some (noted_other j k (worth shared) v.picked ne) ∙ notes.picks j in_j t (sym (put_else m.picked k true j ne) ∙ h));
    laid = notes.laid;
    lays = notes.lays;
    draws = notes.draws;
  }

  notes_of : (u : View) → (tends g m book.maker u.worker up ≡ true → ⊥) → Notes g m book.maker book.value book.drawn u → Notes g n book.maker book.value book.drawn u
  notes_of u never r = record {
    picked = λ j y h. let p = r.picked j y h in (p.0, more j p.1, p.2);
    picks = λ j in_j t h. dite (ℕ_discrete j k)
        (λ q. absurd (never (ap (λ z. tends g m book.maker u.worker (edge g z).upper) (sym q) ∙ t)))
        (λ ne. r.picks j in_j t (sym (put_else m.picked k true j ne) ∙ h));
    laid = r.laid;
    lays = r.lays;
    draws = r.draws;
  }

  not_out : (x : Shared) → some none ≡ some (some (Some x)) → ⊥
  not_out x e = some-ne-none (Some x) (sym (some-injective none (some (Some x)) e))

  slots_after : SlotsStand g (set s.words (edge_place g k) 3) (set s.homes k none) (set s.views id v') n book.maker book.value book.drawn
  slots_after = record {
    deep = length-set s.homes k none ∙ st.slots.deep;
    code = λ j in_j. dite (ℕ_discrete j k)
        (λ q. code_here g s.words m st.words k in_k 3 m.laid n.picked j q ∙ ap (λ t. edge_code (book.drawn j) (m.laid j) t) (sym (put_here m.picked k true j q)))
        (λ ne. code_else g s.words m st.words k in_k 3 m.laid n.picked j ne ∙ (st.slots.code j in_j ∙ ap (edge_code (book.drawn j) (m.laid j)) (sym (put_else m.picked k true j ne))));
    home = λ j in_j h p. let ne : j ≢ k = λ q. true≢false (sym (put_here m.picked k true j q) ∙ p) in
        let r = st.slots.home j in_j h (sym (put_else m.picked k true j ne) ∙ p) in
        record { shared = r.shared; there = set_else s.homes k j none ne ∙ r.there; worth_is = r.worth_is };
    empty = λ j in_j h d. set_else s.homes k j none (λ q. true≢false (sym is_laid ∙ ap m.laid (sym q) ∙ h)) ∙ st.slots.empty j in_j h d;
    spent = λ j in_j p x e. dite (ℕ_discrete j k)
        (λ q. not_out x (sym (set_here s.homes k none (subst (λ z. k < z) (sym st.slots.deep) in_k)) ∙ (ap (get_elem? (set s.homes k none)) (sym q) ∙ e)))
        (λ ne. st.slots.spent j in_j (sym (put_else m.picked k true j ne) ∙ p) x (sym (set_else s.homes k j none ne) ∙ e));
    right = st.slots.right;
    away = λ j in_j d. let ne : j ≢ k = λ q. true≢false (sym d ∙ ap book.drawn q ∙ undrawn) in let r = st.slots.away j in_j d in
        record { unlaid = r.unlaid; out = set_else s.homes k j none ne ∙ r.out; full = λ i in_i u. more i (r.full i in_i u); holder = r.holder; held = r.held };
    notes = λ j u here alive. ⊎_elim
        (λ (t : (j ≡ id) × (v' ≡ u)). subst (Notes g n book.maker book.value book.drawn) t.1 my_notes)
        (λ (t : (j ≢ id) × (get_elem? s.views j ≡ some u)).
        let ne = other_worker g s.views m m book.seat book.count book.first book.maker book.maker st.seats id v v at live j u t.0 t.1 alive in
        notes_of u (untended g m book.maker v.worker u.worker up held ne) (st.slots.notes j u t.1 alive))
        (at_set s.views id j v' u here);
  }

  pub pick_stands : Stands g record { words = set s.words (edge_place g k) 3; homes = set s.homes k none; views = set s.views id v' } n book
  pick_stands = record {
    words = words_same g s.words m st.words k in_k 3 m.laid n.picked (λ j in_j. (placed g rules j in_j).lower);
    seats = seats_same g s.views m m.laid n.picked book.seat book.count book.first book.maker st.seats id v v' at live live refl refl refl refl refl refl refl refl refl;
    slots = slots_after;
  }

pub pick_allowed : (g : PlanValue) (slots id : ℕ) (me : Mine) (k : ℕ) → k < edges g → me.0.live ≡ true → is_in (edge g k).upper me.0.held ≡ true
    → is_in (edge g k).lower me.0.known ≡ true → noted_value k me.0.picked ≡ None
    → Allows (Holds g) slots id me (edge_place g k) (λ _. 3) (pick_step (step slots (edge_place g k) 3 0 none) me)
pick_allowed g slots id me k in_k live lists knows not_picked s h deep at word =
    let x = get_or s.words (edge_place g k) 0 in
    let kn = h.stands.seats.knows id me.0 at live in
    let here = at_home g h.rules s h.machine h.laws h.book h.stands id me.0 at live k in_k lists knows not_picked in
    let fits = right g h.rules s h.machine h.laws h.book h.stands id me.0 at live k in_k lists knows not_picked in
    let same : edge_place g k - (1 + 2 * blocks g) ≡ k = omega arith in (
      pick_view g k (worth here.shared) x me.0,
      takes k (Some here.shared),
      here.there,
      record {
        machine = pick k h.machine;
        book = h.book;
        rules = h.rules;
        laws = whole g.layout.edges (pick k h.machine) (pick_keeps g.layout.edges h.machine me.0.worker k (core g.layout.edges h.machine h.laws) in_k
            (held g h.rules s h.machine h.laws h.book h.stands id me.0 at live k in_k lists knows not_picked) (low_published g h.rules s h.machine h.laws h.book h.stands id me.0 at live k in_k lists knows not_picked));
        stands = pick_stands g h.rules s h.machine h.laws h.book h.stands id me.0 at live k in_k lists knows not_picked;
      },
      (
        here.shared,
        subst (λ (p : PlanValue). (let pair : Mine = (pick_view g k (worth here.shared) x me.0, (k, Some here.shared) ∷ me.1) in pair ≡ (pick_view p (edge_place g k - (1 + 2 * blocks p)) (worth here.shared) x me.0, (edge_place g k - (1 + 2 * blocks p), Some here.shared) ∷ me.1))) (sym kn.plan)
            (ap (λ c. (pick_view g c (worth here.shared) x me.0, (c, Some here.shared) ∷ me.1)) (sym same)),
        subst (λ (p : PlanValue). IsRightFor p (edge p (edge_place g k - (1 + 2 * blocks p))).lower (worth here.shared)) (sym kn.plan) (subst (λ c. IsRightFor g (edge g c).lower (worth here.shared)) (sym same) fits),
      ),
    )
