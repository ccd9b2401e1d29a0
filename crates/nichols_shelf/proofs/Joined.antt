-- A join keeps the rule, and in the state worker 0 takes over what the other worker owed.
use Rattle.std.proofs.Common.{◌≡◌, ◌≢◌, ◌⊎◌, ℕ, ◌+◌, Bool, true, false, true≢false, cond, eqb, ◌&&◌, ◌||◌, List, set, refl, sym, ap, ◌∙◌, subst, inl, inr, ⊎_elim, eq-eqb, ne_eqb, arith}
use Rattle.std.specs.Prelude.{nat_lt}
use Rattle.std.proofs.lemmas.Bool.{eqb-true, and_right, or_cases, or_right, or_left, and_parts}
use Rattle.std.proofs.Math.Bool.{and-false, or-false}
use mathlib.Core.Option.{some, some-injective}
use mathlib.Core.Logic.{dite}
use native.Mathlib.Decide.{ℕ_discrete}
use lib.ListN.{get_elem?}
use Rattle.atomic_table.specs.Table.{Joins}
use Rattle.atomic_table.proofs.Lists.{at_set, set_else}
use Rattle.nichols_core.specs.Machine.{Machine, is_held_by, is_resumed_by, is_published}
use Rattle.nichols_core.specs.Runs.{one_if}
use Rattle.nichols_core.specs.Changes.{take_over}
use Rattle.nichols_core.proofs.Debts.{a_worker_may_take_over_debts}
use Rattle.nichols_shelf.specs.Plan.{PlanValue}
use Rattle.nichols_shelf.specs.Lists.{is_in}
use Rattle.nichols_shelf.specs.Places.{blocks, edge}
use Rattle.nichols_shelf.specs.Views.{joined_view, spent_view}
use Rattle.nichols_shelf.specs.Seats.{is_made_by, tends, concerns, Knows, IsNumbered, Lives, SeatsStand}
use Rattle.nichols_shelf.specs.Slots.{Notes, SlotsStand}
use Rattle.nichols_shelf.specs.Stands.{Tableau, Book, Stands, Holds}
use Rattle.nichols_shelf.specs.declared.view.View.{View}
use Rattle.nichols_shelf.proofs.Listed.{is_in-append, times_in-append, noted_more, noted_later, noted_either}
use Rattle.nichols_shelf.proofs.SeatsKept.{lives_set}
use Rattle.nichols_shelf.proofs.SlotsKept.{slots_stay}

-- the blocks that o made are worker 0's
abbrev pub taken_over : (ℕ → ℕ) → ℕ → ℕ → ℕ
taken_over maker o b = cond (eqb (maker b) o) 0 (maker b)

-- two counts of one block, which two workers can't both have made
one_of_two : (p q r t : Bool) → (r ≡ true → t ≡ true → ⊥) → one_if (p && (q && r)) + one_if (p && (q && t)) ≡ one_if (p && (q && (r || t)))
one_of_two true true true true never = absurd (never refl refl)
one_of_two true true true false never = refl
one_of_two true true false t never = omega arith
one_of_two true false r t never = refl
one_of_two false q r t never = refl

module _ (g : PlanValue) (s : Tableau) (m : Machine) (book : Book) (st : Stands g s m book) (id : ℕ) (v : View) (at : get_elem? s.views id ≡ some v) (live : v.live ≡ true) (zeroth : v.worker ≡ 0)
    (o : ℕ) (u : View) (apart : o ≢ id) (there : get_elem? s.views o ≡ some u) (alive : u.live ≡ true) (next : u.worker ≡ v.joined) (no_held : (b : ℕ) → is_in b u.held ≡ false) (no_resumed : (b : ℕ) → is_in b u.resumed ≡ false) where
  abbrev kv : Knows g m book.seat book.maker id v
  kv = st.seats.knows id v at live

  abbrev ku : Knows g m book.seat book.maker o u
  ku = st.seats.knows o u there alive

  abbrev n : Machine
  n = take_over 0 u.worker m

  abbrev maker : ℕ → ℕ
  maker = taken_over book.maker u.worker

  abbrev after : List View
  after = set (set s.views id (joined_view v u)) o spent_view

  first_is : u.worker ≡ book.first
  first_is = next ∙ ((st.seats.numbers id v at live).zeroth zeroth).1

  not_zero : u.worker ≢ 0
  not_zero e = apart (sym ku.place ∙ ap book.seat (e ∙ sym zeroth) ∙ kv.place)

  unheld : (b : ℕ) → is_held_by u.worker (m.stage b) ≡ false
  unheld b = sym (ku.held b) ∙ no_held b

  unresumed : (b : ℕ) → is_resumed_by u.worker (m.stage b) ≡ false
  unresumed b = sym (ku.resumed b) ∙ no_resumed b

  -- who made a block, afterwards
  made_by_zero : (b : ℕ) → eqb (maker b) 0 ≡ (eqb (book.maker b) 0 || eqb (book.maker b) u.worker)
  made_by_zero b = dite (ℕ_discrete (book.maker b) u.worker)
      (λ q. ap (λ t. eqb (cond t 0 (book.maker b)) 0) (eq-eqb (book.maker b) u.worker q) ∙ (eq-eqb 0 0 refl ∙ sym (or_right (eqb (book.maker b) 0) (eqb (book.maker b) u.worker) (eq-eqb (book.maker b) u.worker q))))
      (λ ne. ap (λ t. eqb (cond t 0 (book.maker b)) 0) (ne_eqb (book.maker b) u.worker ne) ∙ (sym (or-false (eqb (book.maker b) 0)) ∙ ap (λ t. eqb (book.maker b) 0 || t) (sym (ne_eqb (book.maker b) u.worker ne))))

  made_by_other : (w b : ℕ) → w ≢ 0 → w ≢ u.worker → eqb (maker b) w ≡ eqb (book.maker b) w
  made_by_other w b nz differs = dite (ℕ_discrete (book.maker b) u.worker)
      (λ q. ap (λ t. eqb (cond t 0 (book.maker b)) w) (eq-eqb (book.maker b) u.worker q) ∙ (ne_eqb 0 w (λ e. nz (sym e)) ∙ sym (ne_eqb (book.maker b) w (λ e. differs (sym e ∙ q)))))
      (λ ne. ap (λ t. eqb (cond t 0 (book.maker b)) w) (ne_eqb (book.maker b) u.worker ne))

  owes_zero : (b : ℕ) → n.owes v.worker b ≡ (m.owes v.worker b || m.owes u.worker b)
  owes_zero b = ap (λ t. cond t (m.owes 0 b || m.owes u.worker b) (cond (eqb v.worker u.worker) false (m.owes v.worker b))) (eq-eqb v.worker 0 zeroth) ∙ ap (λ w. m.owes w b || m.owes u.worker b) (sym zeroth)

  owes_other : (w b : ℕ) → w ≢ 0 → w ≢ u.worker → n.owes w b ≡ m.owes w b
  owes_other w b nz differs = ap (λ t. cond t (m.owes 0 b || m.owes u.worker b) (cond (eqb w u.worker) false (m.owes w b))) (ne_eqb w 0 nz) ∙ ap (λ t. cond t false (m.owes w b)) (ne_eqb w u.worker differs)

  owes_gone : (b : ℕ) → n.owes u.worker b ≡ false
  owes_gone b = ap (λ t. cond t (m.owes 0 b || m.owes u.worker b) (cond (eqb u.worker u.worker) false (m.owes u.worker b))) (ne_eqb u.worker 0 not_zero) ∙ ap (λ t. cond t false (m.owes u.worker b)) (eq-eqb u.worker u.worker refl)

  made_gone : (b : ℕ) → eqb (maker b) u.worker ≡ false
  made_gone b = dite (ℕ_discrete (book.maker b) u.worker)
      (λ q. ap (λ t. eqb (cond t 0 (book.maker b)) u.worker) (eq-eqb (book.maker b) u.worker q) ∙ ne_eqb 0 u.worker (λ e. not_zero (sym e)))
      (λ ne. ap (λ t. eqb (cond t 0 (book.maker b)) u.worker) (ne_eqb (book.maker b) u.worker ne) ∙ ne_eqb (book.maker b) u.worker ne)

  -- what holds of the kept pass and of the others holds of all live ones afterwards
  all_after : (P : ℕ → View → Type 0) → P id (joined_view v u) → ((j : ℕ) (x : View) → j ≢ id → j ≢ o → get_elem? s.views j ≡ some x → x.live ≡ true → P j x)
      → (j : ℕ) (x : View) → get_elem? after j ≡ some x → x.live ≡ true → P j x
  all_after P mine other j x e lives = ⊎_elim
      (λ (t : (j ≡ o) × (spent_view ≡ x)). absurd (true≢false (sym lives ∙ ap (λ (y : View). y.live) (sym t.1))))
      (λ (t : (j ≢ o) × (get_elem? (set s.views id (joined_view v u)) j ≡ some x)). ⊎_elim
      (λ (r : (j ≡ id) × (joined_view v u ≡ x)). subst (λ (y : ℕ × View). P y.0 y.1) (λ i. (sym r.0 i, r.1 i)) mine)
      (λ (r : (j ≢ id) × (get_elem? s.views j ≡ some x)). other j x r.0 t.0 r.1 lives)
      (at_set s.views id j (joined_view v u) x t.1))
      (at_set (set s.views id (joined_view v u)) o j spent_view x e)

  other_numbers : (j : ℕ) (x : View) → j ≢ id → j ≢ o → get_elem? s.views j ≡ some x → x.live ≡ true → (x.worker ≢ 0) × (x.worker ≢ u.worker)
  other_numbers j x a b e lives = let k = st.seats.knows j x e lives in
      ((λ z. a (sym k.place ∙ ap book.seat (z ∙ sym zeroth) ∙ kv.place)), (λ z. b (sym k.place ∙ ap book.seat z ∙ ku.place)))

  made_zero : (b : ℕ) → is_made_by g n maker v.worker b ≡ (nat_lt b (blocks g) && (is_published (m.stage b) && (eqb (book.maker b) v.worker || eqb (book.maker b) u.worker)))
  made_zero b = ap (λ t. nat_lt b (blocks g) && (is_published (m.stage b) && t)) (ap (eqb (maker b)) zeroth ∙ (made_by_zero b ∙ ap (λ w. eqb (book.maker b) w || eqb (book.maker b) u.worker) (sym zeroth)))

  seats_after : SeatsStand g after n book.seat book.count (book.first + 1) maker
  seats_after = record {
    knows = all_after (λ j x. Knows g n book.seat maker j x)
        record {
          plan = kv.plan;
          place = kv.place;
          held = kv.held;
          resumed = kv.resumed;
          owed = λ b. is_in-append b v.owed u.owed ∙ (λ i. kv.owed b i || ku.owed b i) ∙ sym (owes_zero b);
          known = λ b e. ⊎_elim (kv.known b) (ku.known b) (or_cases (is_in b v.known) (is_in b u.known) (sym (is_in-append b v.known u.known) ∙ e));
          made = λ b. times_in-append b v.made u.made ∙ (λ i. kv.made b i + ku.made b i)
              ∙ (one_of_two (nat_lt b (blocks g)) (is_published (m.stage b)) (eqb (book.maker b) v.worker) (eqb (book.maker b) u.worker) (λ x y. not_zero (sym (eqb-true (book.maker b) u.worker y) ∙ eqb-true (book.maker b) v.worker x ∙ zeroth))
              ∙ ap one_if (sym (made_zero b)));
        }
        (λ j x a b e lives. let k = st.seats.knows j x e lives in let ne = other_numbers j x a b e lives in record {
          plan = k.plan;
          place = k.place;
          held = k.held;
          resumed = k.resumed;
          owed = λ c. k.owed c ∙ sym (owes_other x.worker c ne.0 ne.1);
          known = k.known;
          made = λ c. k.made c ∙ ap (λ t. one_if (nat_lt c (blocks g) && (is_published (m.stage c) && t))) (sym (made_by_other x.worker c ne.0 ne.1));
        });
    numbers = all_after (λ j x. IsNumbered book.count (book.first + 1) x)
        record { zeroth = λ z. let q = (st.seats.numbers id v at live).zeroth z in (q.0, ap (λ y. y + 1) q.1); others = λ nz. absurd (nz zeroth) }
        (λ j x a b e lives. let ne = other_numbers j x a b e lives in record {
          zeroth = λ z. absurd (ne.0 z);
          others = λ z. let q = (st.seats.numbers j x e lives).others z in let f = first_is in let d = ne.1 in (omega arith, q.1);
        });
    positive = omega arith;
    counted = let q = (st.seats.numbers o u there alive).others not_zero in let f = first_is in omega arith;
    concerned = concerned_after;
  }
    where
      lives_on : (w : ℕ) → w ≢ u.worker → Lives s.views w (book.seat w) → Lives after w (book.seat w)
      lives_on w ne x =
          let y = lives_set s.views id v (joined_view v u) at live refl w (book.seat w) x in
          let elsewhere : book.seat w ≢ o = λ e. ne (sym x.worker ∙ ap (λ (z : View). z.worker) (some-injective x.view u (sym x.there ∙ ap (get_elem? s.views) e ∙ there))) in
          record { view = y.view; there = set_else (set s.views id (joined_view v u)) o (book.seat w) spent_view elsewhere ∙ y.there; live = y.live; worker = y.worker }

      unconcerned : (b : ℕ) → concerns g n maker u.worker b ≡ false
      unconcerned b = (λ i. unheld b i || (unresumed b i || (owes_gone b i || (nat_lt b (blocks g) && (is_published (m.stage b) && made_gone b i))))) ∙ and_right (nat_lt b (blocks g)) (is_published (m.stage b) && false) (and-false (is_published (m.stage b)))

      concerned_after : (w b : ℕ) → concerns g n maker w b ≡ true → Lives after w (book.seat w)
      concerned_after w b h = dite (ℕ_discrete w u.worker)
          (λ q. absurd (true≢false (sym h ∙ ap (λ x. concerns g n maker x b) q ∙ unconcerned b)))
          (λ differs. dite (ℕ_discrete w 0)
          (λ z. lives_on w differs record { view = v; there = ap (get_elem? s.views) (ap book.seat (z ∙ sym zeroth) ∙ kv.place) ∙ at; live = live; worker = zeroth ∙ sym z })
          (λ nz. lives_on w differs (st.seats.concerned w b ((λ i. is_held_by w (m.stage b) || (is_resumed_by w (m.stage b) || (sym (owes_other w b nz differs) i || (nat_lt b (blocks g) && (is_published (m.stage b) && sym (made_by_other w b nz differs) i))))) ∙ h))))

  -- who tends a block afterwards
  tended : (b : ℕ) → tends g n maker v.worker b ≡ true → (tends g m book.maker v.worker b ≡ true) ⊎ (tends g m book.maker u.worker b ≡ true)
  tended b h = ⊎_elim
      (λ q. inl (or_left (is_held_by v.worker (m.stage b)) (is_made_by g m book.maker v.worker b) q))
      (λ q. let p = and_parts (nat_lt b (blocks g)) (is_published (m.stage b) && (eqb (book.maker b) v.worker || eqb (book.maker b) u.worker)) (sym (made_zero b) ∙ q) in
      let r = and_parts (is_published (m.stage b)) (eqb (book.maker b) v.worker || eqb (book.maker b) u.worker) p.1 in
      ⊎_elim
      (λ x. inl (or_right (is_held_by v.worker (m.stage b)) (is_made_by g m book.maker v.worker b) (λ i. p.0 i && (r.0 i && x i))))
      (λ x. inr (or_right (is_held_by u.worker (m.stage b)) (is_made_by g m book.maker u.worker b) (λ i. p.0 i && (r.0 i && x i))))
      (or_cases (eqb (book.maker b) v.worker) (eqb (book.maker b) u.worker) r.1))
      (or_cases (is_held_by v.worker (m.stage b)) (is_made_by g n maker v.worker b) h)

  slots_after : SlotsStand g s.words s.homes after n maker book.value book.drawn
  slots_after = slots_stay g s.words s.homes s.views after m n.owes book.maker maker book.value book.drawn st.slots
      (all_after (λ j x. Notes g n maker book.value book.drawn x)
      (let a = st.slots.notes id v at live in let b = st.slots.notes o u there alive in record {
        picked = λ k x e. ⊎_elim (a.picked k x) (b.picked k x) (noted_either k v.picked u.picked x e);
        picks = λ k in_k h p. ⊎_elim (λ q. noted_more k v.picked u.picked (a.picks k in_k q p)) (λ q. noted_later k v.picked u.picked (b.picks k in_k q p)) (tended (edge g k).upper h);
        laid = λ k x e. ⊎_elim (a.laid k x) (b.laid k x) (noted_either k v.laid u.laid x e);
        lays = λ k in_k h p. ⊎_elim (λ q. noted_more k v.laid u.laid (a.lays k in_k q p)) (λ q. noted_later k v.laid u.laid (b.lays k in_k q p)) (tended (edge g k).lower h);
        draws = a.draws;
      })
      (λ j x a b e lives. let r = st.slots.notes j x e lives in let ne = other_numbers j x a b e lives in
      let same : (c : ℕ) → tends g n maker x.worker c ≡ tends g m book.maker x.worker c = λ c. ap (λ t. is_held_by x.worker (m.stage c) || (nat_lt c (blocks g) && (is_published (m.stage c) && t))) (made_by_other x.worker c ne.0 ne.1) in
      record { picked = r.picked; picks = λ k in_k h p. r.picks k in_k (sym (same (edge g k).upper) ∙ h) p; laid = r.laid; lays = λ k in_k h p. r.lays k in_k (sym (same (edge g k).lower) ∙ h) p; draws = r.draws }))

  pub join_stands : Stands g record { words = s.words; homes = s.homes; views = after } n (record book { first = book.first + 1; maker = maker })
  join_stands = record {
    words = record { wide = st.words.wide; desk = st.words.desk; done = st.words.done; parked = st.words.parked; waits = st.words.waits; lettered = st.words.lettered };
    seats = seats_after;
    slots = slots_after;
  }

pub joins : (g : PlanValue) (id : ℕ) (v : View) (o : ℕ) (u : View) → v.live ≡ true → v.worker ≡ 0 → u.live ≡ true → u.worker ≡ v.joined → ((b : ℕ) → is_in b u.held ≡ false) → ((b : ℕ) → is_in b u.resumed ≡ false) → Joins (Holds g) id v o u (joined_view v u) spent_view
joins g id v o u live zeroth alive next no_held no_resumed s h at apart there =
    ⊎_elim (λ (t : (o ≡ id) × (joined_view v u ≡ u)). absurd (apart t.0))
    (λ (t : (o ≢ id) × (get_elem? s.views o ≡ some u)). record {
      machine = take_over 0 u.worker h.machine;
      book = record h.book { first = h.book.first + 1; maker = taken_over h.book.maker u.worker };
      rules = h.rules;
      laws = a_worker_may_take_over_debts g.layout.edges h.machine 0 u.worker h.laws;
      stands = join_stands g s h.machine h.book h.stands id v at live zeroth o u apart t.1 alive next no_held no_resumed;
    })
    (at_set s.views id o (joined_view v u) u there)
