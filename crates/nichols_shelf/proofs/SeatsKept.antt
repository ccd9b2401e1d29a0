-- What a step of one worker leaves to the seats of the others.
use Rattle.std.proofs.Common.{◌≡◌, ◌≢◌, ℕ, ◌<◌, ◌≤◌, true, true≢false, ◌||◌, List, set, sym, ap, ◌∙◌, subst, ⊎_elim, Bool, eqb, ◌&&◌}
use Rattle.std.specs.Prelude.{nat_lt}
use Rattle.std.proofs.lemmas.Bool.{or_cases, or_left, or_right, and_parts}
use mathlib.Core.Option.{some, some-injective}
use mathlib.Core.Logic.{dite}
use native.Mathlib.Decide.{ℕ_discrete}
use lib.ListN.{get_elem?}
use Rattle.atomic_table.proofs.Lists.{at_set, set_here, set_else}
use Rattle.nichols_core.specs.declared.stage.Stage.TheVariants.{Held, Published}
use Rattle.nichols_core.specs.Machine.{Machine, is_held_by, is_resumed_by, is_published}
use Rattle.nichols_core.specs.Runs.{one_if}
use Rattle.nichols_core.proofs.Stages.{published}
use Rattle.nichols_shelf.specs.Plan.{PlanValue}
use Rattle.nichols_shelf.specs.Seats.{is_made_by, tends, Knows, IsNumbered, Lives, SeatsStand, concerns}
use Rattle.nichols_shelf.specs.declared.view.View.{View}
use Rattle.nichols_shelf.specs.Places.{blocks}
use Rattle.nichols_shelf.proofs.Listed.{inside_of}
use Rattle.nichols_shelf.proofs.StageTests.{not_held_by}

-- who holds a block, has resumed it, owes it or made it is about it
module _ (g : PlanValue) (m : Machine) (maker : ℕ → ℕ) (w b : ℕ) where
  abbrev holds_it : Bool
  holds_it = is_held_by w (m.stage b)

  abbrev resumes_it : Bool
  resumes_it = is_resumed_by w (m.stage b)

  abbrev made_it : Bool
  made_it = is_made_by g m maker w b

  pub concerns_held : holds_it ≡ true → concerns g m maker w b ≡ true
  concerns_held = or_left holds_it (resumes_it || (m.owes w b || made_it))

  pub concerns_resumed : resumes_it ≡ true → concerns g m maker w b ≡ true
  concerns_resumed e = or_right holds_it (resumes_it || (m.owes w b || made_it)) (or_left resumes_it (m.owes w b || made_it) e)

  pub concerns_owed : m.owes w b ≡ true → concerns g m maker w b ≡ true
  concerns_owed e = or_right holds_it (resumes_it || (m.owes w b || made_it)) (or_right resumes_it (m.owes w b || made_it) (or_left (m.owes w b) made_it e))

  pub concerns_made : made_it ≡ true → concerns g m maker w b ≡ true
  concerns_made e = or_right holds_it (resumes_it || (m.owes w b || made_it)) (or_right resumes_it (m.owes w b || made_it) (or_right (m.owes w b) made_it e))

-- no other worker tends a block that one holds
pub untended : (g : PlanValue) (m : Machine) (maker : ℕ → ℕ) (w u b : ℕ) → m.stage b ≡ Held w → u ≢ w → tends g m maker u b ≡ true → ⊥
untended g m maker w u b held ne t = ⊎_elim
    (λ q. true≢false (sym q ∙ not_held_by w u (m.stage b) held ne))
    (λ q. let p = (and_parts (is_published (m.stage b)) (eqb (maker b) u) (and_parts (nat_lt b (blocks g)) (is_published (m.stage b) && eqb (maker b) u) q).1).0 in
    true≢false (sym p ∙ ap is_published held))
    (or_cases (is_held_by u (m.stage b)) (is_made_by g m maker u b) t)

-- a step that publishes nothing
module _ (g : PlanValue) (m n : Machine) (maker : ℕ → ℕ) (same : (c : ℕ) → is_published (n.stage c) ≡ is_published (m.stage c)) where
  pub made_stays : (w c : ℕ) → is_made_by g n maker w c ≡ is_made_by g m maker w c
  made_stays w c = ap (λ t. nat_lt c (blocks g) && (t && eqb (maker c) w)) (same c)

  pub published_stays : (c : ℕ) → m.stage c ≡ Published → n.stage c ≡ Published
  published_stays c e = published (n.stage c) (same c ∙ ap is_published e)

-- from the state m to the state n, everything that concerns another worker than w stays, and what is published
pub record Elsewhere (g : PlanValue) (w : ℕ) (m n : Machine) (maker maker' : ℕ → ℕ) : Type 0 where
  pub held : (u c : ℕ) → u ≢ w → is_held_by u (n.stage c) ≡ is_held_by u (m.stage c)
  pub resumed : (u c : ℕ) → u ≢ w → is_resumed_by u (n.stage c) ≡ is_resumed_by u (m.stage c)
  pub owed : (u c : ℕ) → u ≢ w → n.owes u c ≡ m.owes u c
  pub published : (c : ℕ) → m.stage c ≡ Published → n.stage c ≡ Published
  pub made : (u c : ℕ) → u ≢ w → is_made_by g n maker' u c ≡ is_made_by g m maker u c

-- a live seat's view changes, and its worker number stays
pub lives_set : (views : List View) (id : ℕ) (v v' : View) → get_elem? views id ≡ some v → v'.live ≡ true → v'.worker ≡ v.worker → (w j : ℕ) → Lives views w j → Lives (set views id v') w j
lives_set views id v v' at live worker w j l = dite (ℕ_discrete j id)
    (λ e. record {
      view = v';
      there = ap (get_elem? (set views id v')) e ∙ set_here views id v' (inside_of views id v at);
      live = live;
      worker = worker ∙ ap (λ (u : View). u.worker) (some-injective v l.view (sym at ∙ ap (get_elem? views) (sym e) ∙ l.there)) ∙ l.worker;
    })
    (λ n. record { view = l.view; there = set_else views id j v' n ∙ l.there; live = l.live; worker = l.worker })

module _ (g : PlanValue) (views : List View) (m n : Machine) (seat : ℕ → ℕ) (count first : ℕ) (maker maker' : ℕ → ℕ) (st : SeatsStand g views m seat count first maker)
    (id : ℕ) (v v' : View) (at : get_elem? views id ≡ some v) (live : v.live ≡ true) where
  -- two live seats have two worker numbers
  pub other_worker : (j : ℕ) (u : View) → j ≢ id → get_elem? views j ≡ some u → u.live ≡ true → u.worker ≢ v.worker
  other_worker j u apart there alive e = apart (sym (st.knows j u there alive).place ∙ ap seat e ∙ (st.knows id v at live).place)

  pub seats_step : v'.live ≡ true → v'.worker ≡ v.worker → v'.passes ≡ v.passes → v'.joined ≡ v.joined → Elsewhere g v.worker m n maker maker' → Knows g n seat maker' id v' → SeatsStand g (set views id v') n seat count first maker'
  seats_step alive worker passes joined else mine = record {
    knows = λ j u there lives. ⊎_elim
        (λ (t : (j ≡ id) × (v' ≡ u)). subst (λ (x : ℕ × View). Knows g n seat maker' x.0 x.1) (λ i. (sym t.0 i, t.1 i)) mine)
        (λ (t : (j ≢ id) × (get_elem? views j ≡ some u)). other j u t.0 t.1 lives)
        (at_set views id j v' u there);
    numbers = λ j u there lives. ⊎_elim
        (λ (t : (j ≡ id) × (v' ≡ u)). subst (IsNumbered count first) t.1 (let q = st.numbers id v at live in record {
          zeroth = λ z. let r = q.zeroth (sym worker ∙ z) in (passes ∙ r.0, joined ∙ r.1);
          others = λ z. let r = q.others (λ e. z (worker ∙ e)) in (subst (λ x. first ≤ x) (sym worker) r.0, subst (λ x. x < count) (sym worker) r.1);
        }))
        (λ (t : (j ≢ id) × (get_elem? views j ≡ some u)). st.numbers j u t.1 lives)
        (at_set views id j v' u there);
    positive = st.positive;
    counted = st.counted;
    concerned = λ w b h. lives_set views id v v' at alive worker w (seat w) (dite (ℕ_discrete w v.worker)
        (λ e. record { view = v; there = ap (get_elem? views) (ap seat e ∙ (st.knows id v at live).place) ∙ at; live = live; worker = sym e })
        (λ ne. st.concerned w b ((λ i. sym (else.held w b ne) i || (sym (else.resumed w b ne) i || (sym (else.owed w b ne) i || sym (else.made w b ne) i))) ∙ h)));
  }
    where
      other : (j : ℕ) (u : View) → j ≢ id → get_elem? views j ≡ some u → u.live ≡ true → Knows g n seat maker' j u
      other j u apart there lives =
          let k = st.knows j u there lives in
          let ne = other_worker j u apart there lives in record {
            plan = k.plan;
            place = k.place;
            held = λ c. k.held c ∙ sym (else.held u.worker c ne);
            resumed = λ c. k.resumed c ∙ sym (else.resumed u.worker c ne);
            owed = λ c. k.owed c ∙ sym (else.owed u.worker c ne);
            known = λ c h. else.published c (k.known c h);
            made = λ c. k.made c ∙ ap one_if (sym (else.made u.worker c ne));
          }
