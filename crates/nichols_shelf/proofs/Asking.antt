-- An ask keeps the rule, and changes the state as its event does.
use Rattle.std.proofs.Common.{◌≡◌, ◌≢◌, ◌⊎◌, ℕ, ◌-◌, ◌<◌, ◌^◌, Bool, true, false, true≢false, cond, eqb, List, ◌∷◌, length, get_or, set, refl, sym, ap, ◌∙◌, subst, inl, inr, ⊎_elim, arith, length-set, get_or-set_other, get_or-set_same}
use Rattle.std.specs.Int.{bit_at}
use Rattle.std.specs.Prelude.{bit_or, None, is_some}
use Rattle.std.proofs.lemmas.Bool.{eqb-true, false_from_ne_true, or_cases, or_right, or_left}
use mathlib.Core.Option.{some, none}
use mathlib.Core.Logic.{dite}
use native.Mathlib.Decide.{ℕ_discrete}
use lib.ListN.{get_elem?}
use Rattle.atomic_table.specs.Table.{keeps, step, Allows}
use Rattle.nichols_core.specs.Layout.{IsLayout}
use Rattle.nichols_core.specs.declared.stage.Stage.TheVariants.{Held, Parked, Published}
use Rattle.nichols_core.specs.Machine.{Machine, put, ask, is_held_by, is_resumed_by, is_published}
use Rattle.nichols_core.specs.SixLaws.{SixLaws, NonePicked}
use Rattle.nichols_core.specs.Runs.{one_if}
use Rattle.nichols_core.proofs.Stages.{put_is, put_here, held_by, published}
use Rattle.nichols_core.proofs.LawsKept.{core, whole, ask_keeps}
use Rattle.nichols_core.proofs.Conditions.{true_held}
use Rattle.nichols_shelf.specs.Plan.{PlanValue}
use Rattle.nichols_shelf.specs.Lists.{is_in, without, noted_value}
use Rattle.nichols_shelf.specs.Places.{blocks, edges, edge, desk_place, wait_place, edge_place}
use Rattle.nichols_shelf.specs.Views.{says_published, ask_view}
use Rattle.nichols_shelf.specs.Words.{desk_word, done_bit, wait_bit, IsMarked, HasLetter, WordsStand}
use Rattle.nichols_shelf.specs.Seats.{is_made_by}
use Rattle.nichols_shelf.specs.Stands.{Tableau, Book, Stands, Holds}
use Rattle.nichols_shelf.specs.Steps.{Mine, ask_step}
use Rattle.nichols_shelf.specs.declared.view.View.{View}
use Rattle.nichols_shelf.proofs.Listed.{gone, others_stay}
use Rattle.nichols_shelf.proofs.StageTests.{put_same, not_held_by, says_so}
use Rattle.nichols_shelf.proofs.Bits.{bit_same, bit_other, same_exponent}
use Rattle.nichols_shelf.proofs.Edges.{placed, same_exit}
use Rattle.nichols_shelf.proofs.SeatsKept.{Elsewhere, seats_step, made_stays, published_stays}
use Rattle.nichols_shelf.proofs.SlotsKept.{slots_kept}

-- the words after the bit of an edge was set in its lower block's wait word
module _ (g : PlanValue) (rules : IsLayout g.layout) (words : List ℕ) (m : Machine) (st : WordsStand g words m) (k : ℕ) (in_k : k < edges g) where
  abbrev low : ℕ
  low = (edge g k).lower

  abbrev i : ℕ
  i = wait_place g low

  abbrev bit : ℕ
  bit = (edge g k).letter - 1

  abbrev ws : List ℕ
  ws = set words i (bit_or (get_or words i 0) (2 ^ bit))

  low_in : low < blocks g
  low_in = (placed g rules k in_k).lower

  in_words : i < length words
  in_words = let w = st.wide in let b = low_in in omega arith

  desk_same : (c : ℕ) → c < blocks g → get_or ws (desk_place c) 0 ≡ get_or words (desk_place c) 0
  desk_same c h = get_or-set_other words i (desk_place c) (bit_or (get_or words i 0) (2 ^ bit)) 0 (λ q. omega arith)

  pub edge_same : (j : ℕ) → get_or ws (edge_place g j) 0 ≡ get_or words (edge_place g j) 0
  edge_same j = get_or-set_other words i (edge_place g j) (bit_or (get_or words i 0) (2 ^ bit)) 0 (λ q. let b = low_in in omega arith)

  bit_stays : (c j : ℕ) → (c ≢ low) ⊎ (j ≢ bit) → bit_at (get_or ws (wait_place g c) 0) j ≡ bit_at (get_or words (wait_place g c) 0) j
  bit_stays c j other = dite (ℕ_discrete c low)
      (λ q. ap (λ z. bit_at (get_or ws (wait_place g z) 0) j) q ∙ ap (λ x. bit_at x j) (get_or-set_same words i (bit_or (get_or words i 0) (2 ^ bit)) 0 in_words)
      ∙ bit_other (get_or words i 0) bit j (⊎_elim (λ x. absurd (x q)) (λ x. x) other) ∙ ap (λ z. bit_at (get_or words (wait_place g z) 0) j) (sym q))
      (λ q. ap (λ x. bit_at x j) (get_or-set_other words i (wait_place g c) (bit_or (get_or words i 0) (2 ^ bit)) 0 (λ z. q (omega arith))))

  new_bit : wait_bit g ws k ≡ 1
  new_bit = ap (λ x. bit_at x bit) (get_or-set_same words i (bit_or (get_or words i 0) (2 ^ bit)) 0 in_words) ∙ bit_same (get_or words i 0) bit

  -- a bit stays set
  bit_kept : (c j : ℕ) → bit_at (get_or words (wait_place g c) 0) j ≡ 1 → bit_at (get_or ws (wait_place g c) 0) j ≡ 1
  bit_kept c j b = dite (ℕ_discrete j bit)
      (λ q. dite (ℕ_discrete c low)
      (λ r. ap (λ z. bit_at (get_or ws (wait_place g z) 0) j) r ∙ ap (bit_at (get_or ws i 0)) q ∙ new_bit)
      (λ r. bit_stays c j (inl r) ∙ b))
      (λ q. bit_stays c j (inr q) ∙ b)

  done_stays : (c : ℕ) → bit_at (get_or ws (wait_place g c) 0) 63 ≡ bit_at (get_or words (wait_place g c) 0) 63
  done_stays c = bit_stays c 63 (inr (λ q. let r = (placed g rules k in_k).to_last in omega arith))

  marks : (c l : ℕ) → IsMarked g words l c → IsMarked g ws l c
  marks c l r = record { number = r.number; inside = r.inside; lower = r.lower; upper = r.upper; bit = bit_kept (edge g r.number).lower ((edge g r.number).letter - 1) r.bit }

  -- which edge a bit stands for, after the step
  which : (j : ℕ) → j < edges g → wait_bit g ws j ≡ 1 → (j ≡ k) ⊎ (wait_bit g words j ≡ 1)
  which j in_j b = dite (ℕ_discrete (edge g j).lower low)
      (λ q. dite (ℕ_discrete (edge g j).letter (edge g k).letter) (λ r. inl (same_exit g rules j k in_j in_k q r))
      (λ r. inr (sym (bit_stays (edge g j).lower ((edge g j).letter - 1) (inr (λ z. r (let x = (placed g rules j in_j).from_one in let y = (placed g rules k in_k).from_one in omega arith)))) ∙ b)))
      (λ q. inr (sym (bit_stays (edge g j).lower ((edge g j).letter - 1) (inl q)) ∙ b))

  letters : (c j : ℕ) → c < blocks g → j ≢ 63 → bit_at (get_or ws (wait_place g c) 0) j ≡ 1 → HasLetter g c j
  letters c j in_c last b = dite (ℕ_discrete c low)
      (λ q. dite (ℕ_discrete j bit)
      (λ r. record { number = k; inside = in_k; lower = sym q; letter = let x = (placed g rules k in_k).from_one in omega arith })
      (λ r. st.lettered c j in_c last (sym (bit_stays c j (inr r)) ∙ b)))
      (λ q. st.lettered c j in_c last (sym (bit_stays c j (inl q)) ∙ b))

  -- where the lower block is published its other bits say nothing
  pub words_beside : m.stage low ≡ Published → WordsStand g ws m
  words_beside is = record {
    wide = length-set words i (bit_or (get_or words i 0) (2 ^ bit)) ∙ st.wide;
    desk = λ c h. desk_same c h ∙ st.desk c h;
    done = λ c h. done_stays c ∙ st.done c h;
    parked = λ c l p. marks c l (st.parked c l p);
    waits = λ j in_j yet b. ⊎_elim (λ (q : j ≡ k). absurd (yet (ap (λ z. m.stage (edge g z).lower) q ∙ is))) (λ old. st.waits j in_j yet old) (which j in_j b);
    lettered = letters;
  }

  -- where it isn't, the holder's block is parked on it
  pub words_parked : (w : ℕ) → m.stage (edge g k).upper ≡ Held w → WordsStand g ws record m { stage = put m.stage (edge g k).upper (Parked low) }
  words_parked w held = record {
    wide = length-set words i (bit_or (get_or words i 0) (2 ^ bit)) ∙ st.wide;
    desk = λ c h. desk_same c h ∙ st.desk c h ∙ sym (put_same m.stage (edge g k).upper (Parked low) desk_word (sym (ap desk_word held)) c);
    done = λ c h. done_stays c ∙ st.done c h ∙ sym (put_same m.stage (edge g k).upper (Parked low) done_bit (sym (ap done_bit held)) c);
    parked = λ c l. put_is m.stage (edge g k).upper (Parked low) c (λ t. t ≡ Parked l → IsMarked g ws l c)
        (λ q p. let same : low ≡ l = cc in subst (λ z. IsMarked g ws l z) (sym q) (subst (λ z. IsMarked g ws z (edge g k).upper) same record { number = k; inside = in_k; lower = refl; upper = refl; bit = new_bit }))
        (λ _ p. marks c l (st.parked c l p));
    waits = λ j in_j yet b. ⊎_elim
        (λ (q : j ≡ k). put_here m.stage (edge g k).upper (Parked low) (edge g j).upper (ap (λ z. (edge g z).upper) q) ∙ ap (λ z. Parked (edge g z).lower) (sym q))
        (λ old. let p = st.waits j in_j (λ z. yet (put_is m.stage (edge g k).upper (Parked low) (edge g j).lower (λ t. t ≡ Published) (λ q. absurd (let x : Held w ≡ Published = sym held ∙ ap m.stage (sym q) ∙ z in cc)) (λ _. z))) old in
        put_is m.stage (edge g k).upper (Parked low) (edge g j).upper (λ t. t ≡ Parked (edge g j).lower) (λ q. absurd (let x : Held w ≡ Parked (edge g j).lower = sym held ∙ ap m.stage (sym q) ∙ p in cc)) (λ _. p))
        (which j in_j b);
    lettered = letters;
  }

module _ (g : PlanValue) (rules : IsLayout g.layout) (s : Tableau) (m : Machine) (laws : SixLaws g.layout.edges m) (book : Book) (st : Stands g s m book)
    (id : ℕ) (v : View) (at : get_elem? s.views id ≡ some v) (live : v.live ≡ true) (k : ℕ) (in_k : k < edges g) (lists : is_in (edge g k).upper v.held ≡ true)
    (unpicked : (j : ℕ) → j < edges g → (edge g j).upper ≡ (edge g k).upper → noted_value j v.picked ≡ None) where
  abbrev b : ℕ
  b = (edge g k).upper

  abbrev l : ℕ
  l = (edge g k).lower

  abbrev found : ℕ
  found = get_or s.words (wait_place g l) 0

  abbrev after_words : List ℕ
  after_words = set s.words (wait_place g l) (bit_or found (2 ^ ((edge g k).letter - 1)))

  pub held : m.stage b ≡ Held v.worker
  held = held_by v.worker (m.stage b) (sym ((st.seats.knows id v at live).held b) ∙ lists)

  pub none_picked : NonePicked g.layout.edges m b
  none_picked j in_j up = false_from_ne_true (m.picked j) (λ p.
      let tended = or_left (is_held_by v.worker (m.stage (edge g j).upper)) (is_made_by g m book.maker v.worker (edge g j).upper) (true_held v.worker (m.stage (edge g j).upper) (ap m.stage up ∙ held)) in
      true≢false (sym ((st.slots.notes id v at live).picks j in_j tended p) ∙ ap is_some (unpicked j in_j up)))

  says : says_published found ≡ is_published (m.stage l)
  says = ap (λ x. eqb x 1) (st.words.done l (placed g rules k in_k).lower) ∙ says_so (m.stage l)

  -- the lower block is published
  module _ (is : is_published (m.stage l) ≡ true) where
    abbrev known_view : View
    known_view = record v { known = l ∷ v.known; seen = (wait_place g l, found) ∷ v.seen }

    beside : Stands g record { words = after_words; homes = s.homes; views = set s.views id known_view } m book
    beside = record {
      words = words_beside g rules s.words m st.words k in_k (published (m.stage l) is);
      seats = seats_step g s.views m m book.seat book.count book.first book.maker book.maker st.seats id v known_view at live live refl refl refl
          record { held = λ u c ne. refl; resumed = λ u c ne. refl; owed = λ u c ne. refl; published = λ c e. e; made = λ u c ne. refl }
          (let kn = st.seats.knows id v at live in record {
            plan = kn.plan;
            place = kn.place;
            held = kn.held;
            resumed = kn.resumed;
            owed = kn.owed;
            made = kn.made;
            known = λ c h. ⊎_elim (λ q. ap m.stage (eqb-true c l q) ∙ published (m.stage l) is) (λ q. kn.known c q) (or_cases (eqb c l) (is_in c v.known) h);
          });
      slots = slots_kept g s.words after_words s.homes s.homes s.views m m laws book.maker book.maker book.value book.drawn st.slots
          record { laid = λ j. refl; picked = λ j. refl; tended = λ w c h. inl h; drawn_held = λ w j in_j d. refl }
          id v known_view at live refl refl refl refl (λ j _. edge_same g rules s.words m st.words k in_k j) refl (λ j _ _. refl) (λ j _ x e. e);
    }

  -- it isn't
  module _ (yet : is_published (m.stage l) ≡ false) where
    abbrev let_go : View
    let_go = record v { held = without b v.held; seen = (wait_place g l, found) ∷ v.seen }

    abbrev n : Machine
    n = record m { stage = put m.stage b (Parked l) }

    same_published : (c : ℕ) → is_published (n.stage c) ≡ is_published (m.stage c)
    same_published = put_same m.stage b (Parked l) is_published (sym (ap is_published held))

    same_made : (u c : ℕ) → is_made_by g n book.maker u c ≡ is_made_by g m book.maker u c
    same_made = made_stays g m n book.maker same_published

    still_published : (c : ℕ) → m.stage c ≡ Published → n.stage c ≡ Published
    still_published = published_stays g m n book.maker same_published

    same_resumed : (u c : ℕ) → is_resumed_by u (n.stage c) ≡ is_resumed_by u (m.stage c)
    same_resumed u = put_same m.stage b (Parked l) (is_resumed_by u) (sym (ap (is_resumed_by u) held))

    elsewhere : Elsewhere g v.worker m n book.maker book.maker
    elsewhere = record {
      held = λ u c ne. put_same m.stage b (Parked l) (is_held_by u) (sym (not_held_by v.worker u (m.stage b) held ne)) c;
      resumed = λ u c ne. same_resumed u c;
      owed = λ u c ne. refl;
      published = still_published;
      made = λ u c ne. same_made u c;
    }

    -- no edge out of the block is drawn: who draws has picked all edges into it
    none_drawn : (j : ℕ) → j < edges g → (edge g j).lower ≡ b → book.drawn j ≡ true → ⊥
    none_drawn j in_j e d = true≢false (sym ((st.slots.away j in_j d).full k in_k (sym e)) ∙ none_picked k in_k refl)

    parks : Stands g record { words = after_words; homes = s.homes; views = set s.views id let_go } n book
    parks = record {
      words = words_parked g rules s.words m st.words k in_k v.worker held;
      seats = seats_step g s.views m n book.seat book.count book.first book.maker book.maker st.seats id v let_go at live live refl refl refl elsewhere
          (let kn = st.seats.knows id v at live in record {
            plan = kn.plan;
            place = kn.place;
            owed = kn.owed;
            held = λ c. put_is m.stage b (Parked l) c (λ t. is_in c (without b v.held) ≡ is_held_by v.worker t) (λ e. ap (λ d. is_in d (without b v.held)) e ∙ gone b v.held) (λ ne. others_stay c b v.held ne ∙ kn.held c);
            resumed = λ c. kn.resumed c ∙ sym (same_resumed v.worker c);
            known = λ c h. still_published c (kn.known c h);
            made = λ c. kn.made c ∙ ap one_if (sym (same_made v.worker c));
          });
      slots = slots_kept g s.words after_words s.homes s.homes s.views m n laws book.maker book.maker book.value book.drawn st.slots
          record {
            laid = λ j. refl;
            picked = λ j. refl;
            tended = λ w c h. inl (⊎_elim
                (λ q. or_left (is_held_by w (m.stage c)) (is_made_by g m book.maker w c) (put_is m.stage b (Parked l) c (λ t. is_held_by w t ≡ true → is_held_by w (m.stage c) ≡ true) (λ _ p. absurd (true≢false (sym p))) (λ _ p. p) q))
                (λ q. or_right (is_held_by w (m.stage c)) (is_made_by g m book.maker w c) (sym (same_made w c) ∙ q))
                (or_cases (is_held_by w (n.stage c)) (is_made_by g n book.maker w c) h));
            drawn_held = λ w j in_j d. put_is m.stage b (Parked l) (edge g j).lower (λ t. is_held_by w t ≡ is_held_by w (m.stage (edge g j).lower)) (λ e. absurd (none_drawn j in_j e d)) (λ _. refl);
          }
          id v let_go at live refl refl refl refl (λ j _. edge_same g rules s.words m st.words k in_k j) refl (λ j _ _. refl) (λ j _ x e. e);
    }

  view_by : Bool → View
  view_by t = record v { held = cond t v.held (without b v.held); known = cond t (l ∷ v.known) v.known; seen = (wait_place g l, found) ∷ v.seen }

  pub ask_stands : Stands g record { words = after_words; homes = s.homes; views = set s.views id (ask_view g k found v) } (ask b l m) book
  unfolding view_by
  ask_stands = subst (λ t. Stands g record { words = after_words; homes = s.homes; views = set s.views id (view_by t) } (ask b l m) book) (sym says) (both (is_published (m.stage l)) refl)
    where
      both : (t : Bool) → is_published (m.stage l) ≡ t → Stands g record { words = after_words; homes = s.homes; views = set s.views id (view_by t) } (cond t m (record m { stage = put m.stage b (Parked l) })) book
      both true is = beside is
      both false is = parks is

-- the bit names the edge
named : (g : PlanValue) → IsLayout g.layout → (j k : ℕ) → j < edges g → k < edges g → wait_place g (edge g k).lower ≡ wait_place g (edge g j).lower → 2 ^ ((edge g k).letter - 1) ≡ 2 ^ ((edge g j).letter - 1) → k ≡ j
named g rules j k in_j in_k place bit =
    let e = same_exponent ((edge g k).letter - 1) ((edge g j).letter - 1) bit in
    let x = (placed g rules j in_j).from_one in
    let y = (placed g rules k in_k).from_one in
    same_exit g rules k j in_k in_j (omega arith) (omega arith)

pub ask_allowed : (g : PlanValue) (slots id : ℕ) (me : Mine) (k : ℕ) → k < edges g → me.0.live ≡ true → is_in (edge g k).upper me.0.held ≡ true
    → ((j : ℕ) → j < edges g → (edge g j).upper ≡ (edge g k).upper → noted_value j me.0.picked ≡ None)
    → Allows (Holds g) slots id me (wait_place g (edge g k).lower) (λ x. bit_or x (2 ^ ((edge g k).letter - 1))) (ask_step (step slots (wait_place g (edge g k).lower) (2 ^ ((edge g k).letter - 1)) 0 none) me)
ask_allowed g slots id me k in_k live lists unpicked s h deep at word =
    let x = get_or s.words (wait_place g (edge g k).lower) 0 in
    let kn = h.stands.seats.knows id me.0 at live in
    let is = held g h.rules s h.machine h.laws h.book h.stands id me.0 at live k in_k lists unpicked in
    let none = none_picked g h.rules s h.machine h.laws h.book h.stands id me.0 at live k in_k lists unpicked in (
      ask_view g k x me.0,
      keeps,
      tt,
      record {
        machine = ask (edge g k).upper (edge g k).lower h.machine;
        book = h.book;
        rules = h.rules;
        laws = whole g.layout.edges (ask (edge g k).upper (edge g k).lower h.machine)
            (ask_keeps g.layout.edges h.machine me.0.worker (edge g k).upper (edge g k).lower (core g.layout.edges h.machine h.laws) is none (record { number = k; inside = in_k; lower = refl; upper = refl }));
        stands = ask_stands g h.rules s h.machine h.laws h.book h.stands id me.0 at live k in_k lists unpicked;
      },
      subst (λ (p : PlanValue). (j : ℕ) → j < edges p → wait_place g (edge g k).lower ≡ wait_place p (edge p j).lower → 2 ^ ((edge g k).letter - 1) ≡ 2 ^ ((edge p j).letter - 1) → (let pair : Mine = (ask_view g k x me.0, me.1) in pair ≡ (ask_view p j x me.0, me.1)))
          (sym kn.plan) (λ j in_j place bit. ap (λ i. (ask_view g i x me.0, me.1)) (named g h.rules j k in_j in_k place bit)),
    )
