-- A publication keeps the rule, and changes the state as its event does.
use Rattle.std.proofs.Common.{not, ◌≡◌, ◌≢◌, ℕ, ◌+◌, ◌-◌, ◌<◌, ◌^◌, true, false, true≢false, cond, eqb, ◌&&◌, ◌||◌, List, [], ◌∷◌, ◌++◌, length, get_or, set, refl, sym, ap, ◌∙◌, subst, inl, ⊎_elim, eq-eqb, ne_eqb, lt-ltb, arith, Option, length-set, get_or-set_other, get_or-set_same}
use Rattle.std.specs.Int.{bit_at}
use Rattle.std.specs.Prelude.{bit_or, nat_lt, Some, is_some}
use Rattle.std.proofs.lemmas.Bool.{and_right, or_cases, or_right, or_left}
use Rattle.std.proofs.Math.Bool.{and-false}
use mathlib.Core.Option as table
use mathlib.Core.Option.{some, none, some-injective}
use mathlib.Core.Logic.{dite}
use native.Mathlib.Decide.{ℕ_discrete}
use lib.ListN.{get_elem?}
use Rattle.atomic_table.proofs.Lists.{at_set}
use Rattle.atomic_table.specs.Table.{step, homes_after, Allows}
use Rattle.nichols_tensor.proofs.Tests.{same_answer}
use Rattle.nichols_core.specs.declared.stage.Stage.{Stage}
use Rattle.nichols_core.specs.declared.stage.Stage.TheVariants.{Held, Parked, Resumed, Published}
use Rattle.nichols_core.specs.Machine.{Machine, put, publish, stage_after_publication, is_held_by, is_resumed_by, is_published, is_parked_on}
use Rattle.nichols_core.specs.SixLaws.{SixLaws, AllPicked, AllLaid}
use Rattle.nichols_core.specs.Runs.{one_if}
use Rattle.nichols_core.proofs.Stages.{put_is, put_here, put_else, held_by, resumed_parked}
use Rattle.nichols_core.proofs.LawsKept.{core, whole, publish_keeps}
use Rattle.nichols_core.proofs.Conditions.{true_held}
use Rattle.nichols_value.specs.declared.shared.Shared.{Shared}
use Rattle.nichols_shelf.specs.Plan.{PlanValue}
use Rattle.nichols_shelf.specs.Lists.{is_in, times_in, without, noted_value}
use Rattle.nichols_shelf.specs.Places.{blocks, edges, edge, desk_place, wait_place, edge_place}
use Rattle.nichols_shelf.specs.Views.{askers, publish_view}
use Rattle.nichols_shelf.specs.Words.{desk_word, done_bit, IsMarked, HasLetter, WordsStand}
use Rattle.nichols_shelf.specs.Seats.{is_made_by, Knows}
use Rattle.nichols_shelf.specs.Stands.{Tableau, Book, Stands, Holds}
use Rattle.nichols_shelf.specs.Steps.{Mine, publish_step}
use Rattle.nichols_shelf.specs.Out.{are_picked}
use Rattle.nichols_shelf.specs.declared.view.View.{View}
use Rattle.nichols_shelf.proofs.Listed.{value_of, gone, others_stay, is_in-append, times_in-snoc_same, times_in-snoc_other}
use Rattle.nichols_shelf.proofs.StageTests.{not_held_by, held_published, resumed_theirs, resumed_mine, published_published, desk_published, done_published, parked_on}
use Rattle.nichols_shelf.proofs.Bits.{bit_same, bit_other}
use Rattle.nichols_shelf.proofs.Askers.{asks, asked_for}
use Rattle.nichols_shelf.proofs.Picks.{one_picked}
use Rattle.nichols_shelf.proofs.Gives.{give_all, none_carried, give_valid, give_depth, give_else, IsApart}
use Rattle.nichols_shelf.proofs.SeatsKept.{Elsewhere, seats_step}
use Rattle.nichols_shelf.proofs.SlotsKept.{SameEdges, slots_kept}

module _ (g : PlanValue) (s : Tableau) (m : Machine) (laws : SixLaws g.layout.edges m) (book : Book) (st : Stands g s m book)
    (id : ℕ) (v : View) (at : get_elem? s.views id ≡ some v) (live : v.live ≡ true) (b : ℕ) (inside : b < blocks g) (lists : is_in b v.held ≡ true)
    (all_picked : (k : ℕ) → k < edges g → (edge g k).upper ≡ b → is_some (noted_value k v.picked) ≡ true)
    (all_laid : (k : ℕ) → k < edges g → (edge g k).lower ≡ b → is_some (noted_value k v.laid) ≡ true)
    (out : List (ℕ × Option Shared)) (are : are_picked v out ≡ true) where
  abbrev i : ℕ
  i = wait_place g b

  abbrev found : ℕ
  found = get_or s.words i 0

  abbrev ws : List ℕ
  ws = set s.words i (bit_or found (2 ^ 63))

  abbrev n : Machine
  n = publish v.worker b m

  abbrev v' : View
  v' = publish_view g b found v

  abbrev maker : ℕ → ℕ
  maker = put book.maker b v.worker

  abbrev homes : List (table.Option (Option Shared))
  homes = homes_after s.homes out (give_all out)

  pub held : m.stage b ≡ Held v.worker
  held = held_by v.worker (m.stage b) (sym ((st.seats.knows id v at live).held b) ∙ lists)

  pub full : AllPicked g.layout.edges m b
  full k in_k up = let x = value_of (noted_value k v.picked) (all_picked k in_k up) in ((st.slots.notes id v at live).picked k x.0 x.1).1

  pub spread : AllLaid g.layout.edges m b
  spread k in_k low = let x = value_of (noted_value k v.laid) (all_laid k in_k low) in ((st.slots.notes id v at live).laid k x.0 x.1).1

  in_words : i < length s.words
  in_words = let w = st.words.wide in omega arith

  open_yet : m.stage b ≢ Published
  open_yet e = let q : Held v.worker ≡ Published = sym held ∙ e in cc

  stage_is : (c : ℕ) (P : Stage → Type 0) → (c ≡ b → P Published) → (c ≢ b → P (stage_after_publication v.worker b (m.stage c))) → P (n.stage c)
  stage_is = put_is (λ c. stage_after_publication v.worker b (m.stage c)) b Published

  word_other : (c : ℕ) → c ≢ b → get_or ws (wait_place g c) 0 ≡ get_or s.words (wait_place g c) 0
  word_other c ne = get_or-set_other s.words i (wait_place g c) (bit_or found (2 ^ 63)) 0 (λ q. ne (omega arith))

  -- the askers are the blocks that are parked on b
  askers_are : (c : ℕ) → is_in c (askers g.layout.edges b found) ≡ is_parked_on b (m.stage c)
  askers_are c = same_answer (is_in c (askers g.layout.edges b found)) (is_parked_on b (m.stage c))
      (λ q. let a = asks g.layout.edges b found c q in
      let p = st.words.waits a.number a.inside (λ z. open_yet (ap m.stage (sym a.lower) ∙ z)) (ap (λ z. bit_at (get_or s.words (wait_place g z) 0) ((edge g a.number).letter - 1)) a.lower ∙ a.bit) in
      ap (λ z. is_parked_on b (m.stage z)) (sym a.upper) ∙ ap (is_parked_on b) p ∙ eq-eqb (edge g a.number).lower b a.lower)
      (λ q. let r = st.words.parked c b (parked_on b (m.stage c) q) in
      ap (λ z. is_in z (askers g.layout.edges b found)) (sym r.upper) ∙ asked_for g.layout.edges b found r.number r.inside r.lower (ap (λ z. bit_at (get_or s.words (wait_place g z) 0) ((edge g r.number).letter - 1)) (sym r.lower) ∙ r.bit))

  words_after : WordsStand g ws n
  words_after = record {
    wide = length-set s.words i (bit_or found (2 ^ 63)) ∙ st.words.wide;
    desk = λ c h. get_or-set_other s.words i (desk_place c) (bit_or found (2 ^ 63)) 0 (λ q. omega arith)
        ∙ stage_is c (λ t. get_or s.words (desk_place c) 0 ≡ desk_word t) (λ q. st.words.desk c h ∙ ap desk_word (ap m.stage q ∙ held)) (λ _. st.words.desk c h ∙ sym (desk_published v.worker b (m.stage c)));
    done = λ c h. stage_is c (λ t. bit_at (get_or ws (wait_place g c) 0) 63 ≡ done_bit t)
        (λ q. ap (λ z. bit_at (get_or ws (wait_place g z) 0) 63) q ∙ ap (λ x. bit_at x 63) (get_or-set_same s.words i (bit_or found (2 ^ 63)) 0 in_words) ∙ bit_same found 63)
        (λ q. ap (λ x. bit_at x 63) (word_other c q) ∙ st.words.done c h ∙ sym (done_published v.worker b (m.stage c)));
    parked = λ c low. stage_is c (λ t. t ≡ Parked low → IsMarked g ws low c) (λ _ p. absurd (cc))
        (λ _ p. let x = resumed_parked v.worker b (m.stage c) low p in let r = st.words.parked c low x.0 in
        record { number = r.number; inside = r.inside; lower = r.lower; upper = r.upper; bit = ap (λ z. bit_at z ((edge g r.number).letter - 1)) (word_other (edge g r.number).lower (λ q. x.1 (sym r.lower ∙ q))) ∙ r.bit });
    waits = λ k in_k yet bit.
        let ne : (edge g k).lower ≢ b = λ q. yet (stage_is (edge g k).lower (λ t. t ≡ Published) (λ _. refl) (λ other. absurd (other q))) in
        let p = st.words.waits k in_k (λ q. yet (stage_is (edge g k).lower (λ t. t ≡ Published) (λ _. refl) (λ _. ap (stage_after_publication v.worker b) q))) (ap (λ z. bit_at z ((edge g k).letter - 1)) (sym (word_other (edge g k).lower ne)) ∙ bit) in
        stage_is (edge g k).upper (λ t. t ≡ Parked (edge g k).lower) (λ q. absurd (let z : Held v.worker ≡ Parked (edge g k).lower = sym held ∙ ap m.stage (sym q) ∙ p in cc))
        (λ _. ap (stage_after_publication v.worker b) p ∙ ap (λ t. cond t (Resumed v.worker) (Parked (edge g k).lower)) (ne_eqb (edge g k).lower b ne));
    lettered = λ low j in_low last bit. st.words.lettered low j in_low last (dite (ℕ_discrete low b)
        (λ q. ap (λ z. bit_at (get_or s.words (wait_place g z) 0) j) q ∙ (sym (bit_other found 63 j last) ∙ ap (λ x. bit_at x j) (sym (get_or-set_same s.words i (bit_or found (2 ^ 63)) 0 in_words)) ∙ ap (λ z. bit_at (get_or ws (wait_place g z) 0) j) (sym q) ∙ bit))
        (λ ne. ap (λ x. bit_at x j) (sym (word_other low ne)) ∙ bit));
  }

  -- b is made by v's worker, and the others' blocks stay theirs
  made_here : is_made_by g n maker v.worker b ≡ true
  made_here = (λ j. lt-ltb b (blocks g) inside j && (is_published (put_here (λ c. stage_after_publication v.worker b (m.stage c)) b Published b refl j) && eqb (put_here book.maker b v.worker b refl j) v.worker)) ∙ eq-eqb v.worker v.worker refl

  made_before : (u : ℕ) → is_made_by g m book.maker u b ≡ false
  made_before u = ap (λ t. nat_lt b (blocks g) && (is_published t && eqb (book.maker b) u)) held ∙ and-false (nat_lt b (blocks g))

  made_there : (u c : ℕ) → c ≢ b → is_made_by g n maker u c ≡ is_made_by g m book.maker u c
  made_there u c ne = (λ j. nat_lt c (blocks g) && (is_published (put_else (λ d. stage_after_publication v.worker b (m.stage d)) b Published c ne j) && eqb (put_else book.maker b v.worker c ne j) u))
      ∙ ap (λ t. nat_lt c (blocks g) && (t && eqb (book.maker c) u)) (published_published v.worker b (m.stage c))

  made_theirs : (u c : ℕ) → u ≢ v.worker → is_made_by g n maker u c ≡ is_made_by g m book.maker u c
  made_theirs u c ne = dite (ℕ_discrete c b)
      (λ q. ap (λ t. nat_lt c (blocks g) && (is_published (n.stage c) && t)) (ap (λ x. eqb x u) (put_here book.maker b v.worker c q) ∙ ne_eqb v.worker u (λ z. ne (sym z))) ∙ (and_right (nat_lt c (blocks g)) (is_published (n.stage c) && false) (and-false (is_published (n.stage c))) ∙ sym (ap (is_made_by g m book.maker u) q ∙ made_before u)))
      (λ other. made_there u c other)

  still_published : (c : ℕ) → m.stage c ≡ Published → n.stage c ≡ Published
  still_published c e = stage_is c (λ t. t ≡ Published) (λ _. refl) (λ _. ap (stage_after_publication v.worker b) e)

  elsewhere : Elsewhere g v.worker m n book.maker maker
  elsewhere = record {
    held = λ u c ne. stage_is c (λ t. is_held_by u t ≡ is_held_by u (m.stage c)) (λ q. sym (not_held_by v.worker u (m.stage c) (ap m.stage q ∙ held) ne)) (λ _. held_published v.worker b u (m.stage c));
    resumed = λ u c ne. stage_is c (λ t. is_resumed_by u t ≡ is_resumed_by u (m.stage c)) (λ q. sym (ap (is_resumed_by u) (ap m.stage q ∙ held))) (λ _. resumed_theirs v.worker b u (m.stage c) ne);
    owed = λ u c ne. refl;
    published = still_published;
    made = made_theirs;
  }

  mine : Knows g n book.seat maker id v'
  mine = let k = st.seats.knows id v at live in record {
    plan = k.plan;
    place = k.place;
    held = λ c. stage_is c (λ t. is_in c (without b v.held) ≡ is_held_by v.worker t) (λ q. ap (λ z. is_in z (without b v.held)) q ∙ gone b v.held)
        (λ q. others_stay c b v.held q ∙ k.held c ∙ sym (held_published v.worker b v.worker (m.stage c)));
    resumed = λ c. is_in-append c v.resumed (askers g.layout.edges b found) ∙ (λ z. k.resumed c z || askers_are c z)
        ∙ stage_is c (λ t. (is_resumed_by v.worker (m.stage c) || is_parked_on b (m.stage c)) ≡ is_resumed_by v.worker t)
        (λ q. ap (λ t. is_resumed_by v.worker t || is_parked_on b t) (ap m.stage q ∙ held)) (λ _. resumed_mine v.worker b (m.stage c));
    owed = k.owed;
    known = λ c h. still_published c (k.known c h);
    made = λ c. dite (ℕ_discrete c b)
        (λ q. subst (λ d. times_in d (v.made ++ b ∷ []) ≡ one_if (is_made_by g n maker v.worker d)) (sym q)
        (times_in-snoc_same b v.made ∙ (ap (λ x. x + 1) (k.made b ∙ ap one_if (made_before v.worker)) ∙ sym (ap one_if made_here))))
        (λ ne. times_in-snoc_other c b v.made ne ∙ (k.made c ∙ ap one_if (sym (made_there v.worker c ne))));
  }

  same_edges : SameEdges g m n book.maker maker book.drawn
  same_edges = record {
    laid = λ k. refl;
    picked = λ k. refl;
    tended = λ w c h. inl (⊎_elim
        (λ q. or_left (is_held_by w (m.stage c)) (is_made_by g m book.maker w c) (stage_is c (λ t. is_held_by w t ≡ true → is_held_by w (m.stage c) ≡ true) (λ _ p. absurd (true≢false (sym p))) (λ _ p. sym (held_published v.worker b w (m.stage c)) ∙ p) q))
        (λ q. dite (ℕ_discrete w v.worker)
        (λ same. dite (ℕ_discrete c b)
        (λ here. or_left (is_held_by w (m.stage c)) (is_made_by g m book.maker w c) (true_held w (m.stage c) (ap m.stage here ∙ held ∙ ap (λ x. Held x) (sym same))))
        (λ ne. or_right (is_held_by w (m.stage c)) (is_made_by g m book.maker w c) (sym (made_there w c ne) ∙ q)))
        (λ ne. or_right (is_held_by w (m.stage c)) (is_made_by g m book.maker w c) (sym (made_theirs w c ne) ∙ q)))
        (or_cases (is_held_by w (n.stage c)) (is_made_by g n maker w c) h));
    drawn_held = λ w k in_k d. stage_is (edge g k).lower (λ t. is_held_by w t ≡ is_held_by w (m.stage (edge g k).lower))
        (λ q. absurd (true≢false (sym (spread k in_k q) ∙ (st.slots.away k in_k d).unlaid)))
        (λ _. held_published v.worker b w (m.stage (edge g k).lower));
  }

  -- no slot that is out is one of an edge that isn't picked
  apart : (xs : List (ℕ × Option Shared)) → are_picked v xs ≡ true → (k : ℕ) → m.picked k ≡ false → IsApart k xs
  apart [] h k yet = tt
  apart (x ∷ xs) h k yet =
      let all = one_picked v x xs h in
      let y = value_of (noted_value x.0 v.picked) all.2 in
      ((λ e. true≢false (sym ((st.slots.notes id v at live).picked x.0 y.0 y.1).1 ∙ ap m.picked (sym e) ∙ yet)), apart xs all.4 k yet)

  -- no value goes home with them
  given_value : (hs : List (table.Option (Option Shared))) (xs : List (ℕ × Option Shared)) → are_picked v xs ≡ true → (k : ℕ) (x : Shared) → get_elem? (homes_after hs xs (give_all xs)) k ≡ some (some (Some x)) → get_elem? hs k ≡ some (some (Some x))
  given_value hs [] h k x e = e
  given_value hs (y ∷ ys) h k x e =
      let all = one_picked v y ys h in
      ⊎_elim
      (λ (t : (k ≡ y.0) × (some y.1 ≡ some (Some x))). absurd (not_both y.1 x all.0 (inner y.1 x t.1)))
      (λ (t : (k ≢ y.0) × (get_elem? hs k ≡ some (some (Some x)))). t.1)
      (at_set hs y.0 k (some y.1) (some (Some x)) (given_value (set hs y.0 (some y.1)) ys all.4 k x e))
    where
      inner : (o : Option Shared) (x : Shared) → some o ≡ some (Some x) → o ≡ Some x
      inner o x e = some-injective o (Some x) e

      not_both : (o : Option Shared) (x : Shared) → not (is_some o) ≡ true → o ≡ Some x → ⊥
      not_both o x none_is is = true≢false (sym none_is ∙ ap (λ t. not (is_some t)) is)

  pub publish_stands : Stands g record { words = ws; homes = homes; views = set s.views id v' } n (record book { maker = maker })
  publish_stands = record {
    words = words_after;
    seats = seats_step g s.views m n book.seat book.count book.first book.maker maker st.seats id v v' at live live refl refl refl elsewhere mine;
    slots = slots_kept g s.words ws s.homes homes s.views m n laws book.maker maker book.value book.drawn st.slots same_edges id v v' at live refl refl refl refl
        (λ k _. get_or-set_other s.words i (edge_place g k) (bit_or found (2 ^ 63)) 0 (λ q. omega arith))
        (give_depth s.homes out) (λ k _ yet. give_else s.homes out k (apart out are k yet)) (λ k _ x e. given_value s.homes out are k x e);
  }

pub publish_allowed : (g : PlanValue) (slots id : ℕ) (me : Mine) (b : ℕ) → b < blocks g → me.0.live ≡ true → is_in b me.0.held ≡ true
    → ((k : ℕ) → k < edges g → (edge g k).upper ≡ b → is_some (noted_value k me.0.picked) ≡ true)
    → ((k : ℕ) → k < edges g → (edge g k).lower ≡ b → is_some (noted_value k me.0.laid) ≡ true)
    → are_picked me.0 me.1 ≡ true
    → Allows (Holds g) slots id me (wait_place g b) (λ x. bit_or x (2 ^ 63)) (publish_step (step slots (wait_place g b) (2 ^ 63) 0 none) me)
publish_allowed g slots id me b inside live lists picks lays are s h deep at word =
    let x = get_or s.words (wait_place g b) 0 in
    let kn = h.stands.seats.knows id me.0 at live in
    let is = held g s h.machine h.laws h.book h.stands id me.0 at live b inside lists picks lays me.1 are in
    let same : wait_place g b - (1 + blocks g) ≡ b = omega arith in (
      publish_view g b x me.0,
      give_all me.1,
      give_valid s.homes me.1,
      record {
        machine = publish me.0.worker b h.machine;
        book = record h.book { maker = put h.book.maker b me.0.worker };
        rules = h.rules;
        laws = whole g.layout.edges (publish me.0.worker b h.machine)
            (publish_keeps g.layout.edges h.machine me.0.worker b (core g.layout.edges h.machine h.laws) is
            (full g s h.machine h.laws h.book h.stands id me.0 at live b inside lists picks lays me.1 are) (spread g s h.machine h.laws h.book h.stands id me.0 at live b inside lists picks lays me.1 are));
        stands = publish_stands g s h.machine h.laws h.book h.stands id me.0 at live b inside lists picks lays me.1 are;
      },
      (
        (λ j. (publish_view g b x me.0, none_carried me.1 j))
            ∙ subst (λ (p : PlanValue). (let pair : Mine = (publish_view g b x me.0, []) in pair ≡ (publish_view p (wait_place g b - (1 + blocks p)) x me.0, []))) (sym kn.plan) (ap (λ c. (publish_view g c x me.0, [])) (sym same)),
        subst (λ (p : PlanValue). (i : ℕ) → i ≢ 63 → bit_at x i ≡ 1 → HasLetter p (wait_place g b - (1 + blocks p)) i) (sym kn.plan)
            (subst (λ c. (i : ℕ) → i ≢ 63 → bit_at x i ≡ 1 → HasLetter g c i) (sym same) (λ i last bit. h.stands.words.lettered b i inside last bit)),
      ),
    )
