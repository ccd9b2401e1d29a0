-- A take keeps the rule, and changes the state as its event does.
use Rattle.std.proofs.Common.{◌≡◌, ◌≢◌, ◌⊎◌, ℕ, ◌-◌, ◌<◌, Bool, true, false, true≢false, cond, eqb, ◌&&◌, ◌||◌, List, ◌∷◌, get_or, set, refl, sym, ap, ◌∙◌, subst, inl, inr, ⊎_elim, eq-eqb, ne_eqb, arith}
use Rattle.std.specs.Prelude.{nat_lt, Option, Some, None}
use Rattle.std.proofs.lemmas.Bool.{or_cases, or_right, or_left}
use Rattle.std.proofs.Math.Bool.{and-false}
use mathlib.Core.Option.{some, none}
use prog.Atomic.{either}
use lib.ListN.{get_elem?}
use Rattle.atomic_table.specs.Table.{keeps, step, Allows}
use Rattle.nichols_core.specs.declared.stage.Stage.{Stage}
use Rattle.nichols_core.specs.declared.stage.Stage.TheVariants.{Ready, Held, Parked, Resumed, Published}
use Rattle.nichols_core.specs.declared.event.Event.TheVariants.{Take}
use Rattle.nichols_core.specs.Machine.{Machine, put_owed, take, stage_after_take, is_held_by, is_resumed_by, is_published}
use Rattle.nichols_core.specs.SixLaws.{SixLaws, NonePicked, NoneLaid}
use Rattle.nichols_core.specs.Runs.{one_if}
use Rattle.nichols_core.proofs.Stages.{put_is, held_by, taken_parked}
use Rattle.nichols_core.proofs.Events.{every_event_keeps_the_six_laws}
use Rattle.nichols_core.proofs.Conditions.{true_held}
use Rattle.nichols_shelf.specs.Plan.{PlanValue}
use Rattle.nichols_value.specs.declared.value.BlockValue.{BlockValue}
use Rattle.nichols_shelf.specs.Lists.{is_in, noted_value}
use Rattle.nichols_shelf.specs.Untouched.{IsUntouched}
use Rattle.nichols_shelf.specs.Places.{blocks, edge, desk_place}
use Rattle.nichols_shelf.specs.Views.{take_view}
use Rattle.nichols_shelf.specs.Words.{desk_word}
use Rattle.nichols_shelf.specs.Seats.{is_made_by, tends, Knows}
use Rattle.nichols_shelf.specs.Stands.{Tableau, Book, Stands, Holds}
use Rattle.nichols_shelf.specs.Steps.{Mine, take_step}
use Rattle.nichols_shelf.specs.declared.view.View.{View}
use Rattle.nichols_shelf.proofs.Listed.{is_in-without}
use Rattle.nichols_shelf.proofs.StageTests.{put_same, owed_of_other, owed_of_mine, held_taken, resumed_taken, published_taken, done_taken, held_was}
use Rattle.nichols_shelf.proofs.Desks.{IsLike, desk_step, edges_stay}
use Rattle.nichols_shelf.proofs.SeatsKept.{Elsewhere, seats_step, made_stays, published_stays}
use Rattle.nichols_shelf.proofs.SlotsKept.{SameEdges, slots_kept}

like : (w : ℕ) (s : Stage) → IsLike s (stage_after_take w s)
like w s = record { done = done_taken w s; unparked = λ l. taken_parked s w l; parked = λ l e. ap (stage_after_take w) e; published = λ e. ap (stage_after_take w) e }

-- the desk word after the compare and exchange
desk_after : (w : ℕ) (s : Stage) → either (eqb (desk_word s) 0) 1 (desk_word s) ≡ desk_word (stage_after_take w s)
desk_after w Ready = refl
desk_after w (Held x) = refl
desk_after w (Parked x) = refl
desk_after w (Resumed x) = refl
desk_after w Published = refl

-- the list of held blocks after it
held_here : (w b : ℕ) (xs : List ℕ) (s : Stage) → is_in b xs ≡ is_held_by w s → is_in b (cond (eqb (desk_word s) 0) (b ∷ xs) xs) ≡ is_held_by w (stage_after_take w s)
held_here w b xs Ready e = ap (λ t. t || is_in b xs) (eq-eqb b b refl) ∙ sym (eq-eqb w w refl)
held_here w b xs (Held u) e = e
held_here w b xs (Parked u) e = e
held_here w b xs (Resumed u) e = e
held_here w b xs Published e = e

held_there : (c b : ℕ) (t : Bool) (xs : List ℕ) → c ≢ b → is_in c (cond t (b ∷ xs) xs) ≡ is_in c xs
held_there c b true xs n = ap (λ t. t || is_in c xs) (ne_eqb c b n)
held_there c b false xs n = refl

module _ (g : PlanValue) (s : Tableau) (m : Machine) (laws : SixLaws g.layout.edges m) (book : Book) (st : Stands g s m book)
    (id : ℕ) (v : View) (at : get_elem? s.views id ≡ some v) (live : v.live ≡ true) (b : ℕ) (inside : b < blocks g) where
  abbrev found : ℕ
  found = get_or s.words (desk_place b) 0

  abbrev v' : View
  v' = take_view b found v

  abbrev n : Machine
  n = take v.worker b m

  abbrev word : ℕ
  word = either (eqb found 0) 1 found

  found_is : found ≡ desk_word (m.stage b)
  found_is = st.words.desk b inside

  same_published : (c : ℕ) → is_published (n.stage c) ≡ is_published (m.stage c)
  same_published = put_same m.stage b (stage_after_take v.worker (m.stage b)) is_published (published_taken v.worker (m.stage b))

  same_made : (u c : ℕ) → is_made_by g n book.maker u c ≡ is_made_by g m book.maker u c
  same_made = made_stays g m n book.maker same_published

  still_published : (c : ℕ) → m.stage c ≡ Published → n.stage c ≡ Published
  still_published = published_stays g m n book.maker same_published

  elsewhere : Elsewhere g v.worker m n book.maker book.maker
  elsewhere = record {
    held = λ u c ne. put_same m.stage b (stage_after_take v.worker (m.stage b)) (is_held_by u) (held_taken v.worker u (m.stage b) ne) c;
    resumed = λ u c ne. put_same m.stage b (stage_after_take v.worker (m.stage b)) (is_resumed_by u) (resumed_taken v.worker u (m.stage b)) c;
    owed = λ u c ne. owed_of_other m.owes v.worker b false u c ne;
    published = still_published;
    made = λ u c ne. same_made u c;
  }

  mine : Knows g n book.seat book.maker id v'
  mine = let k = st.seats.knows id v at live in record {
    plan = k.plan;
    place = k.place;
    held = λ c. subst (λ (x : ℕ). is_in c (cond (eqb x 0) (b ∷ v.held) v.held) ≡ is_held_by v.worker (n.stage c)) (sym found_is)
        (put_is m.stage b (stage_after_take v.worker (m.stage b)) c (λ t. is_in c (cond (eqb (desk_word (m.stage b)) 0) (b ∷ v.held) v.held) ≡ is_held_by v.worker t)
        (λ e. subst (λ d. is_in d (cond (eqb (desk_word (m.stage b)) 0) (b ∷ v.held) v.held) ≡ is_held_by v.worker (stage_after_take v.worker (m.stage b))) (sym e) (held_here v.worker b v.held (m.stage b) (k.held b)))
        (λ ne. held_there c b (eqb (desk_word (m.stage b)) 0) v.held ne ∙ k.held c));
    resumed = λ c. k.resumed c ∙ sym (put_same m.stage b (stage_after_take v.worker (m.stage b)) (is_resumed_by v.worker) (resumed_taken v.worker v.worker (m.stage b)) c);
    owed = λ c. is_in-without c b v.owed ∙ ap (λ t. cond (eqb c b) false t) (k.owed c) ∙ sym (owed_of_mine m.owes v.worker b false c);
    known = λ c h. still_published c (k.known c h);
    made = λ c. k.made c ∙ ap one_if (sym (same_made v.worker c));
  }

  same_edges : SameEdges g m n book.maker book.maker book.drawn
  same_edges = record {
    laid = λ k. refl;
    picked = λ k. refl;
    tended = λ w c h. ⊎_elim
        (λ q. put_is m.stage b (stage_after_take v.worker (m.stage b)) c (λ t. t ≡ Held w → (tends g m book.maker w c ≡ true) ⊎ (NonePicked g.layout.edges m c × NoneLaid g.layout.edges m c))
        (λ e p. ⊎_elim (λ was. inl (or_left (is_held_by w (m.stage c)) (is_made_by g m book.maker w c) (true_held w (m.stage c) (ap m.stage e ∙ was))))
        (λ ready. inr (laws.untouched c (subst Rattle.nichols_core.specs.SixLaws.IsWaiting (sym (ap m.stage e ∙ ready)) tt)))
        (held_was v.worker w (m.stage b) p))
        (λ _ p. inl (or_left (is_held_by w (m.stage c)) (is_made_by g m book.maker w c) (true_held w (m.stage c) p)))
        (held_by w (n.stage c) q))
        (λ q. inl (or_right (is_held_by w (m.stage c)) (is_made_by g m book.maker w c) (sym (same_made w c) ∙ q)))
        (or_cases (is_held_by w (n.stage c)) (is_made_by g n book.maker w c) h);
    drawn_held = λ w k in_k d. let r = st.slots.away k in_k d in
        put_is m.stage b (stage_after_take v.worker (m.stage b)) (edge g k).lower (λ t. is_held_by w t ≡ is_held_by w (m.stage (edge g k).lower))
        (λ e. ap (λ t. is_held_by w (stage_after_take v.worker t)) (ap m.stage (sym e) ∙ r.held) ∙ ap (is_held_by w) (sym r.held))
        (λ _. refl);
  }

  pub take_stands : Stands g record { words = set s.words (desk_place b) word; homes = s.homes; views = set s.views id v' } n book
  take_stands = record {
    words = desk_step g s.words m st.words b inside word (stage_after_take v.worker (m.stage b)) (put_owed m.owes v.worker b false)
        (ap (λ (x : ℕ). either (eqb x 0) 1 x) found_is ∙ desk_after v.worker (m.stage b)) (like v.worker (m.stage b));
    seats = seats_step g s.views m n book.seat book.count book.first book.maker book.maker st.seats id v v' at live live refl refl refl elsewhere mine;
    slots = slots_kept g s.words (set s.words (desk_place b) word) s.homes s.homes s.views m n laws book.maker book.maker book.value book.drawn st.slots same_edges id v v' at live refl refl refl refl
        (λ k _. edges_stay g s.words m st.words b inside word (stage_after_take v.worker (m.stage b)) (put_owed m.owes v.worker b false) k) refl (λ k _ _. refl) (λ k _ x e. e);
  }

-- a block whose desk word is READY is untouched by the pass
pub untouched : (g : PlanValue) (s : Tableau) (m : Machine) → SixLaws g.layout.edges m → (book : Book) → Stands g s m book → (id : ℕ) (v : View) → get_elem? s.views id ≡ some v → v.live ≡ true
    → (b : ℕ) → b < blocks g → get_or s.words (desk_place b) 0 ≡ 0 → IsUntouched g b v
untouched g s m laws book st id v at live b inside is_ready =
    let ready = desk_ready (m.stage b) (sym (st.words.desk b inside) ∙ is_ready) in
    let waits : Rattle.nichols_core.specs.SixLaws.IsWaiting (m.stage b) = subst Rattle.nichols_core.specs.SixLaws.IsWaiting (sym ready) tt in
    let notes = st.slots.notes id v at live in
    record {
      unmade = (st.seats.knows id v at live).made b ∙ ap one_if (ap (λ t. nat_lt b (blocks g) && (is_published t && eqb (book.maker b) v.worker)) ready ∙ and-false (nat_lt b (blocks g)));
      unpicked = λ k in_k up. unnoted (noted_value k v.picked) (λ x is. true≢false (sym (notes.picked k x is).1 ∙ (laws.untouched b waits).0 k in_k up));
      unlaid = λ k in_k low. unnoted (noted_value k v.laid) (λ x is. true≢false (sym (notes.laid k x is).1 ∙ (laws.untouched b waits).1 k in_k low));
    }
  where
    desk_ready : (t : Stage) → desk_word t ≡ 0 → t ≡ Ready
    desk_ready Ready e = refl
    desk_ready (Held x) e = absurd (omega (arith, e))
    desk_ready (Parked x) e = absurd (omega (arith, e))
    desk_ready (Resumed x) e = absurd (omega (arith, e))
    desk_ready Published e = absurd (omega (arith, e))

    unnoted : (o : Option BlockValue) → ((x : BlockValue) → o ≡ Some x → ⊥) → o ≡ None
    unnoted None h = refl
    unnoted (Some x) h = absurd (h x refl)

pub take_allowed : (g : PlanValue) (slots id : ℕ) (me : Mine) (b : ℕ) → b < blocks g → me.0.live ≡ true → Allows (Holds g) slots id me (desk_place b) (λ x. either (eqb x 0) 1 x) (take_step (step slots (desk_place b) 0 1 none) me)
take_allowed g slots id me b inside live s h deep at word =
    let x = get_or s.words (desk_place b) 0 in
    let same : desk_place b - 1 ≡ b = omega arith in (
      take_view b x me.0,
      keeps,
      tt,
      record {
        machine = take me.0.worker b h.machine;
        book = h.book;
        rules = h.rules;
        laws = every_event_keeps_the_six_laws g.layout.edges (Take me.0.worker b) h.machine h.laws;
        stands = take_stands g s h.machine h.laws h.book h.stands id me.0 at live b inside;
      },
      (
        ap (λ d. (take_view d x me.0, me.1)) (sym same),
        λ is_ready _. subst (λ (p : PlanValue). IsUntouched p (desk_place b - 1) me.0) (sym (h.stands.seats.knows id me.0 at live).plan)
            (subst (λ d. IsUntouched g d me.0) (sym same) (untouched g s h.machine h.laws h.book h.stands id me.0 at live b inside is_ready)),
      ),
    )
