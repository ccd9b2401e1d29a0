-- A table stands for one state, and its live views for one plan, and for worker numbers of their own.
use mathlib.Core.Option as table
use Rattle.std.proofs.Common.{◌≡◌, ◌≢◌, ℕ, List, Option, ◌<◌, Bool, true, false, cond, eqb, ltb, refl, sym, ap, ◌∙◌, subst, eq-eqb, ne_eqb, arith}
use Rattle.std.proofs.lemmas.Bool.{eqb-true, ltb-true}
use mathlib.Core.Logic.{dite}
use native.Mathlib.Decide.{ℕ_discrete}
use Rattle.nichols_tensor.proofs.Tests.{same_answer}
use Rattle.nichols_core.specs.Layout.{IsLayout}
use Rattle.nichols_core.specs.Machine.{Machine, is_held_by, is_resumed_by}
use Rattle.nichols_core.specs.SixLaws.{SixLaws}
use Rattle.nichols_core.specs.declared.stage.Stage.{Stage}
use Rattle.nichols_core.specs.declared.stage.Stage.TheVariants.{Ready, Held, Parked, Resumed, Published}
use Rattle.nichols_core.proofs.Stages.{held_by, resumed_by}
use Rattle.nichols_core.proofs.Conditions.{true_held, true_resumed}
use Rattle.nichols_shelf.specs.Plan.{PlanValue}
use Rattle.nichols_shelf.specs.Places.{blocks, edges, edge}
use Rattle.nichols_shelf.specs.Passes.{stands_for}
use Rattle.nichols_shelf.specs.Words.{desk_word, done_bit}
use Rattle.nichols_shelf.specs.Seats.{Knows, Lives}
use Rattle.nichols_shelf.specs.Slots.{edge_code}
use Rattle.nichols_shelf.specs.Stands.{Book, Stands}
use Rattle.nichols_shelf.specs.Laws.{ATableStandsForOneState, LiveViewsHoldThePlan, WorkerNumbersAreApart}
use Rattle.nichols_value.specs.declared.shared.Shared.{Shared}
use Rattle.nichols_shelf.specs.declared.view.View.{View}
use Rattle.nichols_shelf.proofs.Edges.{placed}
use Rattle.nichols_shelf.proofs.StageTests.{done_is, ready_is}
use Rattle.nichols_shelf.proofs.SeatsKept.{concerns_held, concerns_resumed, concerns_owed}

-- what the word of an edge tells
picked_code : (drawn laid picked : Bool) → eqb (edge_code drawn laid picked) 3 ≡ picked
picked_code d l true = refl
picked_code d true false = refl
picked_code true false false = refl
picked_code false false false = refl

laid_code : (drawn laid picked : Bool) → (picked ≡ true → laid ≡ true) → ltb 1 (edge_code drawn laid picked) ≡ laid
laid_code d true true h = refl
laid_code d false true h = sym (h refl)
laid_code d true false h = refl
laid_code true false false h = refl
laid_code false false false h = refl

-- what one state says the other says too
module _ (g : PlanValue) (rules : IsLayout g.layout) (words : List ℕ) (views : List View) (hs hs' : List (table.Option (Option Shared))) (m n : Machine) (laws : SixLaws g.layout.edges m) (book other : Book) (st : Stands g record { words = words; homes = hs; views = views } m book) (su : Stands g record { words = words; homes = hs'; views = views } n other) where
  -- the view of a worker who is about a block, in the two states
  this : (w : ℕ) → (l : Lives views w (book.seat w)) → Knows g m book.seat book.maker (book.seat w) l.view
  this w l = st.seats.knows (book.seat w) l.view l.there l.live

  that : (w : ℕ) → (l : Lives views w (book.seat w)) → Knows g n other.seat other.maker (book.seat w) l.view
  that w l = su.seats.knows (book.seat w) l.view l.there l.live

  owes_too : (w b : ℕ) → m.owes w b ≡ true → n.owes w b ≡ true
  owes_too w b e =
      let l = st.seats.concerned w b (concerns_owed g m book.maker w b e) in
      ap (λ u. n.owes u b) (sym l.worker) ∙ sym ((that w l).owed b) ∙ (this w l).owed b ∙ ap (λ u. m.owes u b) l.worker ∙ e

  holds_too : (w b : ℕ) → m.stage b ≡ Held w → n.stage b ≡ Held w
  holds_too w b e =
      let held = true_held w (m.stage b) e in
      let l = st.seats.concerned w b (concerns_held g m book.maker w b held) in
      held_by w (n.stage b) (ap (λ u. is_held_by u (n.stage b)) (sym l.worker) ∙ sym ((that w l).held b) ∙ (this w l).held b ∙ ap (λ u. is_held_by u (m.stage b)) l.worker ∙ held)

  resumes_too : (w b : ℕ) → m.stage b ≡ Resumed w → n.stage b ≡ Resumed w
  resumes_too w b e =
      let resumed = true_resumed w (m.stage b) e in
      let l = st.seats.concerned w b (concerns_resumed g m book.maker w b resumed) in
      resumed_by w (n.stage b) (ap (λ u. is_resumed_by u (n.stage b)) (sym l.worker) ∙ sym ((that w l).resumed b) ∙ (this w l).resumed b ∙ ap (λ u. is_resumed_by u (m.stage b)) l.worker ∙ resumed)

  same_done : (b : ℕ) → b < blocks g → done_bit (m.stage b) ≡ done_bit (n.stage b)
  same_done b inside = sym (st.words.done b inside) ∙ su.words.done b inside

  parked_too : (b low : ℕ) → m.stage b ≡ Parked low → n.stage b ≡ Parked low
  parked_too b low e =
      let k = st.words.parked b low e in
      let low_in : low < blocks g = subst (λ c. c < blocks g) k.lower (placed g rules k.number k.inside).lower in
      let yet : n.stage (edge g k.number).lower ≢ Published = λ q. (laws.parked b low e).1 (done_is (m.stage low) (same_done low low_in ∙ ap done_bit (ap n.stage (sym k.lower) ∙ q))) in
      ap n.stage (sym k.upper) ∙ su.words.waits k.number k.inside yet k.bit ∙ ap Parked k.lower

  same_stage : (b : ℕ) → b < blocks g → (t : Stage) → m.stage b ≡ t → n.stage b ≡ t
  same_stage b inside Ready e = ready_is (n.stage b) (sym (su.words.desk b inside) ∙ st.words.desk b inside ∙ ap desk_word e)
  same_stage b inside (Held w) e = holds_too w b e
  same_stage b inside (Parked low) e = parked_too b low e
  same_stage b inside (Resumed w) e = resumes_too w b e
  same_stage b inside Published e = done_is (n.stage b) (sym (same_done b inside) ∙ ap done_bit e)

  same_code : (k : ℕ) → k < edges g → edge_code (book.drawn k) (m.laid k) (m.picked k) ≡ edge_code (other.drawn k) (n.laid k) (n.picked k)
  same_code k inside = sym (st.slots.code k inside) ∙ su.slots.code k inside

pub a_table_stands_for_one_state : ATableStandsForOneState
a_table_stands_for_one_state g s t m n same_words same_views rules laws laws' a (other, at) =
    let b : Stands g record { words = s.words; homes = t.homes; views = s.views } n other =
    subst (λ ws. Stands g record { words = ws; homes = t.homes; views = s.views } n other) same_words (subst (λ vs. Stands g record { words = t.words; homes = t.homes; views = vs } n other) same_views at) in
    let codes = same_code g rules s.words s.views s.homes t.homes m n laws a.0 other a.1 b in
    record {
      stage = λ c inside. sym (same_stage g rules s.words s.views s.homes t.homes m n laws a.0 other a.1 b c inside (m.stage c) refl);
      owes = λ w c. same_answer (m.owes w c) (n.owes w c) (owes_too g rules s.words s.views s.homes t.homes m n laws a.0 other a.1 b w c) (owes_too g rules s.words s.views t.homes s.homes n m laws' other a.0 b a.1 w c);
      laid = λ k inside. sym (laid_code (a.0.drawn k) (m.laid k) (m.picked k) (λ p. (laws.picked k inside p).0)) ∙ ap (ltb 1) (codes k inside)
          ∙ laid_code (other.drawn k) (n.laid k) (n.picked k) (λ p. (laws'.picked k inside p).0);
      picked = λ k inside. sym (picked_code (a.0.drawn k) (m.laid k) (m.picked k)) ∙ ap (λ c. eqb c 3) (codes k inside) ∙ picked_code (other.drawn k) (n.laid k) (n.picked k);
    }

pub live_views_hold_the_plan : LiveViewsHoldThePlan
live_views_hold_the_plan g s h id v at live = (h.stands.seats.knows id v at live).plan

-- for whom a view stands
below_joined : (v : View) (w : ℕ) → v.worker ≡ 0 → stands_for v w ≡ true → w < v.joined
below_joined v w zero e = ltb-true w v.joined (sym (ap (λ t. cond t (ltb w v.joined) (eqb w v.worker)) (eq-eqb v.worker 0 zero)) ∙ e)

its_own : (v : View) (w : ℕ) → v.worker ≢ 0 → stands_for v w ≡ true → w ≡ v.worker
its_own v w other e = eqb-true w v.worker (sym (ap (λ t. cond t (ltb w v.joined) (eqb w v.worker)) (ne_eqb v.worker 0 other)) ∙ e)

pub worker_numbers_are_apart : WorkerNumbersAreApart
worker_numbers_are_apart g s h i j u v at alive there lives w p q =
    let seats = h.stands.seats in
    let nu = seats.numbers i u at alive in
    let nv = seats.numbers j v there lives in
    let same : u.worker ≡ v.worker = dite (ℕ_discrete u.worker 0)
    (λ zu. dite (ℕ_discrete v.worker 0)
    (λ zv. zu ∙ sym zv)
    (λ ov. absurd (let a = below_joined u w zu p in let b = (nu.zeroth zu).1 in let c = its_own v w ov q in let d = (nv.others ov).0 in omega arith)))
    (λ ou. dite (ℕ_discrete v.worker 0)
    (λ zv. absurd (let a = below_joined v w zv q in let b = (nv.zeroth zv).1 in let c = its_own u w ou p in let d = (nu.others ou).0 in omega arith))
    (λ ov. sym (its_own u w ou p) ∙ its_own v w ov q)) in
    sym (seats.knows i u at alive).place ∙ ap h.book.seat same ∙ (seats.knows j v there lives).place
