-- The table as it ends.
use Rattle.std.proofs.Common.{◌≡◌, ◌≢◌, ℕ, ◌<◌, Bool, true, false, true≢false, eqb, ◌&&◌, List, get_or, refl, sym, ap, ◌∙◌, subst, lt-ltb, eq-eqb, arith, Option}
use Rattle.std.specs.Prelude.{nat_lt}
use Rattle.std.specs.Int.{bit_at}
use Rattle.std.proofs.lemmas.Bool.{false_from_ne_true, le-ltb, or_right, and_parts}
use mathlib.Core.Option.{some}
use mathlib.Core.Logic.{dite}
use native.Mathlib.Decide.{ℕ_discrete}
use lib.ListN.{get_elem?}
use Rattle.atomic_table.specs.Table.{Final, Seen}
use Rattle.nichols_core.specs.declared.stage.Stage.{Stage}
use Rattle.nichols_core.specs.declared.stage.Stage.TheVariants.{Ready, Held, Parked, Resumed, Published}
use Rattle.nichols_core.specs.Machine.{Machine, is_held_by, is_published}
use Rattle.nichols_core.specs.Runs.{one_if}
use Rattle.nichols_core.proofs.Stages.{published}
use Rattle.nichols_core.proofs.RunsKept.{where_nothing_is_owed_all_is_published}
use Rattle.nichols_core.proofs.Conditions.{true_held, true_resumed}
use Rattle.nichols_value.specs.declared.shared.Shared.{Shared}
use Rattle.nichols_shelf.specs.Plan.{PlanValue, IsRightFor}
use Rattle.nichols_shelf.specs.Lists.{is_in, times_in}
use Rattle.nichols_shelf.specs.Places.{blocks, edge, wait_place}
use Rattle.nichols_shelf.specs.Words.{done_bit}
use Rattle.nichols_shelf.specs.Seats.{is_made_by, concerns, Knows, Lives}
use Rattle.nichols_shelf.specs.Slots.{Notes}
use Rattle.nichols_shelf.specs.Stands.{Tableau, Holds}
use Rattle.nichols_shelf.specs.Settled.{HoldsNothing, ResumesNothing, OwesNothing, IsSettled}
use Rattle.nichols_shelf.specs.declared.view.View.{View}
use Rattle.nichols_shelf.proofs.SeatsKept.{concerns_held, concerns_resumed, concerns_owed, concerns_made}

-- the last bits of the wait words say which blocks the pass made
abbrev pub SayWhatIsMade : PlanValue → List ℕ → View → Type 0
SayWhatIsMade g words v = (b : ℕ) → b < blocks g → bit_at (get_or words (wait_place g b) 0) 63 ≡ times_in b v.made

module _ (g : PlanValue) (s : Tableau) (h : Holds g s) (id : ℕ) (v : View) (at : get_elem? s.views id ≡ some v) (live : v.live ≡ true) (zeroth : v.worker ≡ 0) (all : v.joined ≡ v.passes) where
  abbrev m : Machine
  m = h.machine

  abbrev maker : ℕ → ℕ
  maker = h.book.maker

  abbrev k : Knows g m h.book.seat maker id v
  k = h.stands.seats.knows id v at live

  -- no other worker is left
  alone : (w j : ℕ) → Lives s.views w j → w ≡ 0
  alone w j x = dite (ℕ_discrete w 0) (λ e. e)
      (λ ne. absurd (let n = (h.stands.seats.numbers id v at live).zeroth zeroth in let o = (h.stands.seats.numbers j x.view x.there x.live).others (λ e. ne (sym x.worker ∙ e)) in let q = x.worker in omega arith))

  alone_concerned : (w b : ℕ) → concerns g m maker w b ≡ true → w ≡ v.worker
  alone_concerned w b c = alone w (h.book.seat w) (h.stands.seats.concerned w b c) ∙ sym zeroth

  -- a published block was made by this worker
  published_is_made : (b : ℕ) → b < blocks g → is_made_by g m maker v.worker b ≡ is_published (m.stage b)
  published_is_made b inside = two (is_published (m.stage b)) refl
    where
      two : (t : Bool) → is_published (m.stage b) ≡ t → is_made_by g m maker v.worker b ≡ t
      two true is =
          let made : is_made_by g m maker (maker b) b ≡ true = λ i. lt-ltb b (blocks g) inside i && (is i && eq-eqb (maker b) (maker b) refl i) in
          let mine = alone_concerned (maker b) b (concerns_made g m maker (maker b) b made) in
          ap (λ w. is_made_by g m maker w b) (sym mine) ∙ made
      two false is = (λ i. lt-ltb b (blocks g) inside i && (is i && eqb (maker b) v.worker))

  times_are : (b : ℕ) → b < blocks g → times_in b v.made ≡ one_if (is_published (m.stage b))
  times_are b inside = k.made b ∙ ap one_if (published_is_made b inside)

  bit_is : (t : Stage) → done_bit t ≡ one_if (is_published t)
  bit_is Ready = refl
  bit_is (Held x) = refl
  bit_is (Parked x) = refl
  bit_is (Resumed x) = refl
  bit_is Published = refl

  module _ (no_held : HoldsNothing v) (no_resumed : ResumesNothing v) where
    idle : (b w : ℕ) → is_in b v.owed ≡ false → (m.stage b ≢ Held w) × (m.stage b ≢ Resumed w) × (m.owes w b ≡ false)
    idle b w unowed = (
      (λ e. let z = alone_concerned w b (concerns_held g m maker w b (true_held w (m.stage b) e)) in
          true≢false (sym (true_held v.worker (m.stage b) (e ∙ ap (λ y. Held y) z)) ∙ (sym (k.held b) ∙ no_held b))),
      (λ e. let z = alone_concerned w b (concerns_resumed g m maker w b (true_resumed w (m.stage b) e)) in
          true≢false (sym (true_resumed v.worker (m.stage b) (e ∙ ap (λ y. Resumed y) z)) ∙ (sym (k.resumed b) ∙ no_resumed b))),
      false_from_ne_true (m.owes w b) (λ e. let z = alone_concerned w b (concerns_owed g m maker w b e) in
          true≢false (sym (k.owed b ∙ ap (λ y. m.owes y b) (sym z) ∙ e) ∙ unowed)),
    )

    all_published : OwesNothing v → (b : ℕ) → b < blocks g → m.stage b ≡ Published
    all_published unowed b inside = where_nothing_is_owed_all_is_published g.layout h.rules m h.laws
        (λ c in_c w. idle c w (unowed c (subst (λ (p : PlanValue). c < blocks p) (sym k.plan) in_c))) b inside

    pub say_what_is_made : SayWhatIsMade g s.words v
    say_what_is_made b inside = h.stands.words.done b inside ∙ (bit_is (m.stage b) ∙ sym (times_are b inside))

    pub settled : IsSettled g v
    settled = record {
      all = λ unowed b inside. times_are b inside ∙ ap (λ t. one_if (is_published t)) (all_published unowed b inside);
      nothing_else = λ b beyond. k.made b ∙ ap (λ t. one_if (t && (is_published (m.stage b) && eqb (maker b) v.worker))) (le-ltb b (blocks g) beyond);
      values = λ j in_j made.
          let low = (edge g j).lower in
          let tended = made_true (is_made_by g m maker v.worker low) (sym (k.made low) ∙ made) in
          let is = published (m.stage low) (and_parts (is_published (m.stage low)) (eqb (maker low) v.worker) (and_parts (nat_lt low (blocks g)) (is_published (m.stage low) && eqb (maker low) v.worker) tended).1).0 in
          notes.lays j in_j (or_right (is_held_by v.worker (m.stage low)) (is_made_by g m maker v.worker low) tended) ((h.laws.published low is).1 j in_j refl);
      right = λ j x e. let p = notes.laid j x e in subst (IsRightFor g (edge g j).lower) (sym p.2) (h.stands.slots.right j p.0 p.1);
      equal = λ i j x y same e f. (notes.laid i x e).2 ∙ ap h.book.value same ∙ sym (notes.laid j y f).2;
    }
      where
        notes : Notes g m maker h.book.value h.book.drawn v
        notes = h.stands.slots.notes id v at live

        made_true : (t : Bool) → one_if t ≡ 1 → t ≡ true
        made_true true e = refl
        made_true false e = absurd (omega arith)

pub closes : (g : PlanValue) (id : ℕ) (v : View) (ws : List ℕ) (xs : List (Option Shared)) → Final (Seen (Holds g) id v) ws xs → v.live ≡ true → v.worker ≡ 0 → v.joined ≡ v.passes → HoldsNothing v → ResumesNothing v
    → SayWhatIsMade g ws v × IsSettled g v
closes g id v ws xs final live zeroth all no_held no_resumed = (
  subst (λ (y : List ℕ). SayWhatIsMade g y v) final.2 (say_what_is_made g final.0 final.1.0 id v final.1.1 live zeroth all no_held no_resumed),
  settled g final.0 final.1.0 id v final.1.1 live zeroth all no_held no_resumed,
)
