-- What State owes: the marks have a place for each worker and block in range, and an event keeps the state's invariant.
use Rattle.std.proofs.Common.{◌≡◌, ℕ, ◌+◌, ◌*◌, ◌<◌, ◌≤◌, Bool, length, sym, ap, ◌∙◌, subst, arith}
use Rattle.std.proofs.Math.Nat.{mul-le-mul_right}
use Rattle.nichols_core.specs.declared.event.Event.{Event}
use Rattle.nichols_core.specs.declared.event.Event.TheVariants.{Take, Ask, Pick, Lay, Publish, Release}
use Rattle.nichols_core.specs.Layout.{LayoutValue, IsLayout}
use Rattle.nichols_core.specs.Runs.{start}
use Rattle.nichols_core.specs.SixLaws.{SixLaws}
use Rattle.nichols_core.specs.States.{StateValue, MarksValue, machine_in, AreOver, IsState, IsWithin, IsInRange, HavePlace, Applies, worker_of, block_of}
use Rattle.nichols_core.proofs.Events.{every_event_keeps_the_six_laws}
use Rattle.nichols_core.proofs.RunsKept.{start_meets_laws}

pub have_place : (s : StateValue) (w b : ℕ) → IsState s → IsWithin s w b → HavePlace s.marks w b
have_place s w b kept within =
    let n : ℕ = length s.marks.stages in
    let inside : b < n = subst (λ k. b < k) (sym kept.marks.edges.stages) within.1 in
    let below : w + 1 ≤ s.workers = omega (arith, within.0) in
    let rows : (w + 1) * n ≤ s.workers * n = mul-le-mul_right n below in
    let all = kept.marks.owed in
    record { stage = inside; owed = omega arith }

pub have_place_of : (s : StateValue) (event : Event) → IsState s → IsInRange s event → HavePlace s.marks (worker_of event) (block_of event)
have_place_of s (Take w b) kept within = have_place s w b kept within
have_place_of s (Ask w b a) kept within = have_place s w b kept within.0
have_place_of s (Pick w b a) kept within = have_place s w b kept within.0
have_place_of s (Lay w b a) kept within = have_place s w b kept within.0
have_place_of s (Publish w b) kept within = have_place s w b kept within
have_place_of s (Release w b) kept within = have_place s w b kept within

pub state_kept : (s : StateValue) (event : Event) (marks : MarksValue) (answer : Bool) → IsState s → Applies s.layout.edges event s.marks marks answer → IsState (record s { marks = marks })
state_kept s event marks answer kept applies =
    let same = applies.lengths in
    record {
      layout = kept.layout;
      marks = record {
        edges = record { stages = same.stages ∙ kept.marks.edges.stages; laid = same.laid ∙ kept.marks.edges.laid; picked = same.picked ∙ kept.marks.edges.picked };
        owed = same.owed ∙ (kept.marks.owed ∙ ap (λ n. s.workers * n) (sym same.stages));
      };
      laws = subst (SixLaws s.layout.edges) (sym applies.state_is) (every_event_keeps_the_six_laws s.layout.edges event _ kept.laws);
    }

pub start_is_state : (l : LayoutValue) (workers : ℕ) (marks : MarksValue) → IsLayout l → AreOver l workers marks → machine_in marks ≡ start (length l.degrees)
    → IsState (record { layout = l; workers = workers; marks = marks })
start_is_state l workers marks rules over is = record { layout = rules; marks = over; laws = subst (SixLaws l.edges) (sym is) (start_meets_laws l rules) }
