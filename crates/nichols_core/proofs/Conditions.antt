-- The test of a condition is what the condition asks, and what an event does whose condition holds.
use Rattle.std.proofs.Common.{◌≡◌, ℕ, Bool, true, false, eqb, not, ◌&&◌, ◌||◌, List, length, refl, ap, ◌∙◌, eq-eqb, ne_eqb}
use Rattle.std.specs.Prelude.{Option, Some}
use Rattle.std.proofs.lemmas.Bool.{and_from, cond-true}
use mathlib.Core.Logic.{dite}
use native.Mathlib.Decide.{ℕ_discrete}
use Rattle.nichols_core.specs.declared.edge.Edge.{Edge}
use Rattle.nichols_core.specs.declared.event.Event.{Event}
use Rattle.nichols_core.specs.declared.event.Event.TheVariants.{Take, Ask, Pick, Lay, Publish, Release}
use Rattle.nichols_core.specs.declared.stage.Stage.{Stage}
use Rattle.nichols_core.specs.declared.stage.Stage.TheVariants.{Held, Resumed, Published}
use Rattle.nichols_core.specs.Layout.{LayoutValue, IsLayout, edge_at, edge_into, edge_out}
use Rattle.nichols_core.specs.Machine.{Machine, none_picked, all_picked, all_laid, some_edge, by_edge, is_held_by, is_resumed_by, is_published, can, effect, after, ask, pick, lay, publish, release}
use Rattle.nichols_core.specs.SixLaws.{AllPicked, NonePicked, AllLaid}
use Rattle.nichols_core.specs.Conditions.{IsInto, IsOutOf, Allows, AConditionIsWhatItAsks}
use Rattle.nichols_core.proofs.Stages.{true_every}
use Rattle.nichols_core.proofs.EdgesFound.{into_is, out_is, into_found, out_found, found_some}
use Rattle.nichols_core.proofs.Passes.{Passes, passes}

-- the tests over all edges, from the facts
pub true_or : (a b : ℕ) (p : Bool) → (a ≡ b → p ≡ true) → (not (eqb a b) || p) ≡ true
true_or a b p h =
    dite (ℕ_discrete a b)
    (λ e. ap (λ t. not t || p) (eq-eqb a b e) ∙ h e)
    (λ n. ap (λ t. not t || p) (ne_eqb a b n))

pub true_nand : (a b : ℕ) (p : Bool) → (a ≡ b → p ≡ false) → not (eqb a b && p) ≡ true
true_nand a b p h =
    dite (ℕ_discrete a b)
    (λ e. ap (λ t. not (t && p)) (eq-eqb a b e) ∙ ap not (h e))
    (λ n. ap (λ t. not (t && p)) (ne_eqb a b n))

true_all_picked : (es : List Edge) (m : Machine) (b : ℕ) → AllPicked es m b → all_picked es m.picked b ≡ true
true_all_picked es m b h = true_every (length es) (λ k. not (eqb (edge_at es k).upper b) || m.picked k) (λ k inside. true_or (edge_at es k).upper b (m.picked k) (h k inside))

true_all_laid : (es : List Edge) (m : Machine) (b : ℕ) → AllLaid es m b → all_laid es m.laid b ≡ true
true_all_laid es m b h = true_every (length es) (λ k. not (eqb (edge_at es k).lower b) || m.laid k) (λ k inside. true_or (edge_at es k).lower b (m.laid k) (h k inside))

true_none_picked : (es : List Edge) (m : Machine) (b : ℕ) → NonePicked es m b → none_picked es m.picked b ≡ true
true_none_picked es m b h = true_every (length es) (λ k. not (eqb (edge_at es k).upper b && m.picked k)) (λ k inside. true_nand (edge_at es k).upper b (m.picked k) (h k inside))

pub true_held : (w : ℕ) (s : Stage) → s ≡ Held w → is_held_by w s ≡ true
true_held w s e = ap (is_held_by w) e ∙ eq-eqb w w refl

pub true_resumed : (w : ℕ) (s : Stage) → s ≡ Resumed w → is_resumed_by w s ≡ true
true_resumed w s e = ap (is_resumed_by w) e ∙ eq-eqb w w refl

-- an edge that is found is one of its letter
allowed : (es : List Edge) (m : Machine) (event : Event) → Passes es event m → Allows es event m
allowed es m (Take w b) h = tt
allowed es m (Ask w b a) h = (h.0, (h.1.0, into_is es b a h.1.0 h.1.1), h.2)
allowed es m (Pick w b a) h = (h.0, (h.1.0, (into_is es b a h.1.0 h.1.1.0, h.1.1.1, h.1.1.2, h.1.1.3)))
allowed es m (Lay w b a) h = (h.0, h.1, (h.2.0, (out_is es b a h.2.0 h.2.1.0, h.2.1.1)))
allowed es m (Publish w b) h = h
allowed es m (Release w b) h = h

module _ (l : LayoutValue) (rules : IsLayout l) (m : Machine) where
  -- where an event is allowed its test passes
  pub possible : (event : Event) → Allows l.edges event m → can l.edges event m ≡ true
  possible (Take w b) h = refl
  possible (Ask w b a) h =
      let found = some_edge (edge_into l.edges b a) (λ k. true) in
      and_from (is_held_by w (m.stage b) && found) (none_picked l.edges m.picked b)
      (and_from (is_held_by w (m.stage b)) found (true_held w (m.stage b) h.0) (found_some (edge_into l.edges b a) (λ k. true) h.1.0 (into_found l rules b a h.1.0 h.1.1) refl))
      (true_none_picked l.edges m b h.2)
  possible (Pick w b a) h =
      let test : ℕ → Bool = λ k. is_published (m.stage (edge_at l.edges k).lower) && m.laid k && not (m.picked k) in
      let k = h.1.0 in
      let low = is_published (m.stage (edge_at l.edges k).lower) in
      and_from (is_held_by w (m.stage b)) (some_edge (edge_into l.edges b a) test) (true_held w (m.stage b) h.0)
      (found_some (edge_into l.edges b a) test k (into_found l rules b a k h.1.1.0)
      (and_from (low && m.laid k) (not (m.picked k)) (and_from low (m.laid k) (ap is_published h.1.1.1) h.1.1.2) (ap not h.1.1.3)))
  possible (Lay w b a) h =
      let test : ℕ → Bool = λ k. not (m.laid k) in
      let k = h.2.0 in
      and_from (is_held_by w (m.stage b) && all_picked l.edges m.picked b) (some_edge (edge_out l.edges b a) test)
      (and_from (is_held_by w (m.stage b)) (all_picked l.edges m.picked b) (true_held w (m.stage b) h.0) (true_all_picked l.edges m b h.1))
      (found_some (edge_out l.edges b a) test k (out_found l rules b a k h.2.1.0) (ap not h.2.1.1))
  possible (Publish w b) h =
      and_from (is_held_by w (m.stage b) && all_picked l.edges m.picked b) (all_laid l.edges m.laid b)
      (and_from (is_held_by w (m.stage b)) (all_picked l.edges m.picked b) (true_held w (m.stage b) h.0) (true_all_picked l.edges m b h.1))
      (true_all_laid l.edges m b h.2)
  possible (Release w b) h = true_resumed w (m.stage b) h

pub a_condition_is_what_it_asks : AConditionIsWhatItAsks
a_condition_is_what_it_asks l rules event m = ((λ h. allowed l.edges m event (passes l.edges m event h)), possible l rules m event)

-- What an event does whose condition holds, with the edge given by its number.
module _ (l : LayoutValue) (rules : IsLayout l) (m : Machine) where
  applied : (event : Event) → Allows l.edges event m → after l.edges event m ≡ effect l.edges event m
  applied event h = cond-true (can l.edges event m) (effect l.edges event m) m (possible l rules m event h)

  by_found : (at : Option ℕ) (f : ℕ → Machine → Machine) (k : ℕ) → at ≡ Some k → by_edge at f m ≡ f k m
  by_found at f k is = ap (λ o. by_edge o f m) is

  pub after_ask : (w b a k : ℕ) → m.stage b ≡ Held w → IsInto l.edges b a k → NonePicked l.edges m b → after l.edges (Ask w b a) m ≡ ask b (edge_at l.edges k).lower m
  after_ask w b a k held at none =
      applied (Ask w b a) (held, (k, at), none)
      ∙ by_found (edge_into l.edges b a) (λ j. ask b (edge_at l.edges j).lower) k (into_found l rules b a k at)

  pub after_pick : (w b a k : ℕ) → m.stage b ≡ Held w → IsInto l.edges b a k → m.stage (edge_at l.edges k).lower ≡ Published → m.laid k ≡ true → m.picked k ≡ false → after l.edges (Pick w b a) m ≡ pick k m
  after_pick w b a k held at low laid yet = applied (Pick w b a) (held, (k, (at, low, laid, yet))) ∙ by_found (edge_into l.edges b a) pick k (into_found l rules b a k at)

  pub after_lay : (w b a k : ℕ) → m.stage b ≡ Held w → AllPicked l.edges m b → IsOutOf l.edges b a k → m.laid k ≡ false → after l.edges (Lay w b a) m ≡ lay k m
  after_lay w b a k held full at yet = applied (Lay w b a) (held, full, (k, (at, yet))) ∙ by_found (edge_out l.edges b a) lay k (out_found l rules b a k at)

  pub after_publish : (w b : ℕ) → m.stage b ≡ Held w → AllPicked l.edges m b → AllLaid l.edges m b → after l.edges (Publish w b) m ≡ publish w b m
  after_publish w b held full spread = applied (Publish w b) (held, full, spread)

  pub after_release : (w b : ℕ) → m.stage b ≡ Resumed w → after l.edges (Release w b) m ≡ release w b m
  after_release w b was = applied (Release w b) was
