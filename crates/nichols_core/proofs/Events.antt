-- Every event keeps the six laws.
use Rattle.std.proofs.Common.{◌≡◌, ℕ, Bool, true, false, cond, List, refl, sym, ap, ◌∙◌, subst}
use Rattle.std.specs.Prelude.{Option, Some}
use Rattle.nichols_core.specs.declared.edge.Edge.{Edge}
use Rattle.nichols_core.specs.declared.event.Event.{Event}
use Rattle.nichols_core.specs.declared.event.Event.TheVariants.{Take, Ask, Pick, Lay, Publish, Release}
use Rattle.nichols_core.specs.Layout.{edge_at, edge_into, edge_out}
use Rattle.nichols_core.specs.Machine.{Machine, by_edge, can, effect, after, ask, pick, lay}
use Rattle.nichols_core.specs.SixLaws.{AllPicked}
use Rattle.nichols_core.specs.Runs.{EveryEventKeepsTheSixLaws}
use Rattle.nichols_core.proofs.EdgesFound.{into_is, out_is}
use Rattle.nichols_core.proofs.Passes.{Passes, passes}
use Rattle.nichols_core.proofs.LawsKept.{Core, core, whole, take_keeps, ask_keeps, pick_keeps, lay_keeps, publish_keeps, release_keeps}

module _ (es : List Edge) (m : Machine) (laws : Core es m) where
  -- what an edge that was found does to the state
  by_found : (at : Option ℕ) (f : ℕ → Machine → Machine) (k : ℕ) → at ≡ Some k → Core es (f k m) → Core es (by_edge at f m)
  by_found at f k is = subst (Core es) (sym (ap (λ o. by_edge o f m) is))

  effect_keeps : (event : Event) → Passes es event m → Core es (effect es event m)
  effect_keeps (Take w b) h = take_keeps es m w b laws
  effect_keeps (Ask w b a) h =
      let k = h.1.0 in
      let at = into_is es b a k h.1.1 in
      by_found (edge_into es b a) (λ j. ask b (edge_at es j).lower) k h.1.1
      (ask_keeps es m w b (edge_at es k).lower laws h.0 h.2 (record { number = k; inside = at.inside; lower = refl; upper = at.upper }))
  effect_keeps (Pick w b a) h =
      let k = h.1.0 in
      let at = into_is es b a k h.1.1.0 in
      by_found (edge_into es b a) pick k h.1.1.0 (pick_keeps es m w k laws at.inside (ap m.stage at.upper ∙ h.0) h.1.1.1)
  effect_keeps (Lay w b a) h =
      let k = h.2.0 in
      let at = out_is es b a k h.2.1.0 in
      by_found (edge_out es b a) lay k h.2.1.0 (lay_keeps es m w k laws at.inside (ap m.stage at.lower ∙ h.0) (subst (AllPicked es m) (sym at.lower) h.1))
  effect_keeps (Publish w b) h = publish_keeps es m w b laws h.0 h.1 h.2
  effect_keeps (Release w b) h = release_keeps es m w b laws h

  applied_keeps : (t : Bool) (n : Machine) → (t ≡ true → Core es n) → Core es (cond t n m)
  applied_keeps true n keeps = keeps refl
  applied_keeps false n keeps = laws

pub every_event_keeps_the_six_laws : EveryEventKeepsTheSixLaws
every_event_keeps_the_six_laws es event m laws =
    let five : Core es m = core es m laws in
    whole es (after es event m) (applied_keeps es m five (can es event m) (effect es event m) (λ h. effect_keeps es m five event (passes es m event h)))
