use Rattle.std.proofs.Common.{arith, ◌≡◌, ◌<◌, length, get_or, set, true, false, subst, sym, ap, ◌∙◌}
use Rattle.nichols_core.specs.declared.edge.Edge.{Edge}
use Rattle.nichols_core.specs.Layout.{LayoutValue}
use Rattle.nichols_core.specs.Conditions.{IsInto}
use Rattle.nichols_core.proofs.EdgesFound.{into_is}
use Rattle.nichols_value.specs.Worth.{worth}
use Rattle.nichols_shelf.specs.Plan.{PlanValue}
use Rattle.nichols_shelf.specs.Places.{blocks, edges}
use Rattle.nichols_shelf.specs.Views.{pick_view}
use Rattle.nichols_shelf.specs.Played.{Mirrors}
use Rattle.nichols_shelf.specs.declared.view.View.{View}
use Rattle.nichols_shelf.proofs.Mirrored.{one_in, read_mark, may_pick, mirror_pick, held_read}
use Rattle.nichols_shelf.proofs.tests.player.Player.pick.Goals as goal

pub pick-value-requires-clause-may : goal.pick-value-requires-clause-may
pick-value-requires-clause-may c =
    let s = c.args.self.now in
    let v = s.pass.place.me.0 in
    let l = c.layout-layout.result.now in
    let b = c.args.block in
    let same = c.requires.shelf.1 in
    let n = c.in_ok-number.number in
    let held = sym (held_read c.args.shelf.now.plan s.held.items s.resumed.items s.known.items s.picked.items s.laid.items v s.mirrors c.requires.shelf.1 b c.requires.block c.index.result.now c.index.ensures) ∙ c.if-not-index.false in
    let blocks_are : length l.degrees ≡ blocks v.plan = ap (λ (h : LayoutValue). length h.degrees) c.layout-layout.ensures ∙ ap (λ (h : PlanValue). blocks h) (sym same) in
    let edges_are : length l.edges ≡ edges v.plan = ap (λ (h : LayoutValue). length h.edges) c.layout-layout.ensures ∙ ap (λ (h : PlanValue). edges h) (sym same) in
    let low = c.edge-lower.ensures.placed.lower in
    let in_known : c.edge-lower.result.lower < length s.known.items = let room = s.mirrors.known_room in omega arith in
    let known = ap (λ (e : Edge). get_or s.known.items e.lower false) (sym c.edge-lower.ensures.edge) ∙ (sym (read_mark s.known.items c.edge-lower.result.lower c.index-else-not-index.result.now in_known c.index-else-not-index.ensures) ∙ c.if-not-index-2.false) in
    let mine : IsInto l.edges b c.args.letter n = into_is l.edges b c.args.letter n (sym c.in_ok-number.ensures) in
    let in_n : n < length s.picked.items = let room = s.mirrors.picked_room in let at = mine.inside in omega arith in
    let yet = sym (read_mark s.picked.items n c.index-else-not-index-2.result.now in_n c.index-else-not-index-2.ensures) ∙ c.if-index.false in
    may_pick c.args.shelf.now.plan l c.layout-layout.ensures s.held.items s.resumed.items s.known.items s.picked.items s.laid.items v s.mirrors b c.args.letter n held known yet c.in_ok-number.ensures

pub invariant_of-self : goal.invariant_of-self
invariant_of-self c =
    let s = c.args.self.now in
    let v = s.pass.place.me.0 in
    let l = c.layout-layout.result.now in
    let b = c.args.block in
    let step = c.pick-value.ensures.step in
    let n = step.number in
    let same : v.plan ≡ c.args.shelf.now.plan = c.requires.shelf.1 in
    let mine : IsInto l.edges b c.args.letter c.in_ok-number.number = into_is l.edges b c.args.letter c.in_ok-number.number (sym c.in_ok-number.ensures) in
    let theirs : IsInto l.edges b c.args.letter n = subst (λ (h : LayoutValue). IsInto h.edges b c.args.letter n) (sym c.layout-layout.ensures) step.into in
    let number : c.in_ok-number.number ≡ n = one_in l c.meets_its_rules.ensures b c.args.letter c.in_ok-number.number n mine theirs in
    let inside : n < edges v.plan = subst (λ (h : PlanValue). n < edges h) (sym same) step.into.inside in
    record {
      mirrors = subst (λ (w : View). Mirrors s.held.items s.resumed.items s.known.items (set s.picked.items c.in_ok-number.number true) s.laid.items w)
          (ap (λ (h : PlanValue). pick_view h n (worth c.pick-value.result) step.found v) same ∙ sym step.view)
          (subst (λ k. Mirrors s.held.items s.resumed.items s.known.items (set s.picked.items k true) s.laid.items (pick_view v.plan n (worth c.pick-value.result) step.found v)) (sym number)
          (mirror_pick s.held.items s.resumed.items s.known.items s.picked.items s.laid.items v s.mirrors n step.found (worth c.pick-value.result) inside));
    }
