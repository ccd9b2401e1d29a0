use Rattle.std.proofs.Common.{◌≡◌, ◌<◌, ◌||◌, length, get_or, set, false, subst, sym, ap, ◌∙◌}
use Rattle.nichols_core.specs.Layout.{LayoutValue}
use Rattle.nichols_shelf.specs.Plan.{PlanValue}
use Rattle.nichols_shelf.specs.Places.{blocks}
use Rattle.nichols_shelf.specs.Lists.{is_in}
use Rattle.nichols_shelf.specs.Views.{askers, publish_view}
use Rattle.nichols_shelf.specs.Played.{Mirrors}
use Rattle.nichols_shelf.specs.declared.view.View.{View}
use Rattle.nichols_shelf.proofs.Mirrored.{mirror_publish}
use Rattle.nichols_shelf.proofs.tests.player.Player.publish.Goals as goal

pub invariant_of-self : goal.invariant_of-self
invariant_of-self c =
    let s = c.args.self.now in
    let v = s.pass.place.me.0 in
    let b = c.args.block in
    let step = c.publish-bits.ensures.step in
    let same : v.plan ≡ c.args.shelf.now.plan = c.requires.shelf.1 in
    let layouts : c.layout-layout.result.now ≡ v.plan.layout = c.layout-layout.ensures ∙ ap (λ (h : PlanValue). h.layout) (sym same) in
    let marks = c.mark_askers.new.resumed.items in
    record {
      mirrors = subst (λ (w : View). Mirrors (set s.held.items b false) marks s.known.items s.picked.items s.laid.items w)
          (ap (λ (h : PlanValue). publish_view h b step.found v) same ∙ sym step.view)
          (mirror_publish s.held.items s.resumed.items s.known.items s.picked.items s.laid.items v s.mirrors b step.found marks
          (subst (λ (h : PlanValue). b < blocks h) (sym same) c.requires.block)
          (c.mark_askers.ensures.length ∙ ap (λ (l : LayoutValue). length l.degrees) layouts)
          (λ d. c.mark_askers.ensures.marks step.found step.bits d ∙ ap (λ (l : LayoutValue). get_or s.resumed.items d false || is_in d (askers l.edges b step.found)) layouts));
    }
