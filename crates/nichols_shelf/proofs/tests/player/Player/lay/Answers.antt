use Rattle.std.proofs.Common.{arith, ◌≡◌, ◌<◌, ℕ, length, get_or, set, true, false, refl, subst, sym, ap, ◌∙◌}
use Rattle.nichols_core.specs.Layout.{LayoutValue, edge_at}
use Rattle.nichols_core.specs.Conditions.{IsOutOf}
use Rattle.nichols_core.proofs.EdgesFound.{out_is}
use Rattle.nichols_value.specs.declared.value.BlockValue.TheVariants.{Starved}
use Rattle.nichols_shelf.specs.Plan.{PlanValue}
use Rattle.nichols_shelf.specs.Places.{edges}
use Rattle.nichols_shelf.specs.Views.{draw_view, lay_view}
use Rattle.nichols_shelf.specs.Played.{Mirrors}
use Rattle.nichols_shelf.specs.declared.view.View.{View}
use Rattle.nichols_shelf.proofs.Mirrored.{one_out, read_mark, may_lay, mirror_lay, held_read}
use Rattle.nichols_shelf.proofs.tests.player.Player.lay.Goals as goal

pub lay-requires-clause-may : goal.lay-requires-clause-may
lay-requires-clause-may c =
    let s = c.args.self.now in
    let v = s.pass.place.me.0 in
    let l = c.layout-layout.result.now in
    let b = c.args.block in
    let same = c.requires.shelf.1 in
    let n = c.in-Some.number in
    let held = sym (held_read c.args.shelf.now.plan s.held.items s.resumed.items s.known.items s.picked.items s.laid.items v s.mirrors c.requires.shelf.1 b c.requires.block c.index.result.now c.index.ensures) ∙ c.if-not-index.false in
    let edges_are : length l.edges ≡ edges v.plan = ap (λ (h : LayoutValue). length h.edges) c.layout-layout.ensures ∙ ap (λ (h : PlanValue). edges h) (sym same) in
    let mine : IsOutOf l.edges b c.args.letter n = out_is l.edges b c.args.letter n (sym c.in-Some.ensures) in
    let in_n : n < length s.laid.items = let room = s.mirrors.laid_room in let at = mine.inside in omega arith in
    let yet = sym (read_mark s.laid.items n c.index-else-not-index.result.now in_n c.index-else-not-index.ensures) ∙ c.if-index.false in
    may_lay c.args.shelf.now.plan l c.layout-layout.ensures s.held.items s.resumed.items s.known.items s.picked.items s.laid.items v s.mirrors b c.args.letter n held yet
    (subst (λ marks. (k : ℕ) → k < length l.edges → (edge_at l.edges k).upper ≡ b → get_or marks k false ≡ true) c.deref.ensures.value (c.if-not-entries_are.ensures refl)) c.in-Some.ensures

pub invariant_of-self : goal.invariant_of-self
invariant_of-self c =
    let s = c.args.self.now in
    let v = s.pass.place.me.0 in
    let l = c.layout-layout.result.now in
    let b = c.args.block in
    let step = c.lay.ensures.step in
    let n = step.number in
    let same : v.plan ≡ c.args.shelf.now.plan = c.requires.shelf.1 in
    let mine : IsOutOf l.edges b c.args.letter c.in-Some.number = out_is l.edges b c.args.letter c.in-Some.number (sym c.in-Some.ensures) in
    let theirs : IsOutOf l.edges b c.args.letter n = subst (λ (h : LayoutValue). IsOutOf h.edges b c.args.letter n) (sym c.layout-layout.ensures) step.out_of in
    let number : c.in-Some.number ≡ n = one_out l c.meets_its_rules.ensures b c.args.letter c.in-Some.number n mine theirs in
    let inside : n < edges v.plan = subst (λ (h : PlanValue). n < edges h) (sym same) step.out_of.inside in
    record {
      mirrors = subst (λ (w : View). Mirrors s.held.items s.resumed.items s.known.items s.picked.items (set s.laid.items c.in-Some.number true) w)
          (ap (λ (h : PlanValue). lay_view h n Starved step.laid_found (draw_view h n step.drawn_found v)) same ∙ sym step.view)
          (subst (λ k. Mirrors s.held.items s.resumed.items s.known.items s.picked.items (set s.laid.items k true) (lay_view v.plan n Starved step.laid_found (draw_view v.plan n step.drawn_found v))) (sym number)
          (mirror_lay s.held.items s.resumed.items s.known.items s.picked.items s.laid.items v s.mirrors n step.drawn_found step.laid_found inside));
    }
