use Rattle.std.proofs.Common.{subst, sym, ◌<◌, set, false}
use Rattle.nichols_shelf.specs.Plan.{PlanValue}
use Rattle.nichols_shelf.specs.Places.{blocks}
use Rattle.nichols_shelf.specs.Played.{Mirrors}
use Rattle.nichols_shelf.specs.declared.view.View.{View}
use Rattle.nichols_shelf.proofs.Mirrored.{mirror_release}
use Rattle.nichols_shelf.proofs.tests.player.Player.release.Goals as goal

pub invariant_of-self : goal.invariant_of-self
invariant_of-self c =
    let s = c.args.self.now in
    let v = s.pass.place.me.0 in
    let b = c.args.block in
    let inside : b < blocks v.plan = subst (λ (g : PlanValue). b < blocks g) (sym c.requires.shelf.1) c.requires.block in
    record {
      mirrors = subst (λ (w : View). Mirrors s.held.items (set s.resumed.items b false) s.known.items s.picked.items s.laid.items w) (sym c.release.ensures.step.view)
          (mirror_release s.held.items s.resumed.items s.known.items s.picked.items s.laid.items v s.mirrors b c.release.ensures.step.found inside);
    }
