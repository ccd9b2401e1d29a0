use Rattle.std.proofs.Common.{arith, subst, sym, ◌<◌}
use Rattle.nichols_shelf.specs.Plan.{PlanValue}
use Rattle.nichols_shelf.specs.Places.{blocks}
use Rattle.nichols_shelf.proofs.Released.{release_allowed}
use Rattle.nichols_shelf.proofs.shelf.Shelf.release.Goals as goal

pub swap-requires : goal.swap-requires
swap-requires c =
    let s = c.args.self.now in
    let words = s.words in
    let inside : c.args.task < blocks s.board.shared.key = subst (λ (g : PlanValue). c.args.task < blocks g) (sym s.same_plan) c.requires.block in
    (c.requires.pass.0, (let b = c.requires.block in omega arith), release_allowed _ _ _ _ _ inside c.args.pass.now.stored.live c.requires.resumed)
