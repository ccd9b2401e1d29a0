use Rattle.std.proofs.Common.{arith, subst, sym, ap, refl, ◌∙◌, ◌<◌, ◌+◌, ◌-◌, ◌≡◌}
use Rattle.std.proofs.lemmas.Bool.{eqb-true}
use Rattle.nichols_shelf.specs.Untouched.{IsUntouched}
use Rattle.nichols_shelf.specs.Plan.{PlanValue}
use Rattle.nichols_shelf.specs.Places.{blocks}
use Rattle.nichols_shelf.specs.Views.{take_view}
use Rattle.nichols_shelf.specs.Stored.{IsStored}
use Rattle.nichols_shelf.specs.Steps.{Mine}
use Rattle.nichols_shelf.proofs.Agreed.{stored_take}
use Rattle.nichols_shelf.proofs.Taken.{take_allowed}
use Rattle.nichols_shelf.proofs.shelf.Shelf.take.Goals as goal

pub compare_exchange-found-requires : goal.compare_exchange-found-requires
compare_exchange-found-requires c =
    let s = c.args.self.now in
    let words = s.words in
    let inside : c.args.block < blocks s.board.shared.key = subst (λ (g : PlanValue). c.args.block < blocks g) (sym s.same_plan) c.requires.block in
    (c.requires.pass.0, (let b = c.requires.block in omega arith), take_allowed _ _ _ _ _ inside c.args.pass.now.stored.live)

pub invariant_of-pass : goal.invariant_of-pass
invariant_of-pass c =
    let p = c.args.pass.now in
    let found = c.compare_exchange-found.result in
    let same : 1 + c.args.block - 1 ≡ c.args.block = omega arith in
    let me = c.compare_exchange-found.ensures.2.0 ∙ ap (λ b. (take_view b found p.place.me.0, p.place.me.1)) same in
    let inside : c.args.block < blocks p.place.me.0.plan = subst (λ (g : PlanValue). c.args.block < blocks g) (sym c.requires.pass.1) c.requires.block in
    record {
      stored = subst (λ (m : Mine). IsStored p.worker p.passes c.remove.new.self m.0 m.1) (sym me)
          (subst (λ marks. IsStored p.worker p.passes marks (take_view c.args.block found p.place.me.0) p.place.me.1) (sym c.remove.ensures)
          (stored_take p.worker p.passes p.owed p.place.me.0 p.place.me.1 p.stored c.args.block found inside));
    }

pub returns-clause-step : goal.returns-clause-step
returns-clause-step c =
    let p = c.args.pass.now in
    let v = p.place.me.0 in
    let found = c.compare_exchange-found.result in
    let same : 1 + c.args.block - 1 ≡ c.args.block = omega arith in
    let inside : c.args.block < blocks v.plan = subst (λ (g : PlanValue). c.args.block < blocks g) (sym c.requires.pass.1) c.requires.block in
    let tells = c.compare_exchange-found.ensures.2 in
    record {
      found = found;
      view = ap (λ (m : Mine). m.0) tells.0 ∙ ap (λ b. take_view b found v) same;
      answer_is = refl;
      untouched = λ is. subst (λ b. IsUntouched v.plan b v) same (tells.1 (eqb-true found 0 is) (subst (λ b. b < blocks v.plan) (sym same) inside));
    }
