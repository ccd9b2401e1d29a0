use Rattle.std.proofs.Common.{subst, sym, ap, ◌∙◌, ◌<◌, ◌≡◌, ◌∷◌, None, true}
use Rattle.nichols_value.specs.Worth.{worth}
use Rattle.nichols_shelf.specs.Plan.{PlanValue}
use Rattle.nichols_shelf.specs.Lists.{is_in}
use Rattle.nichols_shelf.specs.Places.{edges, edge}
use Rattle.nichols_shelf.specs.Views.{pick_view}
use Rattle.nichols_shelf.specs.Steps.{Mine}
use Rattle.nichols_shelf.specs.Stored.{IsStored}
use Rattle.nichols_shelf.proofs.Agreed.{stored_pick}
use Rattle.nichols_shelf.proofs.shelf.Shelf.pick.Goals as goal

pub invariant_of-pass : goal.invariant_of-pass
invariant_of-pass c =
    let p = c.args.pass.now in
    let v = p.place.me.0 in
    let k = c.entry-number.result in
    let at = c.entry-number.ensures in
    let found = c.pick_up.ensures.me.0 in
    let x = worth c.pick_up.result in
    let same = sym c.requires.pass.1 in
    let inside : k < edges v.plan = subst (λ (g : PlanValue). k < edges g) same at.inside in
    let holds : is_in (edge v.plan k).upper v.held ≡ true = subst (λ (g : PlanValue). is_in (edge g k).upper v.held ≡ true) same (ap (λ b. is_in b v.held) at.upper ∙ c.requires.may.holds) in
    let me = c.pick_up.ensures.me.1 ∙ ap (λ (g : PlanValue). (let m : Mine = (pick_view g k x found v, (k, None) ∷ p.place.me.1) in m)) same in
    record {
      stored = subst (λ (m : Mine). IsStored p.worker p.passes p.owed m.0 m.1) (sym me) (stored_pick p.worker p.passes p.owed v p.place.me.1 p.stored k found x inside holds);
    }
