use Rattle.std.proofs.Common.{◌≡◌, ◌<◌, List, length, subst, sym, ap, ◌∙◌, refl}
use Rattle.std.specs.List.{AllByRecursion}
use Rattle.std.proofs.lemmas.List.{length-replicate}
use Rattle.nichols_core.specs.Layout.{IsLayout}
use Rattle.nichols_shelf.specs.Closed.{last_view}
use Rattle.nichols_shelf.specs.Places.{blocks}
use Rattle.nichols_shelf.specs.Plan.{PlanValue}
use Rattle.nichols_value.specs.declared.shared.Shared.{Shared}
use Rattle.nichols_value.specs.declared.shared.Shared.TheVariants as variant
use Rattle.nichols_crew.specs.Hands.{all_made, written}
use Rattle.nichols_crew.specs.declared.made.Made.{Made}
use Rattle.nichols_crew.proofs.WorkedHands.{answered, entries_inside}
use Rattle.nichols_crew.proofs.waving.through_shelf.Goals as goal

pub by_block-values-requires : goal.by_block-values-requires
by_block-values-requires g c =
    let p = c.args.shelf.plan in
    let size : length c.args.values.items ≡ blocks p = ap (λ (xs : List Shared). length xs) c.requires.values ∙ length-replicate (blocks p) variant.Starved in
    record {
      inside = subst (λ n. AllByRecursion (λ (m : Made). m.block < n) (all_made c.in_ok-closed.lists.items)) (sym size) (entries_inside p (last_view c.in_ok-closed.closed) (all_made c.in_ok-closed.lists.items) c.in_ok-closed.ensures.kept);
    }

pub returns-clause-answered : goal.returns-clause-answered
returns-clause-answered g c =
    let p = c.args.shelf.plan in
    let e = c.in_ok-closed.ensures in
    let rules : IsLayout p.layout = subst IsLayout c.layout.ensures c.meets_its_rules.ensures in
    answered p rules (last_view c.in_ok-closed.closed) (all_made c.in_ok-closed.lists.items) c.by_block-values.result.items e.kept
    (λ b inside. e.all b (subst (λ (q : PlanValue). b < blocks q) (sym e.plan) inside))
    (blocks p) refl (c.by_block-values.ensures ∙ ap (λ (xs : List Shared). written xs (all_made c.in_ok-closed.lists.items)) c.requires.values)
