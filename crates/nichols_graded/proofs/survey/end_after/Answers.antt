use Rattle.std.proofs.Common.{◌+◌, ◌<◌, ◌≤◌, [], length, ap, ◌∙◌, sym, subst, arith}
use Rattle.std.specs.Prelude.{option_map}
use Rattle.nichols_braid.specs.declared.TheConstants.{MOST_PRODUCTS}
use Rattle.nichols_braid.specs.Products.{products}
use Rattle.nichols_graded.specs.declared.ends.End.TheVariants.{Stopped}
use Rattle.nichols_graded.specs.Sizes.{AreSizes}
use Rattle.nichols_graded.proofs.BlockSizes.{rules_count, sizes_are}
use Rattle.nichols_graded.proofs.FinishedDegrees.{after_empty, after_filled}
use Rattle.nichols_graded.proofs.survey.end_after.Goals as goal

pub put_sizes-requires : goal.put_sizes-requires
put_sizes-requires c =
    let b = c.args.braid.now in
    let at : c.args.at < length c.args.lists.now = c.requires.at in
    let few : length (products b (c.args.first + c.args.at)) ≤ MOST_PRODUCTS = subst (λ gs. length gs ≤ MOST_PRODUCTS) (c.requires.open.listed c.args.at [] at) (c.requires.open.narrow c.args.at [] at) in
    let count = rules_count b (c.args.first + c.args.at) c.args.values.now c.requires.rules in
    let room = c.requires.room in
    omega (arith, few, count, room)

pub are_empty-requires : goal.are_empty-requires
are_empty-requires c = record {
  sizes =
      subst (AreSizes c.args.braid.now (c.args.first + c.args.at)) (sym c.as_slice.ensures.value)
      (sizes_are c.args.braid.now (c.args.first + c.args.at) c.args.values.now c.put_sizes.new.sizes.items c.requires.rules c.put_sizes.ensures.sizes c.put_sizes.ensures.small);
}

pub returns-then-are_empty-clause-end : goal.returns-then-are_empty-clause-end
returns-then-are_empty-clause-end c = sym (after_empty c.args.braid.now c.args.limits.0 c.args.limits.1 (c.args.first + c.args.at) (sym c.are_empty.ensures ∙ c.if-are_empty.true))

pub stop_behind-requires-clause-sizes : goal.stop_behind-requires-clause-sizes
stop_behind-requires-clause-sizes c =
    subst (AreSizes c.args.braid.now (c.args.first + c.args.at)) (sym c.as_slice-2.ensures.value)
    (sizes_are c.args.braid.now (c.args.first + c.args.at) c.args.values.now c.put_sizes.new.sizes.items c.requires.rules c.put_sizes.ensures.sizes c.put_sizes.ensures.small)

pub returns-in-Some-clause-end : goal.returns-in-Some-clause-end
returns-in-Some-clause-end c =
    ap (option_map Stopped) (sym c.in-Some.is)
    ∙ sym (after_filled c.args.braid.now c.args.limits.0 c.args.limits.1 (c.args.first + c.args.at) c.stop_behind.result (sym c.are_empty.ensures ∙ c.if-are_empty.false) c.stop_behind.ensures)

pub returns-in-None-clause-end : goal.returns-in-None-clause-end
returns-in-None-clause-end c =
    ap (option_map Stopped) (sym c.in-None.is)
    ∙ sym (after_filled c.args.braid.now c.args.limits.0 c.args.limits.1 (c.args.first + c.args.at) c.stop_behind.result (sym c.are_empty.ensures ∙ c.if-are_empty.false) c.stop_behind.ensures)
