use Rattle.std.proofs.Common.{◌≡◌, ◌+◌, ◌-◌, ◌<◌, ℕ, suc, Some, length, ap, ◌∙◌, subst, arith}
use Rattle.nichols_braid.specs.declared.TheConstants.{MOST_PRODUCTS}
use Rattle.nichols_braid.specs.Products.{products}
use Rattle.nichols_graded.specs.declared.ends.Stop.TheVariants.{Wide}
use Rattle.nichols_graded.proofs.EndLaws.{stop_by_limit, stop_by_products}
use Rattle.nichols_graded.proofs.ahead.list_on.Goals as goal

pub returns-then-degree_limit-next-clause-behind : goal.returns-then-degree_limit-next-clause-behind
returns-then-degree_limit-next-clause-behind c rows =
    let beyond = c.if-degree_limit-next.true in
    let len = c.len-in-loop-alloc.ensures in
    stop_by_limit c.args.braid.now c.args.degree_limit rows (c.args.first + length c.loop-alloc.lists.items) (omega (arith, beyond, len))

pub returns-in-Err-Wide-clause-behind : goal.returns-in-Err-Wide-clause-behind
returns-in-Err-Wide-clause-behind c rows =
    let within = c.if-degree_limit-next.false in
    let len = c.len-in-loop-alloc.ensures in
    let other = c.len-in-loop-alloc-2.ensures in
    let some = c.loop-alloc.invariant.some in
    let i : ℕ = c.len-in-loop-alloc-2.result - 1 in
    let below : c.index.result.now ≡ products c.args.braid.now (c.args.first + i) = c.index.ensures ∙ c.loop-alloc.invariant.listed i c.index.result.now (omega (arith, other, some)) in
    let same : suc (c.args.first + i) ≡ c.args.first + length c.loop-alloc.lists.items = omega (arith, other, some) in
    let many : MOST_PRODUCTS < length (products c.args.braid.now (c.args.first + length c.loop-alloc.lists.items)) =
    subst (λ m. MOST_PRODUCTS < length (products c.args.braid.now m)) same (c.in-Err-Wide.ensures (c.args.first + i) below c.in-Err-Wide.field-0-is) in
    let here : c.args.first + length c.loop-alloc.lists.items ≡ c.args.first + c.len-in-loop-alloc.result = omega (arith, len) in
    stop_by_products c.args.braid.now c.args.degree_limit rows (c.args.first + length c.loop-alloc.lists.items) (omega (arith, within, len)) many ∙ ap (λ n. Some (Wide n)) here
