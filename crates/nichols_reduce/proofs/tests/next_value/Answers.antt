use Rattle.std.proofs.Common.{◌≡◌, suc, ◌+◌, sym, ◌∙◌, subst, arith}
use Rattle.nichols_braid.specs.declared.TheConstants.{MOST_ROWS}
use Rattle.nichols_value.specs.declared.key.BlockKey.{BlockKey}
use Rattle.nichols_value.specs.Value.{IsRight}
use Rattle.nichols_block.specs.Lower.{AreLowerRules, AreLowerValues}
use Rattle.nichols_block.proofs.LowerRules.{rules_are_right}
use Rattle.nichols_reduce.proofs.WholeLevels.{whole_rule}
use Rattle.nichols_reduce.proofs.tests.next_value.Goals as goal

pub make-value-requires-clause-lower : goal.make-value-requires-clause-lower
make-value-requires-clause-lower c =
    let key : BlockKey = record { degree = c.last.result + 1; product = c.args.product.now } in
    let degree : c.last.result + 1 ≡ suc c.args.levels.now.last = omega (arith, c.last.ensures.value) in
    subst (λ b. AreLowerValues b MOST_ROWS key c.as_slice.result.now) (sym c.braid.ensures)
    (rules_are_right c.args.levels.now.braid MOST_ROWS c.args.levels.now.last key c.as_slice.result.now degree (λ g i. c.requires.whole c.args.levels.now.last g (omega arith) i)
    (subst (AreLowerRules c.args.levels.now.braid key) (sym c.as_slice.ensures.value) c.in_ok-lower.ensures))

pub returns-in-Some-Rule : goal.returns-in-Some-Rule
returns-in-Some-Rule c =
    let degree : c.last.result + 1 ≡ suc c.args.levels.now.last = omega (arith, c.last.ensures.value) in
    whole_rule c.args.levels.now.braid (suc c.args.levels.now.last) c.args.product.now c.make-value.result _ c.in-Some-Rule.field-0-0
    (subst (λ d. IsRight c.args.levels.now.braid MOST_ROWS d c.args.product.now c.make-value.result) degree
    (subst (λ b. IsRight b MOST_ROWS (c.last.result + 1) c.args.product.now c.make-value.result) c.braid.ensures c.make-value.ensures.right))
    c.of-shared.ensures (sym c.in-Some-Rule.ensures ∙ c.in-Some-Rule.field-0-is)
