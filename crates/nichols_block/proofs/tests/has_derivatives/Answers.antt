use Rattle.std.proofs.Common.{◌≡◌, ◌+◌, ◌<◌, ◌∙◌, List, ℕ, ap, arith, length, subst, sym}
use Rattle.nichols_tensor.specs.Positions.{word_at}
use Rattle.nichols_value.specs.Block.{block_basis}
use Rattle.nichols_value.specs.Rule.{PlainRule, derivs_in, rule_of}
use Rattle.nichols_value.specs.Value.{IsRight}
use Rattle.nichols_value.specs.Worth.{worth}
use Rattle.nichols_value.proofs.RuleEntries.{basis_is, derivs_size, lean_of_whole}
use Rattle.nichols_value.proofs.Wholes.{right_rule}
use Rattle.nichols_block.proofs.tests.has_derivatives.Goals as goal

pub derivative-requires-clause-place : goal.derivative-requires-clause-place
derivative-requires-clause-place c =
    let g : List ℕ = word_at c.args._list.now c.args.k in
    let r : PlainRule = c.in-Some-Rule.rule in
    let listed : c.args.k < length c.args._list.now = omega (arith, c.requires.count, c.if-k-values.false) in
    let right : IsRight c.args.braid.now c.args._limit c.args._m g (worth c.index-values-k.result) = c.requires.each c.args.k c.index-values-k.result listed c.index-values-k.is in
    let whole : r ≡ rule_of c.args.braid.now c.args._m g = (right_rule c.args.braid.now c.args._limit c.args._m g r (subst (IsRight c.args.braid.now c.args._limit c.args._m g) (sym c.in-Some-Rule.ensures ∙ c.in-Some-Rule.field-0-is) right)).1 in
    let forms : length (derivs_in r (c.loop-a.a + 1)) ≡ length (block_basis c.args.braid.now c.args._m g) = derivs_size c.args.braid.now c.args._m g r whole (c.loop-a.a + 1) (omega arith, omega (arith, c.loop-a-test.true, c.letters-a-end.ensures)) in
    let words : length r.basis ≡ length (block_basis c.args.braid.now c.args._m g) = ap length (basis_is c.args.braid.now c.args._m g r (lean_of_whole c.args.braid.now c.args._m g r whole)) in
    let read : length c.basis.result.now ≡ length r.basis = ap length c.basis.ensures.same in
    omega (arith, forms, words, read, c.if-basis-ne1.false)
