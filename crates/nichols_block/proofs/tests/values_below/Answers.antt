use Rattle.std.proofs.Common.{◌≡◌, ◌+◌, suc, ◌∙◌, refl, sym, ap, subst, arith}
use Rattle.nichols_braid.proofs.NextProducts.{products_size}
use Rattle.nichols_value.specs.Value.{IsRight}
use Rattle.nichols_braid.specs.Product.{product_before}
use Rattle.nichols_block.proofs.CollectedValues.{lower_more, lower_same}
use Rattle.nichols_block.proofs.TestedValues.{HasValues, values_whole}
use Rattle.nichols_block.proofs.tests.values_below.Goals as goal
use Rattle.nichols_block.proofs.tests.values_below.Goals.{in-Some+in_ok-copy+in_ok-push, in_default}

pub lower_value-requires-clause-size : goal.lower_value-requires-clause-size
lower_value-requires-clause-size c = products_size c.args.braid.now c.args.key.now.degree c.args.key.now.product c.requires.block.there

pub loop-a-preserved : goal.loop-a-preserved
loop-a-preserved c =
    let next : c.loop-a.a + 1 ≡ suc c.loop-a.a = omega arith in
    elim c.match-lower_value.branch [
      | in-Some+in_ok-copy+in_ok-push w ↦
          lower_more c.args.braid.now c.args.m c.args.key.now.product _ c.loop-a.a (c.loop-a.a + 1) c.loop-a.lower.items c.match-lower_value.lower.items (record { letter = c.loop-a.a + 1; value = w.in_ok-copy.field-0 }) c.loop-a.invariant next refl w.in-Some.ensures.0
          (subst (IsRight c.args.braid.now c.args.limit c.args.m (product_before c.args.braid.now (c.loop-a.a + 1) c.args.key.now.product)) (sym w.in_ok-copy.ensures.same) w.in-Some.ensures.1) (ap (λ v. v.items) w.lower-is ∙ w.in_ok-push.ensures.items)
      | in_default w ↦
          subst (HasValues c.args.braid.now c.args.limit c.args.m c.args.key.now.product (c.loop-a.a + 1)) (sym (ap (λ v. v.items) w.lower-is))
          (lower_same c.args.braid.now c.args.m c.args.key.now.product _ c.loop-a.a (c.loop-a.a + 1) c.loop-a.lower.items c.loop-a.invariant next w.in_default.ensures)
    ]

pub returns : goal.returns
returns c =
    let count : c.loop-a.a ≡ c.args.braid.now.letters = (let e : c.letters-a-end.result ≡ c.args.braid.now.letters = c.letters-a-end.ensures in let ends : c.loop-a.a ≡ c.letters-a-end.result = omega arith in ends ∙ e) in
    values_whole c.args.braid.now c.args.limit c.args.m c.loop-a.a c.args.key.now c.loop-a.lower.items c.loop-a.invariant count c.requires.degree
