use Rattle.std.proofs.Common.{◌<◌, ◌≤◌, ◌∙◌, length, subst, arith}
use Rattle.std.proofs.lemmas.List.{length-set}
use Rattle.nichols_tensor.specs.Combination.{scalar_multiple}
use Rattle.nichols_reduce.specs.Sums.{HasGrownBy}
use Rattle.nichols_reduce.proofs.GrowingSums.{taken_whole}
use Rattle.nichols_product.proofs.PartSums.{grown_at}
use Rattle.nichols_product.proofs.parts.add_sums.Goals as goal

pub loop-k-preserved : goal.loop-k-preserved
loop-k-preserved c =
    let inside : c.loop-k.k < length c.args.form.now = omega arith in
    record {
      width = length-set c.loop-k.sums c.loop-k.k c.add_product_to.result ∙ c.loop-k.invariant.width;
      grown = λ ws e.
          grown_at c.args.field c.modulus-modulus.ensures.field ws c.args.form.now c.args.sums.now c.loop-k.sums c.args.by c.loop-k.k c.add_product_to.result c.settle-coefficient.result e c.loop-k.invariant.width inside
          c.settle-coefficient.ensures.value c.add_product_to.ensures (c.loop-k.invariant.grown ws e);
    }

pub returns : goal.returns
returns c ws e =
    let past : length c.args.form.now ≤ c.loop-k.k = omega arith in
    let width : length ws ≤ c.loop-k.k = omega (arith, past, e) in
    subst (λ f. HasGrownBy c.args.field ws c.args.sums.now (scalar_multiple c.args.field c.args.by f) c.loop-k.sums) (taken_whole c.args.field ws c.args.form.now c.loop-k.k e width) (c.loop-k.invariant.grown ws e)
