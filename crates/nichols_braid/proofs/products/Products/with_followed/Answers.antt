use Rattle.std.proofs.Common.{◌++◌, map, ◌∙◌, ap}
use Rattle.std.proofs.lemmas.Result.{err_from_is_err_and}
use Rattle.nichols_tensor.specs.Words.{up_to}
use Rattle.nichols_braid.specs.Product.{product_after}
use Rattle.nichols_braid.specs.Products.{each_once}
use Rattle.nichols_braid.specs.declared.TheConstants.{MOST_PRODUCTS}
use Rattle.nichols_braid.proofs.NextProducts.{followed_more, wide_letters}
use Rattle.nichols_braid.proofs.products.Products.with_followed.Goals as goal

pub returns-in_err-out : goal.returns-in_err-out
returns-in_err-out c =
    let p = err_from_is_err_and c.from_residual.result c.from_residual.ensures.1 in
    rw (p.1, p.2)
    (λ gs e wide. wide_letters (λ a. product_after c.args.braid.now a c.args.product.now) gs MOST_PRODUCTS c.loop-a.a c.args.braid.now.letters c.times.result c.times.ensures.value (rw (← c.letters-a-end.ensures) c.loop-a-test.true)
    (c.in_err-out.ensures (gs ++ map (λ a. product_after c.args.braid.now a c.args.product.now) (up_to c.loop-a.a)) (c.loop-a.invariant gs e) wide))

pub loop-a-preserved : goal.loop-a-preserved
loop-a-preserved c = λ gs e.
    c.in_ok-out.ensures (gs ++ map (λ a. product_after c.args.braid.now a c.args.product.now) (up_to c.loop-a.a)) (c.loop-a.invariant gs e)
    ∙ ap each_once (followed_more (λ a. product_after c.args.braid.now a c.args.product.now) gs c.loop-a.a c.times.result c.times.ensures.value)
