use Rattle.std.proofs.Common.{◌≡◌, ◌<◌, ◌∙◌, length, sym, ap, subst}
use Rattle.std.specs.List.{Contains}
use Rattle.nichols_tensor.specs.Positions.{word_at}
use Rattle.nichols_braid.specs.Products.{products}
use Rattle.nichols_value.specs.Value.{IsRight}
use Rattle.nichols_value.specs.Worth.{worth}
use Rattle.nichols_block.proofs.CollectedValues.{is_lower, no_lower}
use Rattle.nichols_block.proofs.tests.lower_value.Goals as goal

pub returns-in-Some : goal.returns-in-Some
returns-in-Some c =
    let listed : c.args.list.now ≡ products c.args.braid.now c.args.m = c.requires.list in
    let at : word_at (products c.args.braid.now c.args.m) c.in-Some.k ≡ c.back.result = ap (λ ps. word_at ps c.in-Some.k) (sym listed) ∙ c.in-Some.ensures.1 in
    let less : c.in-Some.k < length (products c.args.braid.now c.args.m) = subst (λ ps. c.in-Some.k < length ps) listed c.in-Some.ensures.0 in (
      is_lower c.args.braid.now c.args.m c.in-Some.k c.args.product.now c.args.letter c.leading.result c.back.result c.leading.ensures.value c.if-leading-letter.false c.back.ensures.value less at,
      subst (λ g. IsRight c.args.braid.now c.args._limit c.args.m g (worth c.index-values-k.result)) (c.in-Some.ensures.1 ∙ c.back.ensures.value) (c.requires.right.each c.in-Some.k c.index-values-k.result c.in-Some.ensures.0 c.index-values-k.is),
    )

pub returns-in-None : goal.returns-in-None
returns-in-None c =
    no_lower c.args.braid.now c.args.m c.args.product.now c.args.letter c.leading.result c.back.result c.leading.ensures.value c.if-leading-letter.false c.back.ensures.value
    (λ i. c.in-None.ensures (subst (λ ps. Contains ps c.back.result) (sym c.requires.list) i))
