use Rattle.std.proofs.Common.{◌≡◌, ◌<◌, ◌∙◌, length, sym, ap, subst}
use Rattle.nichols_tensor.specs.Positions.{word_at}
use Rattle.nichols_braid.specs.Braid.{BraidValue}
use Rattle.nichols_braid.specs.Product.{product_before}
use Rattle.nichols_braid.specs.Products.{leading, products}
use Rattle.std.specs.List.{Contains}
use Rattle.nichols_value.specs.declared.value.BlockValue.TheVariants.{Rule}
use Rattle.nichols_value.specs.Rule.{rule_of}
use Rattle.nichols_block.proofs.CollectedValues.{is_lower, no_lower}
use Rattle.nichols_block.proofs.collect.lower_value.Goals as goal

pub returns-in-Some : goal.returns-in-Some
returns-in-Some c =
    let listed : c.products.result.now ≡ products c.args.levels.now.braid c.args.levels.now.last = c.products.ensures ∙ ap (products c.args.levels.now.braid) c.last-last.ensures.value in
    let first : c.leading.result ≡ leading c.args.levels.now.braid c.args.letter = c.leading.ensures.value ∙ ap (λ (b : BraidValue). leading b c.args.letter) c.braid-braid.ensures in
    let before : c.back.result ≡ product_before c.args.levels.now.braid c.args.letter c.args.product.now = c.back.ensures.value ∙ ap (λ (b : BraidValue). product_before b c.args.letter c.args.product.now) c.braid-braid.ensures in
    let at : word_at (products c.args.levels.now.braid c.args.levels.now.last) c.in-Some.k ≡ c.back.result = ap (λ ps. word_at ps c.in-Some.k) (sym listed) ∙ c.in-Some.ensures.1 in
    let less : c.in-Some.k < length (products c.args.levels.now.braid c.args.levels.now.last) = subst (λ ps. c.in-Some.k < length ps) listed c.in-Some.ensures.0 in (
      is_lower c.args.levels.now.braid c.args.levels.now.last c.in-Some.k c.args.product.now c.args.letter c.leading.result c.back.result first c.if-leading-letter.false before less at,
      c.value.ensures.last c.last-last.ensures.value
          ∙ ap (λ n. Rule (rule_of c.args.levels.now.braid n (word_at (products c.args.levels.now.braid n) c.in-Some.k))) c.last-last.ensures.value
          ∙ ap (λ g. Rule (rule_of c.args.levels.now.braid c.args.levels.now.last g)) (at ∙ before),
    )

pub returns-in-None : goal.returns-in-None
returns-in-None c =
    let listed : c.products.result.now ≡ products c.args.levels.now.braid c.args.levels.now.last = c.products.ensures ∙ ap (products c.args.levels.now.braid) c.last-last.ensures.value in
    let first : c.leading.result ≡ leading c.args.levels.now.braid c.args.letter = c.leading.ensures.value ∙ ap (λ (b : BraidValue). leading b c.args.letter) c.braid-braid.ensures in
    let before : c.back.result ≡ product_before c.args.levels.now.braid c.args.letter c.args.product.now = c.back.ensures.value ∙ ap (λ (b : BraidValue). product_before b c.args.letter c.args.product.now) c.braid-braid.ensures in
    no_lower c.args.levels.now.braid c.args.levels.now.last c.args.product.now c.args.letter c.leading.result c.back.result first c.if-leading-letter.false before
    (λ i. c.in-None.ensures (subst (λ ps. Contains ps c.back.result) (sym listed) i))
