use Rattle.nichols_product.proofs.WordProducts.{products_more}
use Rattle.nichols_product.proofs.word_products.products_with.Goals as goal

pub loop-other-preserved : goal.loop-other-preserved
loop-other-preserved c =
    products_more c.args.levels.now.braid c.args.word.now c.args.others.now c.loop-other.other-index c.other-item.result c.loop-other.products.items c.push.new.self.items c.in_ok-followed.field-0 c.loop-other-test.true c.other-item.is c.loop-other.invariant c.in_ok-push.ensures.items c.in_ok-followed.ensures
