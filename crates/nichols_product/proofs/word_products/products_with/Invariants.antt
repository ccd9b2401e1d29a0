use Rattle.std.proofs.Common.{◌≡◌, map, take}
use Rattle.nichols_product.specs.WordProducts.{product_of_words}
use Rattle.nichols_product.proofs.word_products.products_with.Given as goal

abbrev pub invariant-loop-other : goal.invariant-loop-other
invariant-loop-other l = l.products.items ≡ map (product_of_words l.levels.braid l.word) (take l.other-index l.others)
