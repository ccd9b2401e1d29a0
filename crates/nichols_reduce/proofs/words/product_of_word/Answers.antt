use Rattle.std.proofs.Common.{◌∙◌, ap, length, take}
use Rattle.nichols_braid.proofs.InlineProducts.{product_size}
use Rattle.nichols_reduce.proofs.words.product_of_word.Goals as goal

pub times-product-requires-clause-letters : goal.times-product-requires-clause-letters
times-product-requires-clause-letters c = ap length c.loop-letter.invariant ∙ product_size c.args.braid.now (take c.loop-letter.letter-index c.args.letters.now)
