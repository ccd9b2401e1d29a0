use Rattle.std.proofs.Common.{◌≡◌, take}
use Rattle.nichols_braid.specs.Product.{product_of}
use Rattle.nichols_reduce.proofs.words.product_of_word.Given as goal

abbrev pub invariant-loop-letter : goal.invariant-loop-letter
invariant-loop-letter l = l.product ≡ product_of l.braid (take l.letter-index l.letters)
