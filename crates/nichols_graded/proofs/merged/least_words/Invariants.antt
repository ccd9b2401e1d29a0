use Rattle.std.proofs.Common.{◌≡◌, flat_map, take}
use Rattle.nichols_braid.specs.Products.{products}
use Rattle.nichols_value.specs.Block.{block_basis}
use Rattle.nichols_graded.proofs.merged.least_words.Given as goal

abbrev pub invariant-loop-k : goal.invariant-loop-k
invariant-loop-k l = l.words.items ≡ flat_map (block_basis l.levels.braid l.m) (take l.k (products l.levels.braid l.m))
