use Rattle.std.proofs.Common.{◌≡◌, take}
use Rattle.nichols_braid.proofs.products.Products.copy.Given as goal

abbrev pub invariant-loop-k : goal.invariant-loop-k
invariant-loop-k l = l.out ≡ take l.k l.self
