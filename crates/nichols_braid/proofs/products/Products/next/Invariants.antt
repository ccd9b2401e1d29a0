use Rattle.std.proofs.Common.{◌≡◌, take}
use Rattle.std.specs.List.{flat_map}
use Rattle.nichols_braid.specs.Products.{each_once}
use Rattle.nichols_braid.proofs.NextProducts.{followed}
use Rattle.nichols_braid.proofs.products.Products.next.Given as goal

abbrev pub invariant-loop-k : goal.invariant-loop-k
invariant-loop-k l = l.out ≡ each_once (flat_map (followed l.braid) (take l.k l.self))
