use Rattle.std.proofs.Common.{◌≡◌, ℕ, List, ◌++◌, map}
use Rattle.nichols_tensor.specs.Words.{up_to}
use Rattle.nichols_braid.specs.Product.{product_after}
use Rattle.nichols_braid.specs.Products.{each_once}
use Rattle.nichols_braid.proofs.products.Products.with_followed.Given as goal

abbrev pub invariant-loop-a : goal.invariant-loop-a
invariant-loop-a l = (gs : List (List ℕ)) → l.fn.self ≡ each_once gs → l.out ≡ each_once (gs ++ map (λ a. product_after l.braid a l.product) (up_to l.a))
