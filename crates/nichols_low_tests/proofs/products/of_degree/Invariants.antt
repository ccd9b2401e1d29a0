use Rattle.std.proofs.Common.{◌≡◌}
use Rattle.nichols_braid.specs.Products.{products}
use Rattle.nichols_low_tests.proofs.products.of_degree.Given as goal

abbrev pub invariant-loop-k : goal.invariant-loop-k
invariant-loop-k l = l.out ≡ products l.braid l._k
