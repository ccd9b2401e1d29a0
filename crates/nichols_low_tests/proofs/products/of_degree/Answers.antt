use Rattle.std.proofs.Common.{◌≡◌, suc, ◌+◌, ◌∙◌, ap, arith}
use Rattle.nichols_braid.specs.Products.{products}
use Rattle.nichols_low_tests.proofs.products.of_degree.Goals as goal

pub next-requires : goal.next-requires
next-requires c = (c.loop-k._k, c.loop-k.invariant)

pub loop-k-preserved : goal.loop-k-preserved
loop-k-preserved c = (c.in_ok-out-2.ensures c.loop-k._k c.loop-k.invariant).0 ∙ ap (products c.args.braid.now) (let one : suc c.loop-k._k ≡ c.loop-k._k + 1 = omega arith in one)
