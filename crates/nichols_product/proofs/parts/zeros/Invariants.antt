use Rattle.std.proofs.Common.{◌≡◌, replicate}
use Rattle.nichols_product.proofs.parts.zeros.Given as goal

abbrev pub invariant-loop-place : goal.invariant-loop-place
invariant-loop-place l = l.sums.items ≡ replicate l._place 0
