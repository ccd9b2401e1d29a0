use Rattle.std.proofs.Common.{◌≡◌, ◌≤◌, ◌*◌, length}
use Rattle.std.specs.List.{sum_by}
use Rattle.nichols_tensor.specs.Words.{up_to}
use Rattle.nichols_braid.specs.Product.{product_before}
use Rattle.nichols_value.specs.Block.{block_basis}
use Rattle.nichols_graded.specs.declared.TheConstants.{DIMENSION_BOUND}
use Rattle.nichols_graded.proofs.counts.row_count.Given as goal

abbrev pub invariant-loop-a : goal.invariant-loop-a
invariant-loop-a l = record {
  count : l.count ≡ sum_by (λ b. length (block_basis l.braid l.degree (product_before l.braid b l.product))) (up_to l.a);
  most : l.count ≤ l.a * DIMENSION_BOUND;
}
