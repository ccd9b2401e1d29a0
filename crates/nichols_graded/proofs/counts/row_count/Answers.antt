use Rattle.std.proofs.Common.{◌≡◌, length, sym, ◌∙◌, ap, arith}
use Rattle.std.specs.List.{sum_by}
use Rattle.nichols_tensor.specs.Words.{up_to}
use Rattle.nichols_braid.specs.Product.{product_before}
use Rattle.nichols_value.specs.Block.{block_basis}
use Rattle.nichols_graded.proofs.BlockSizes.{rows_by_blocks}
use Rattle.nichols_graded.proofs.counts.row_count.Goals as goal

pub returns : goal.returns
returns c =
    let ends : c.loop-a.a ≡ c.args.braid.now.letters = omega (arith, c.letters-a-end.ensures) in
    c.loop-a.invariant.count ∙ ap (λ n. sum_by (λ b. length (block_basis c.args.braid.now c.args.degree (product_before c.args.braid.now b c.args.product.now))) (up_to n)) ends
    ∙ sym (rows_by_blocks c.args.braid.now c.field-braid.ensures.braid c.args.degree c.args.product.now c.requires.product)
