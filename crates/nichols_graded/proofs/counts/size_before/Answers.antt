use Rattle.std.proofs.Common.{length, sym, ◌∙◌, ap, subst}
use Rattle.std.specs.List.{Contains}
use Rattle.nichols_value.specs.Block.{block_basis}
use Rattle.nichols_value.proofs.Blocks.{no_block_basis}
use Rattle.nichols_graded.proofs.counts.size_before.Goals as goal

pub returns-in-None-clause-value : goal.returns-in-None-clause-value
returns-in-None-clause-value c =
    sym (ap (λ g. length (block_basis c.args.braid.now c.args.degree g)) (sym c.back.ensures.value)
    ∙ ap length (no_block_basis c.args.braid.now c.args.degree c.back.result (λ i. c.in-None.ensures (subst (λ gs. Contains gs c.back.result) (sym c.requires.products) i))))
