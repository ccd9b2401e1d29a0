use Rattle.std.proofs.Common.{◌≡◌, length, ap, ◌∙◌, sym, arith, inl, inr}
use Rattle.std.specs.Prelude.{slice_index}
use Rattle.std.proofs.lemmas.Bool.{cases_lt}
use Rattle.std.proofs.lemmas.List.{nil_from_length, length-map}
use Rattle.nichols_tensor.specs.Positions.{word_at}
use Rattle.nichols_braid.specs.Products.{products}
use Rattle.nichols_value.specs.Block.{block_basis}
use Rattle.nichols_block.proofs.LevelRules.{empty_block, empty_blocks}
use Rattle.nichols_graded.proofs.BlockSizes.{size_at}
use Rattle.nichols_graded.proofs.FinishedDegrees.{empty_is, filled_is}
use Rattle.nichols_graded.proofs.survey.are_empty.Goals as goal

pub returns-then-sizes-k-ne0 : goal.returns-then-sizes-k-ne0
returns-then-sizes-k-ne0 c =
    let b = c.args.braid.now in
    let k = c.loop-k.k in
    sym (filled_is b c.field-field.ensures.braid c.args._degree (λ none.
    let zero : slice_index c.args.sizes.now k ≡ 0 = size_at b c.args._degree c.args.sizes.now c.requires.sizes k c.loop-k-test.true ∙ ap length (empty_block b c.args._degree (word_at (products b c.args._degree) k) none) in
    c.if-sizes-k-ne0.true zero))

pub loop-k-preserved : goal.loop-k-preserved
loop-k-preserved c i less =
    let b = c.args.braid.now in
    let k = c.loop-k.k in
    elim (cases_lt i k) [
      | inl below ↦ c.loop-k.invariant i below
      | inr last ↦
          let here : i ≡ k = omega (arith, less, last) in
          ap (λ j. block_basis b c.args._degree (word_at (products b c.args._degree) j)) here
          ∙ nil_from_length (block_basis b c.args._degree (word_at (products b c.args._degree) k)) (sym (size_at b c.args._degree c.args.sizes.now c.requires.sizes k c.loop-k-test.true) ∙ c.if-sizes-k-ne0.false)
    ]

pub returns : goal.returns
returns c =
    let b = c.args.braid.now in
    let past = c.loop-k-test.false in
    let count : length c.args.sizes.now ≡ length (products b c.args._degree) = ap length c.requires.sizes.counts ∙ length-map (products b c.args._degree) (λ g. length (block_basis b c.args._degree g)) in
    sym (empty_is b c.field-field.ensures.braid c.args._degree (empty_blocks b c.args._degree (λ k less. c.loop-k.invariant k (omega (arith, past, count, less)))))
