use Rattle.std.proofs.Common.{◌≡◌, ◌-◌, length, take, ◌∙◌, ap, arith}
use Rattle.std.specs.Prelude.{slice_index}
use Rattle.nichols_braid.specs.Product.{product_after, IsProduct}
use Rattle.nichols_braid.proofs.InlineProducts.{padded_start, padded-set, row_size, row_letter, fields_made, field_of_size, rearranges, one_more, after_made, after_is_rearrangement, after_a_word}
use Rattle.nichols_tensor.specs.Inline.{IsInline}
use Rattle.nichols_braid.specs.declared.product.TheConstants.{ROOM}
use Rattle.nichols_braid.proofs.product.Product.times.Goals as goal
use Rattle.nichols_braid.proofs.Rearranged.{rearranged_length}

-- the lists have as many entries as there are letters
pub loop-j-init : goal.loop-j-init
loop-j-init c = (
  padded_start (length c.row-row.result.now) (let size = row_size c.args.braid.now c.args.a c.row-row.result.now c.row-row.ensures.images in omega (arith, size, c.row-row.ensures.braid.most)),
  λ k less. absurd (omega arith),
)

pub overflow_sub-images : goal.overflow_sub-images
overflow_sub-images c = let l = row_letter c.args.braid.now c.row-row.ensures.braid.rack c.args.a c.requires.letter c.row-row.result.now c.row-row.ensures.images c.loop-j.j c.loop-j-test.true in omega (arith, c.from.ensures, l.0)

pub bounds-own-from : goal.bounds-own-from
bounds-own-from c = let l = row_letter c.args.braid.now c.row-row.ensures.braid.rack c.args.a c.requires.letter c.row-row.result.now c.row-row.ensures.images c.loop-j.j c.loop-j-test.true in omega (arith, c.from.ensures, l.0, l.1, ap length c.images-own.ensures.same, c.requires.letters)

pub bounds-images-j : goal.bounds-images-j
bounds-images-j c = let size = row_size c.args.braid.now c.args.a c.row-row.result.now c.row-row.ensures.images in omega (arith, size, c.loop-j-test.true, c.row-row.ensures.braid.most)

pub loop-j-preserved : goal.loop-j-preserved
loop-j-preserved c = (
  padded-set (length c.row-row.result.now) c.loop-j.images c.loop-j.j (slice_index c.images-own.result.now (c.from.result - 1)) c.loop-j.invariant.0 c.loop-j-test.true,
  one_more (λ k. slice_index c.images-own.result.now (slice_index c.row-row.result.now k - 1)) c.loop-j.images c.loop-j.j (slice_index c.images-own.result.now (c.from.result - 1))
      (let size = row_size c.args.braid.now c.args.a c.row-row.result.now c.row-row.ensures.images in omega (arith, size, c.loop-j.invariant.0.whole, c.loop-j-test.true, c.row-row.ensures.braid.most))
      (ap (λ i. slice_index c.images-own.result.now (i - 1)) c.from.ensures) c.loop-j.invariant.1,
)

made : (c : goal.After-self) → IsInline ROOM IsProduct c.self.inside.letters c.loop-j.images × (take c.self.inside.letters c.loop-j.images ≡ product_after c.args.braid.now c.args.a c.args.self.now)
made c =
    let size : length c.row-row.result.now ≡ c.args.braid.now.letters = row_size c.args.braid.now c.args.a c.row-row.result.now c.row-row.ensures.images in
    fields_made c.args.braid.now c.row-row.ensures.braid c.self.inside.letters c.row-row.result.now c.loop-j.images (product_after c.args.braid.now c.args.a c.args.self.now)
    (field_of_size c.self.inside.letters c.args.braid.now.letters c.self.inside.images c.args.self.now c.self.invariant c.self.view_is c.requires.letters) size c.loop-j.invariant.0
    (after_made c.args.braid.now c.args.a c.row-row.result.now c.images-own.result.now c.loop-j.images c.row-row.ensures.images (omega (arith, c.loop-j.invariant.0.whole, c.row-row.ensures.braid.most))
    (λ k less. c.loop-j.invariant.1 k (omega (arith, size, less, c.loop-j-test.false)))
    ∙ ap (product_after c.args.braid.now c.args.a) c.images-own.ensures.same)
    (after_is_rearrangement c.args.braid.now c.row-row.ensures.braid.rack c.args.a c.requires.letter c.args.self.now (rearranges c.args.braid.now.letters c.args.self.now c.images-own.ensures.product c.requires.letters))

pub invariant_of-result : goal.invariant_of-result
invariant_of-result c = (made c).0

pub returns-clause-value : goal.returns-clause-value
returns-clause-value c = (made c).1

pub returns-clause-word : goal.returns-clause-word
returns-clause-word c = λ w is. (made c).1 ∙ ap (product_after c.args.braid.now c.args.a) is ∙ after_a_word c.args.braid.now c.row-row.ensures.braid.rack c.args.a c.requires.letter w

pub returns-clause-size : goal.returns-clause-size
returns-clause-size c =
    ap length (made c).1
    ∙ rearranged_length c.args.braid.now.letters (product_after c.args.braid.now c.args.a c.args.self.now) (after_is_rearrangement c.args.braid.now c.row-row.ensures.braid.rack c.args.a c.requires.letter c.args.self.now (rearranges c.args.braid.now.letters c.args.self.now c.images-own.ensures.product c.requires.letters))
