use Rattle.std.proofs.Common.{◌≡◌, ℕ, suc, ◌+◌, ◌<◌, take, sym, ◌∙◌, ap, arith, subst, length}
use Rattle.std.specs.Prelude.{slice_index, slice_set}
use Rattle.nichols_tensor.proofs.Letters.{up_to_length}
use Rattle.nichols_tensor.specs.Words.{up_to}
use Rattle.nichols_braid.proofs.InlineProducts.{padded_start, padded-set, inline_product, identity_is_product, one_more, identity_made, product_of_none}
use Rattle.nichols_braid.proofs.product.Product.identity.Goals as goal

pub loop-j-init : goal.loop-j-init
loop-j-init c = (padded_start c.args.letters c.requires.most, λ k less. absurd (omega arith))

pub bounds-images-from : goal.bounds-images-from
bounds-images-from c = omega (arith, c.from.ensures, c.loop-j-test.true, c.requires.most)

pub loop-j-preserved : goal.loop-j-preserved
loop-j-preserved c = (
  padded-set c.args.letters c.loop-j.images c.from.result (c.loop-j.j + 1) c.loop-j.invariant.0 (omega (arith, c.from.ensures, c.loop-j-test.true)),
  subst (λ (i : ℕ). (k : ℕ) → k < c.loop-j.j + 1 → slice_index (slice_set c.loop-j.images i (c.loop-j.j + 1)) k ≡ suc k) (sym c.from.ensures)
      (one_more (λ k. suc k) c.loop-j.images c.loop-j.j (c.loop-j.j + 1) (omega (arith, c.loop-j.invariant.0.whole, c.loop-j-test.true, c.requires.most)) (omega arith) c.loop-j.invariant.1),
)

made : (c : goal.After-loop-j) → take c.args.letters c.loop-j.images ≡ up_to c.args.letters
made c = identity_made c.args.letters c.loop-j.images (omega (arith, c.loop-j.invariant.0.whole, c.requires.most)) (λ k less. c.loop-j.invariant.1 k (omega (arith, less, c.loop-j-test.false)))

pub invariant_of-result : goal.invariant_of-result
invariant_of-result c = inline_product c.args.letters c.loop-j.images (up_to c.args.letters) c.requires.most c.loop-j.invariant.0 (made c) (identity_is_product c.args.letters c.requires.least)

pub returns-clause-value : goal.returns-clause-value
returns-clause-value c = made c

pub returns-clause-word : goal.returns-clause-word
returns-clause-word c = λ braid size. made c ∙ ap up_to (sym size) ∙ sym (product_of_none braid)

pub returns-clause-size : goal.returns-clause-size
returns-clause-size c = ap length (made c) ∙ up_to_length c.args.letters
