use Rattle.std.proofs.Common.{◌≡◌, ◌+◌, ◌∙◌, ◌∷◌, [], suc, ap, refl, sym, subst, length, slice_index_or, arith}
use Rattle.nichols_braid.specs.Braid.{IsBraid, IsLetter}
use Rattle.nichols_braid.specs.Product.{product_after, product_before}
use Rattle.nichols_braid.proofs.NextProducts.{products_size}
use Rattle.nichols_tensor.proofs.Over.{letter_over}
use Rattle.nichols_value.specs.Block.{block_basis}
use Rattle.nichols_reduce.specs.Forms.{AreFollowed}
use Rattle.nichols_reduce.proofs.ElementForms.{HasRead, above_is, read_more, read_none}
use Rattle.nichols_reduce.proofs.letters.follow.Goals as goal

pub loop-k-init : goal.loop-k-init
loop-k-init c = read_none c.args.levels.now.braid c.args.m c.args.product.now c.args.form.now.items c.args.letters.now c.requires.there c.requires.form

pub times-longer-requires-clause-letters : goal.times-longer-requires-clause-letters
times-longer-requires-clause-letters c = products_size c.args.levels.now.braid (c.args.m + c.loop-k.k) c.loop-k.longer c.loop-k.invariant.there ∙ ap (λ b. b.letters) (sym c.braid-braid.ensures)

pub put_longer-requires-clause-there : goal.put_longer-requires-clause-there
put_longer-requires-clause-there c =
    let is : IsBraid c.args.levels.now.braid = subst IsBraid c.braid-braid.ensures c.field-field.ensures.braid in
    let over : IsLetter c.args.levels.now.braid (slice_index_or c.args.letters.now c.loop-k.k 0) = letter_over c.args.levels.now.braid.letters c.args.letters.now c.loop-k.k c.requires.letters (omega arith) in
    (above_is c.args.levels.now.braid is (c.args.m + c.loop-k.k) c.loop-k.longer (slice_index_or c.args.letters.now c.loop-k.k 0) c.times-longer.result c.loop-k.invariant.there over
    (subst (λ b. c.times-longer.result ≡ product_after b (slice_index_or c.args.letters.now c.loop-k.k 0) c.loop-k.longer) c.braid-braid.ensures c.times-longer.ensures.value)).there

pub put_longer-requires-clause-form : goal.put_longer-requires-clause-form
put_longer-requires-clause-form c =
    let is : IsBraid c.args.levels.now.braid = subst IsBraid c.braid-braid.ensures c.field-field.ensures.braid in
    let over : IsLetter c.args.levels.now.braid (slice_index_or c.args.letters.now c.loop-k.k 0) = letter_over c.args.levels.now.braid.letters c.args.letters.now c.loop-k.k c.requires.letters (omega arith) in
    ap length c.as_slice.ensures.value ∙ c.loop-k.invariant.followed.width
    ∙ ap (λ h. length (block_basis c.args.levels.now.braid (c.args.m + c.loop-k.k) h))
    (sym (above_is c.args.levels.now.braid is (c.args.m + c.loop-k.k) c.loop-k.longer (slice_index_or c.args.letters.now c.loop-k.k 0) c.times-longer.result c.loop-k.invariant.there over
    (subst (λ b. c.times-longer.result ≡ product_after b (slice_index_or c.args.letters.now c.loop-k.k 0) c.loop-k.longer) c.braid-braid.ensures c.times-longer.ensures.value)).before)

pub loop-k-preserved : goal.loop-k-preserved
loop-k-preserved c =
    let is : IsBraid c.args.levels.now.braid = subst IsBraid c.braid-braid.ensures c.field-field.ensures.braid in
    subst (HasRead c.args.levels.now.braid c.args.m c.args.product.now c.args.form.now.items c.args.letters.now (c.loop-k.k + 1) c.times-longer.result) (ap (λ v. v.items) (sym c.swap.ensures.x_after))
    (read_more c.args.levels.now.braid is c.args.m c.args.product.now c.args.form.now.items c.args.letters.now c.loop-k.k (slice_index_or c.args.letters.now c.loop-k.k 0) (c.args.m + c.loop-k.k) c.loop-k.longer c.loop-k.form.items c.times-longer.result c.put_longer.new.sums.items
    c.requires.letters (omega arith) refl refl c.loop-k.invariant
    (subst (λ b. c.times-longer.result ≡ product_after b (slice_index_or c.args.letters.now c.loop-k.k 0) c.loop-k.longer) c.braid-braid.ensures c.times-longer.ensures.value)
    (subst (λ x. AreFollowed c.args.levels.now.braid (c.args.m + c.loop-k.k) (product_before c.args.levels.now.braid (slice_index_or c.args.letters.now c.loop-k.k 0) c.times-longer.result) x (slice_index_or c.args.letters.now c.loop-k.k 0 ∷ []) (suc (c.args.m + c.loop-k.k)) c.times-longer.result c.put_longer.new.sums.items) c.as_slice.ensures.value c.in_ok-put_longer.ensures))
