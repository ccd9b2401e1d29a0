use Rattle.std.proofs.Common.{◌∙◌, ap, length, refl, subst, sym, take, arith}
use Rattle.std.proofs.lemmas.List.{length-take-le}
use Rattle.nichols_tensor.proofs.Over.{word_over-take}
use Rattle.nichols_braid.specs.Product.{product_of}
use Rattle.nichols_reduce.specs.Forms.{IsFormOf}
use Rattle.nichols_reduce.proofs.WordForms.{IsFormOfPrefix, longer_prefix, word_product}
use Rattle.nichols_reduce.proofs.words.put_shared_form.Goals as goal

pub follow-requires-clause-there : goal.follow-requires-clause-there
follow-requires-clause-there c =
    word_product c.args.levels.now.braid (take c.loop-k.k c.args.word.now) c.loop-k.product c.loop-k.k (word_over-take c.args.levels.now.braid.letters c.loop-k.k c.args.word.now c.requires.letters) (sym (length-take-le c.loop-k.k c.args.word.now c.loop-k.invariant.within)) c.loop-k.invariant.product

pub keep-requires-clause-product : goal.keep-requires-clause-product
keep-requires-clause-product c =
    (longer_prefix c.args.levels.now.braid c.args.word.now c.letters-letters.result.now _ c.loop-k.product c.in_ok-product.product c.loop-k.form.items c.follow.new.form.items c.loop-k.k c.min-next.result c.requires.letters c.letters-letters.ensures.same (omega arith) (omega (arith, ap length c.letters-letters.ensures.same)) refl
    c.loop-k.invariant.product c.loop-k.invariant.form c.in_ok-product.ensures.product c.in_ok-product.ensures.form).product ∙ ap (product_of c.args.levels.now.braid) (sym c.prefix.ensures)

pub keep-requires-clause-form : goal.keep-requires-clause-form
keep-requires-clause-form c =
    subst (IsFormOf c.args.levels.now.braid c.prefix.result) (sym c.as_slice.ensures.value) (subst (λ x. IsFormOf c.args.levels.now.braid x c.follow.new.form.items) (sym c.prefix.ensures)
    (longer_prefix c.args.levels.now.braid c.args.word.now c.letters-letters.result.now _ c.loop-k.product c.in_ok-product.product c.loop-k.form.items c.follow.new.form.items c.loop-k.k c.min-next.result c.requires.letters c.letters-letters.ensures.same (omega arith) (omega (arith, ap length c.letters-letters.ensures.same)) refl
    c.loop-k.invariant.product c.loop-k.invariant.form c.in_ok-product.ensures.product c.in_ok-product.ensures.form).form)

pub loop-k-preserved : goal.loop-k-preserved
loop-k-preserved c =
    let read : IsFormOfPrefix c.args.levels.now.braid c.args.word.now c.min-next.result c.in_ok-product.product c.follow.new.form.items =
    longer_prefix c.args.levels.now.braid c.args.word.now c.letters-letters.result.now _ c.loop-k.product c.in_ok-product.product c.loop-k.form.items c.follow.new.form.items c.loop-k.k c.min-next.result c.requires.letters c.letters-letters.ensures.same (omega arith) (omega (arith, ap length c.letters-letters.ensures.same)) refl
    c.loop-k.invariant.product c.loop-k.invariant.form c.in_ok-product.ensures.product c.in_ok-product.ensures.form in
    record {
      seat = c.in_ok-keep.ensures;
      within = omega (arith, ap length c.letters-letters.ensures.same);
      product = read.product;
      form = read.form;
    }
