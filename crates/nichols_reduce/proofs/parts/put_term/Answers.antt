use Rattle.std.proofs.Common.{◌≡◌, ◌++◌, ◌∙◌, ap, refl, sym, subst, length}
use Rattle.nichols_tensor.specs.Combination.{HasSameValues, Term, scalar_multiple, single}
use Rattle.nichols_tensor.specs.Words.{IsWordOver}
use Rattle.nichols_braid.specs.Braid.{IsBraid}
use Rattle.nichols_braid.specs.Product.{product_of}
use Rattle.nichols_value.specs.Block.{block_basis}
use Rattle.nichols_memo.specs.Forms.{form_of}
use Rattle.nichols_reduce.specs.Sums.{combination_of}
use Rattle.nichols_reduce.proofs.PartForms.{elements_with, same_terms, values_of_sums}
use Rattle.nichols_reduce.proofs.WordForms.{word_product, words_of_rule}
use Rattle.nichols_reduce.proofs.parts.put_term.Goals as goal

pub block_rule-rule-requires-clause-there : goal.block_rule-rule-requires-clause-there
block_rule-rule-requires-clause-there c =
    word_product c.args.levels.now.braid c.term.inside.word c.in_ok-product.product c.len.result (subst (λ (t : Term). IsWordOver c.args.levels.now.braid.letters t.word) (sym c.term.view_is) c.requires.letters) c.len.ensures.value c.in_ok-product.ensures.product

pub put_terms-requires-clause-width : goal.put_terms-requires-clause-width
put_terms-requires-clause-width c =
    ap length c.as_slice.ensures.value ∙ c.in_ok-product.ensures.form.width
    ∙ ap length (sym (c.basis.ensures.same ∙ words_of_rule c.args.levels.now.braid c.term.inside.word c.len.result c.in_ok-product.product c.block_rule-rule.result.now c.len.ensures.value c.in_ok-product.ensures.product c.block_rule-rule.ensures))

pub returns-clause-values : goal.returns-clause-values
returns-clause-values c =
    let is : IsBraid c.args.levels.now.braid = subst IsBraid c.braid.ensures c.field-field.ensures.braid in
    let words : c.basis.result.now ≡ block_basis c.args.levels.now.braid (length c.term.inside.word) (product_of c.args.levels.now.braid c.term.inside.word) =
    c.basis.ensures.same ∙ words_of_rule c.args.levels.now.braid c.term.inside.word c.len.result c.in_ok-product.product c.block_rule-rule.result.now c.len.ensures.value c.in_ok-product.ensures.product c.block_rule-rule.ensures in
    subst (λ (t : Term). HasSameValues c.args.levels.now.braid.field c.put_terms.new.terms.items (c.args.sum.now.items ++ scalar_multiple c.args.levels.now.braid.field t.coefficient (form_of c.args.levels.now.braid t.word))) c.term.view_is
    (values_of_sums c.args.levels.now.braid is (length c.term.inside.word) (product_of c.args.levels.now.braid c.term.inside.word) (single c.term.inside.word) c.term.inside.coefficient c.put_form.new.form.items c.args.sum.now.items c.put_terms.new.terms.items c.in_ok-product.ensures.form
    (same_terms c.args.levels.now.braid.field c.field-field.result (c.field-field.ensures.field ∙ ap (λ b. b.field) c.braid.ensures) (block_basis c.args.levels.now.braid (length c.term.inside.word) (product_of c.args.levels.now.braid c.term.inside.word)) c.basis.result.now words
    c.as_slice.result.now c.put_form.new.form.items c.as_slice.ensures.value c.term.inside.coefficient c.args.sum.now.items c.put_terms.new.terms.items c.in_ok-put_terms.ensures))

pub returns-clause-elements : goal.returns-clause-elements
returns-clause-elements c =
    let is : IsBraid c.args.levels.now.braid = subst IsBraid c.braid.ensures c.field-field.ensures.braid in
    elements_with c.args.levels.now.braid.field is.field c.term.inside.coefficient (combination_of c.args.levels.now.braid.field c.basis.result.now c.as_slice.result.now) c.args.sum.now.items c.put_terms.new.terms.items c.requires.elements
    (same_terms c.args.levels.now.braid.field c.field-field.result (c.field-field.ensures.field ∙ ap (λ b. b.field) c.braid.ensures) c.basis.result.now c.basis.result.now refl c.as_slice.result.now c.as_slice.result.now refl c.term.inside.coefficient c.args.sum.now.items c.put_terms.new.terms.items c.in_ok-put_terms.ensures)
