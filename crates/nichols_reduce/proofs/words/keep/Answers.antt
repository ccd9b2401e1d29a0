use Rattle.std.proofs.Common.{◌≡◌, ◌++◌, [], ◌∙◌, ap, refl, subst, length, sym}
use Rattle.nichols_field.specs.Field.{IsElement}
use Rattle.nichols_field.proofs.FieldLaws.{one_is_element}
use Rattle.nichols_tensor.specs.Combination.{scalar_multiple, without_zeros}
use Rattle.nichols_braid.specs.Braid.{IsBraid}
use Rattle.nichols_braid.specs.Product.{product_of}
use Rattle.nichols_value.specs.Block.{block_basis}
use Rattle.nichols_memo.specs.Forms.{form_of}
use Rattle.nichols_reduce.specs.Sums.{combination_of}
use Rattle.nichols_reduce.proofs.KeptForms.{terms_of_form}
use Rattle.nichols_reduce.proofs.PartForms.{same_terms}
use Rattle.nichols_reduce.proofs.WordForms.{word_product, words_of_rule}
use Rattle.nichols_reduce.proofs.words.keep.Goals as goal

pub block_rule-rule-requires-clause-there : goal.block_rule-rule-requires-clause-there
block_rule-rule-requires-clause-there c = word_product c.args.levels.now.braid c.args.word c.args.product.now c.len.result c.requires.letters c.len.ensures.value c.requires.product

pub put_terms-requires-clause-factor : goal.put_terms-requires-clause-factor
put_terms-requires-clause-factor c = subst (λ k. IsElement k 1) (sym c.field-field.ensures.field) (one_is_element c.braid.result.now.field c.field-field.ensures.braid.field)

pub put_terms-requires-clause-width : goal.put_terms-requires-clause-width
put_terms-requires-clause-width c =
    c.requires.form.width ∙ ap length (sym (c.basis.ensures.same ∙ words_of_rule c.args.levels.now.braid c.args.word c.len.result c.args.product.now c.block_rule-rule.result.now c.len.ensures.value c.requires.product c.block_rule-rule.ensures))

pub from_terms-requires : goal.from_terms-requires
from_terms-requires c =
    let is : IsBraid c.args.levels.now.braid = subst IsBraid c.braid.ensures c.field-field.ensures.braid in
    let words : c.basis.result.now ≡ block_basis c.args.levels.now.braid (length c.args.word) (product_of c.args.levels.now.braid c.args.word) =
    c.basis.ensures.same ∙ words_of_rule c.args.levels.now.braid c.args.word c.len.result c.args.product.now c.block_rule-rule.result.now c.len.ensures.value c.requires.product c.block_rule-rule.ensures in
    (terms_of_form c.args.levels.now.braid is c.args.word c.args.form.now c.put_terms.new.terms.items c.requires.letters c.requires.form
    (same_terms c.args.levels.now.braid.field c.field-field.result (c.field-field.ensures.field ∙ ap (λ b. b.field) c.braid.ensures) (block_basis c.args.levels.now.braid (length c.args.word) (product_of c.args.levels.now.braid c.args.word)) c.basis.result.now words
    c.args.form.now c.args.form.now refl 1 [] c.put_terms.new.terms.items
    (c.in_ok-put_terms.ensures ∙ ap (λ g. g ++ without_zeros (scalar_multiple c.field-field.result 1 (combination_of c.field-field.result c.basis.result.now c.args.form.now))) c.new-terms.ensures.items))).ordered

pub keep-requires-clause-form : goal.keep-requires-clause-form
keep-requires-clause-form c =
    let is : IsBraid c.args.levels.now.braid = subst IsBraid c.braid.ensures c.field-field.ensures.braid in
    let words : c.basis.result.now ≡ block_basis c.args.levels.now.braid (length c.args.word) (product_of c.args.levels.now.braid c.args.word) =
    c.basis.ensures.same ∙ words_of_rule c.args.levels.now.braid c.args.word c.len.result c.args.product.now c.block_rule-rule.result.now c.len.ensures.value c.requires.product c.block_rule-rule.ensures in
    c.from_terms.ensures
    ∙ (terms_of_form c.args.levels.now.braid is c.args.word c.args.form.now c.put_terms.new.terms.items c.requires.letters c.requires.form
    (same_terms c.args.levels.now.braid.field c.field-field.result (c.field-field.ensures.field ∙ ap (λ b. b.field) c.braid.ensures) (block_basis c.args.levels.now.braid (length c.args.word) (product_of c.args.levels.now.braid c.args.word)) c.basis.result.now words
    c.args.form.now c.args.form.now refl 1 [] c.put_terms.new.terms.items
    (c.in_ok-put_terms.ensures ∙ ap (λ g. g ++ without_zeros (scalar_multiple c.field-field.result 1 (combination_of c.field-field.result c.basis.result.now c.args.form.now))) c.new-terms.ensures.items))).form
    ∙ ap (λ b. form_of b c.args.word) (sym c.requires.memo)
