use Rattle.std.proofs.Common.{◌≡◌, ◌≤◌, ◌∙◌, ap, sym, subst, length, arith}
use Rattle.std.proofs.lemmas.List.{take_all}
use Rattle.nichols_field.specs.Field.{IsElement}
use Rattle.nichols_field.proofs.FieldLaws.{one_is_element}
use Rattle.nichols_tensor.specs.Combination.{HasSameValues}
use Rattle.nichols_braid.specs.Braid.{IsBraid}
use Rattle.nichols_value.specs.Block.{block_basis}
use Rattle.nichols_value.proofs.RuleEntries.{basis_is}
use Rattle.nichols_reduce.proofs.PartForms.{same_terms}
use Rattle.nichols_product.specs.Parts.{IsPart, total}
use Rattle.nichols_product.proofs.PartSums.{part_at}
use Rattle.nichols_product.proofs.PartTerms.{terms_of_none, terms_of_more}
use Rattle.nichols_product.proofs.parts.form_of_parts.Goals as goal

pub loop-part-init : goal.loop-part-init
loop-part-init c = terms_of_none c.args.levels.now.braid c.args.parts.now c.new-terms.result.items c.new-terms.ensures.items

pub put_terms-requires-clause-factor : goal.put_terms-requires-clause-factor
put_terms-requires-clause-factor c = subst (λ k. IsElement k 1) (sym c.field-field.ensures.field) (one_is_element c.braid.result.now.field c.field-field.ensures.braid.field)

pub put_terms-requires-clause-width : goal.put_terms-requires-clause-width
put_terms-requires-clause-width c =
    let part : IsPart c.args.levels.now.braid c.args.levels.now.last c.part-item.result = part_at (IsPart c.args.levels.now.braid c.args.levels.now.last) c.args.parts.now c.loop-part.part-index c.part-item.result c.requires (omega arith) c.part-item.is in
    ap length c.as_slice.ensures.value ∙ part.width ∙ ap length (sym (c.basis.ensures.same ∙ basis_is c.args.levels.now.braid c.part-item.result.degree c.part-item.result.product c.block_rule-rule.result.now c.block_rule-rule.ensures))

pub loop-part-preserved : goal.loop-part-preserved
loop-part-preserved c =
    let is : IsBraid c.args.levels.now.braid = subst IsBraid c.braid.ensures c.field-field.ensures.braid in
    let field : c.field-field.result ≡ c.args.levels.now.braid.field = c.field-field.ensures.field ∙ ap (λ b. b.field) c.braid.ensures in
    let words : c.basis.result.now ≡ block_basis c.args.levels.now.braid c.part-item.result.degree c.part-item.result.product =
    c.basis.ensures.same ∙ basis_is c.args.levels.now.braid c.part-item.result.degree c.part-item.result.product c.block_rule-rule.result.now c.block_rule-rule.ensures in
    terms_of_more c.args.levels.now.braid is.field c.args.parts.now c.loop-part.part-index c.part-item.result c.loop-part.terms.items c.put_terms.new.terms.items (omega arith) c.part-item.is c.loop-part.invariant
    (same_terms c.args.levels.now.braid.field c.field-field.result field (block_basis c.args.levels.now.braid c.part-item.result.degree c.part-item.result.product) c.basis.result.now words c.as_slice.result.now c.part-item.result.sums.items c.as_slice.ensures.value 1 c.loop-part.terms.items
    c.put_terms.new.terms.items c.in_ok-put_terms.ensures)

pub returns-clause-values : goal.returns-clause-values
returns-clause-values c =
    let field : c.field-field.result ≡ c.args.levels.now.braid.field = c.field-field.ensures.field ∙ ap (λ b. b.field) c.braid.ensures in
    let past : length c.args.parts.now ≤ c.loop-part.part-index = omega arith in
    subst (λ ps. HasSameValues c.args.levels.now.braid.field c.in_ok-form.form (total c.args.levels.now.braid ps)) (take_all c.loop-part.part-index c.args.parts.now past)
    (λ v.
    subst (λ k. HasSameValues k c.in_ok-form.form c.loop-part.terms.items) field (subst (HasSameValues c.field-field.result c.in_ok-form.form) c.as_mut_slice.ensures.value c.in_ok-form.ensures.value) v
    ∙ c.loop-part.invariant.values v)
