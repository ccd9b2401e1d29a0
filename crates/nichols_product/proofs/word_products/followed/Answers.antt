use Rattle.std.proofs.Common.{◌≡◌, ◌+◌, ◌++◌, [], ◌∙◌, ap, ap₂, subst, length, length-append, sym, arith}
use Rattle.nichols_field.specs.Field.{IsElement}
use Rattle.nichols_field.proofs.FieldLaws.{one_is_element}
use Rattle.nichols_tensor.specs.Combination.{scalar_multiple, without_zeros}
use Rattle.nichols_tensor.proofs.Over.{word_over-append}
use Rattle.nichols_braid.specs.Braid.{IsBraid}
use Rattle.nichols_braid.specs.Product.{product_of}
use Rattle.nichols_value.specs.Block.{block_basis}
use Rattle.nichols_reduce.specs.Sums.{combination_of}
use Rattle.nichols_reduce.proofs.KeptForms.{AreFormTerms, terms_of_form}
use Rattle.nichols_reduce.proofs.PartForms.{same_terms}
use Rattle.nichols_reduce.proofs.WordForms.{word_product, words_of_rule}
use Rattle.nichols_product.proofs.WordProducts.{IsLonger, long_product_is_zero, longer_is, product_is}
use Rattle.nichols_product.proofs.word_products.followed.Goals as goal

pub returns-then-degree-more : goal.returns-then-degree-more
returns-then-degree-more c =
    let is : IsBraid c.args.levels.now.braid = subst IsBraid c.braid.ensures c.field-field.ensures.braid in
    c.zero.ensures
    ∙ sym (long_product_is_zero c.args.levels.now.braid is c.args.levels.now.last c.args.word.now c.args.other.now c.requires.closed c.requires.letters c.requires.other_letters (omega arith))

pub follow-requires-clause-there : goal.follow-requires-clause-there
follow-requires-clause-there c = word_product c.args.levels.now.braid c.args.word.now c.args.product.now c.len-degree.result c.requires.letters c.len-degree.ensures.value c.requires.product

pub block_rule-rule-requires-clause-there : goal.block_rule-rule-requires-clause-there
block_rule-rule-requires-clause-there c =
    let longer : IsLonger c.args.levels.now.braid c.args.word.now c.args.other.now c.in_ok-after.after c.follow.new.form.items =
    longer_is c.args.levels.now.braid c.args.word.now c.args.other.now c.letters.result.now c.args.product.now c.in_ok-after.after c.args.form.now c.in_ok-longer.longer.items c.follow.new.form.items c.len-degree.result c.requires.letters
    c.len-degree.ensures.value c.requires.product c.letters.ensures.same c.in_ok-longer.ensures.items c.requires.form c.in_ok-after.ensures.product c.in_ok-after.ensures.form in
    let size : c.len-degree.result + c.len-more.result ≡ length (c.args.word.now ++ c.args.other.now) =
    ap₂ (λ m n. m + n) c.len-degree.ensures.value c.len-more.ensures.value ∙ sym (length-append c.args.word.now c.args.other.now) in
    word_product c.args.levels.now.braid (c.args.word.now ++ c.args.other.now) c.in_ok-after.after (c.len-degree.result + c.len-more.result)
    (word_over-append c.args.levels.now.braid.letters c.args.word.now c.args.other.now c.requires.letters c.requires.other_letters) size longer.product

pub put_terms-requires-clause-factor : goal.put_terms-requires-clause-factor
put_terms-requires-clause-factor c = subst (λ k. IsElement k 1) (sym c.field-field.ensures.field) (one_is_element c.braid.result.now.field c.field-field.ensures.braid.field)

pub put_terms-requires-clause-width : goal.put_terms-requires-clause-width
put_terms-requires-clause-width c =
    let longer : IsLonger c.args.levels.now.braid c.args.word.now c.args.other.now c.in_ok-after.after c.follow.new.form.items =
    longer_is c.args.levels.now.braid c.args.word.now c.args.other.now c.letters.result.now c.args.product.now c.in_ok-after.after c.args.form.now c.in_ok-longer.longer.items c.follow.new.form.items c.len-degree.result c.requires.letters
    c.len-degree.ensures.value c.requires.product c.letters.ensures.same c.in_ok-longer.ensures.items c.requires.form c.in_ok-after.ensures.product c.in_ok-after.ensures.form in
    let size : c.len-degree.result + c.len-more.result ≡ length (c.args.word.now ++ c.args.other.now) =
    ap₂ (λ m n. m + n) c.len-degree.ensures.value c.len-more.ensures.value ∙ sym (length-append c.args.word.now c.args.other.now) in
    let words : c.basis.result.now ≡ block_basis c.args.levels.now.braid (length (c.args.word.now ++ c.args.other.now)) (product_of c.args.levels.now.braid (c.args.word.now ++ c.args.other.now)) =
    c.basis.ensures.same
    ∙ words_of_rule c.args.levels.now.braid (c.args.word.now ++ c.args.other.now) (c.len-degree.result + c.len-more.result) c.in_ok-after.after c.block_rule-rule.result.now size longer.product c.block_rule-rule.ensures in
    ap length c.as_slice.ensures.value ∙ longer.form.width ∙ ap length (sym words)

pub from_terms-requires : goal.from_terms-requires
from_terms-requires c =
    let longer : IsLonger c.args.levels.now.braid c.args.word.now c.args.other.now c.in_ok-after.after c.follow.new.form.items =
    longer_is c.args.levels.now.braid c.args.word.now c.args.other.now c.letters.result.now c.args.product.now c.in_ok-after.after c.args.form.now c.in_ok-longer.longer.items c.follow.new.form.items c.len-degree.result c.requires.letters
    c.len-degree.ensures.value c.requires.product c.letters.ensures.same c.in_ok-longer.ensures.items c.requires.form c.in_ok-after.ensures.product c.in_ok-after.ensures.form in
    let size : c.len-degree.result + c.len-more.result ≡ length (c.args.word.now ++ c.args.other.now) =
    ap₂ (λ m n. m + n) c.len-degree.ensures.value c.len-more.ensures.value ∙ sym (length-append c.args.word.now c.args.other.now) in
    let words : c.basis.result.now ≡ block_basis c.args.levels.now.braid (length (c.args.word.now ++ c.args.other.now)) (product_of c.args.levels.now.braid (c.args.word.now ++ c.args.other.now)) =
    c.basis.ensures.same
    ∙ words_of_rule c.args.levels.now.braid (c.args.word.now ++ c.args.other.now) (c.len-degree.result + c.len-more.result) c.in_ok-after.after c.block_rule-rule.result.now size longer.product c.block_rule-rule.ensures in
    let is : IsBraid c.args.levels.now.braid = subst IsBraid c.braid.ensures c.field-field.ensures.braid in
    let found : AreFormTerms c.args.levels.now.braid (c.args.word.now ++ c.args.other.now) c.put_terms.new.terms.items =
    terms_of_form c.args.levels.now.braid is (c.args.word.now ++ c.args.other.now) c.follow.new.form.items c.put_terms.new.terms.items (word_over-append c.args.levels.now.braid.letters c.args.word.now c.args.other.now c.requires.letters c.requires.other_letters) longer.form
    (same_terms c.args.levels.now.braid.field c.field-field.result (c.field-field.ensures.field ∙ ap (λ b. b.field) c.braid.ensures) (block_basis c.args.levels.now.braid (length (c.args.word.now ++ c.args.other.now)) (product_of c.args.levels.now.braid (c.args.word.now ++ c.args.other.now))) c.basis.result.now words
    c.as_slice.result.now c.follow.new.form.items c.as_slice.ensures.value 1 [] c.put_terms.new.terms.items
    (c.in_ok-put_terms.ensures ∙ ap (λ g. g ++ without_zeros (scalar_multiple c.field-field.result 1 (combination_of c.field-field.result c.basis.result.now c.as_slice.result.now))) c.new-terms.ensures.items)) in
    found.ordered

pub returns : goal.returns
returns c =
    let longer : IsLonger c.args.levels.now.braid c.args.word.now c.args.other.now c.in_ok-after.after c.follow.new.form.items =
    longer_is c.args.levels.now.braid c.args.word.now c.args.other.now c.letters.result.now c.args.product.now c.in_ok-after.after c.args.form.now c.in_ok-longer.longer.items c.follow.new.form.items c.len-degree.result c.requires.letters
    c.len-degree.ensures.value c.requires.product c.letters.ensures.same c.in_ok-longer.ensures.items c.requires.form c.in_ok-after.ensures.product c.in_ok-after.ensures.form in
    let size : c.len-degree.result + c.len-more.result ≡ length (c.args.word.now ++ c.args.other.now) =
    ap₂ (λ m n. m + n) c.len-degree.ensures.value c.len-more.ensures.value ∙ sym (length-append c.args.word.now c.args.other.now) in
    let words : c.basis.result.now ≡ block_basis c.args.levels.now.braid (length (c.args.word.now ++ c.args.other.now)) (product_of c.args.levels.now.braid (c.args.word.now ++ c.args.other.now)) =
    c.basis.ensures.same
    ∙ words_of_rule c.args.levels.now.braid (c.args.word.now ++ c.args.other.now) (c.len-degree.result + c.len-more.result) c.in_ok-after.after c.block_rule-rule.result.now size longer.product c.block_rule-rule.ensures in
    let is : IsBraid c.args.levels.now.braid = subst IsBraid c.braid.ensures c.field-field.ensures.braid in
    let found : AreFormTerms c.args.levels.now.braid (c.args.word.now ++ c.args.other.now) c.put_terms.new.terms.items =
    terms_of_form c.args.levels.now.braid is (c.args.word.now ++ c.args.other.now) c.follow.new.form.items c.put_terms.new.terms.items (word_over-append c.args.levels.now.braid.letters c.args.word.now c.args.other.now c.requires.letters c.requires.other_letters) longer.form
    (same_terms c.args.levels.now.braid.field c.field-field.result (c.field-field.ensures.field ∙ ap (λ b. b.field) c.braid.ensures) (block_basis c.args.levels.now.braid (length (c.args.word.now ++ c.args.other.now)) (product_of c.args.levels.now.braid (c.args.word.now ++ c.args.other.now))) c.basis.result.now words
    c.as_slice.result.now c.follow.new.form.items c.as_slice.ensures.value 1 [] c.put_terms.new.terms.items
    (c.in_ok-put_terms.ensures ∙ ap (λ g. g ++ without_zeros (scalar_multiple c.field-field.result 1 (combination_of c.field-field.result c.basis.result.now c.as_slice.result.now))) c.new-terms.ensures.items)) in
    c.from_terms.ensures ∙ found.form ∙ product_is c.args.levels.now.braid is c.args.word.now c.args.other.now c.requires.letters c.requires.other_letters
