use Rattle.std.proofs.Common.{◌≡◌, ◌∙◌, ap, map, subst, sym}
use Rattle.nichols_field.specs.Field.{element_of_sum}
use Rattle.nichols_tensor.specs.Combination.{AllElements, value_at}
use Rattle.nichols_braid.specs.Braid.{IsBraid}
use Rattle.nichols_braid.specs.Product.{product_of}
use Rattle.nichols_memo.specs.Calls.{IsHitOf}
use Rattle.nichols_memo.specs.Forms.{form_of}
use Rattle.nichols_memo.specs.Seats.{braid_of}
use Rattle.nichols_reduce.proofs.KeptForms.{known_elements, sums_of_form}
use Rattle.nichols_reduce.proofs.WordForms.{word_product, words_of_rule}
use Rattle.nichols_reduce.proofs.words.recall.Goals as goal

pub block_rule-rule-requires-clause-there : goal.block_rule-rule-requires-clause-there
block_rule-rule-requires-clause-there c =
    word_product c.args.levels.now.braid c.args.word.now c.product_of_word-product.result c.len.result c.requires.letters c.len.ensures.value
    (subst (λ b. c.product_of_word-product.result ≡ product_of b c.letters.result.now) c.braid-braid.ensures c.product_of_word-product.ensures ∙ ap (product_of c.args.levels.now.braid) c.letters.ensures.same)

pub put_values-requires : goal.put_values-requires
put_values-requires c =
    let is : IsBraid c.args.levels.now.braid = subst IsBraid c.braid-braid.ensures c.field-field.ensures.braid in
    let known : c.in-Hit.known ≡ form_of c.args.levels.now.braid c.args.word.now =
    subst (λ b. c.in-Hit.known ≡ form_of b c.args.word.now) c.requires.memo (subst (IsHitOf (braid_of c.args.memo.now) c.args.word.now) c.in-Hit.is c.in_ok-known.ensures.hit) in
    record {
      elements = subst (λ k. AllElements k c.in-Hit.known) (sym (c.field-field.ensures.field ∙ ap (λ b. b.field) c.braid-braid.ensures)) (known_elements c.args.levels.now.braid is c.args.word.now c.in-Hit.known c.requires.letters known);
    }

pub returns-clause-form : goal.returns-clause-form
returns-clause-form c = λ _.
    let is : IsBraid c.args.levels.now.braid = subst IsBraid c.braid-braid.ensures c.field-field.ensures.braid in
    let field : c.field-field.result ≡ c.args.levels.now.braid.field = c.field-field.ensures.field ∙ ap (λ b. b.field) c.braid-braid.ensures in
    let known : c.in-Hit.known ≡ form_of c.args.levels.now.braid c.args.word.now =
    subst (λ b. c.in-Hit.known ≡ form_of b c.args.word.now) c.requires.memo (subst (IsHitOf (braid_of c.args.memo.now) c.args.word.now) c.in-Hit.is c.in_ok-known.ensures.hit) in
    let product : c.product_of_word-product.result ≡ product_of c.args.levels.now.braid c.args.word.now =
    subst (λ b. c.product_of_word-product.result ≡ product_of b c.letters.result.now) c.braid-braid.ensures c.product_of_word-product.ensures ∙ ap (product_of c.args.levels.now.braid) c.letters.ensures.same in
    sums_of_form c.args.levels.now.braid is c.args.word.now c.in-Hit.known c.put_values.new.sums.items c.requires.letters known
    (subst (λ k. map (element_of_sum k) c.put_values.new.sums.items ≡ map (value_at k c.in-Hit.known) c.basis.result.now) field c.in_ok-put_values.ensures
    ∙ ap (map (value_at c.args.levels.now.braid.field c.in-Hit.known)) (c.basis.ensures.same ∙ words_of_rule c.args.levels.now.braid c.args.word.now c.len.result c.product_of_word-product.result c.block_rule-rule.result.now c.len.ensures.value product c.block_rule-rule.ensures))
