use Rattle.std.proofs.Common.{◌≡◌, ◌∷◌, ◌++◌, [], ◌∙◌, ap, refl, subst, length, sym}
use Rattle.nichols_braid.specs.Braid.{IsBraid}
use Rattle.nichols_braid.specs.Product.{product_of}
use Rattle.nichols_value.specs.Block.{block_basis}
use Rattle.nichols_reduce.proofs.WordForms.{first_form, word_product}
use Rattle.nichols_product.proofs.WordProducts.{form_found}
use Rattle.nichols_product.proofs.word_products.put_form.Goals as goal

pub follow-requires-clause-there : goal.follow-requires-clause-there
follow-requires-clause-there c =
    word_product c.args.levels.now.braid [] c.identity-empty.result 0 tt refl (c.identity-empty.ensures.word c.args.levels.now.braid (sym (c.letters.ensures ∙ ap (λ b. b.letters) c.braid-braid.ensures)))

pub follow-requires-clause-form : goal.follow-requires-clause-form
follow-requires-clause-form c =
    let is : IsBraid c.args.levels.now.braid = subst IsBraid c.braid-braid.ensures c.field-field.ensures.braid in
    let empty : c.identity-empty.result ≡ product_of c.args.levels.now.braid [] = c.identity-empty.ensures.word c.args.levels.now.braid (sym (c.letters.ensures ∙ ap (λ b. b.letters) c.braid-braid.ensures)) in
    (first_form c.args.levels.now.braid is c.push.new.self.items (c.in_ok-push.ensures.items ∙ ap (λ ns. ns ++ 1 ∷ []) c.clear.ensures.items)).width ∙ ap (λ g. length (block_basis c.args.levels.now.braid 0 g)) (sym empty)

pub returns-clause-form : goal.returns-clause-form
returns-clause-form c =
    let is : IsBraid c.args.levels.now.braid = subst IsBraid c.braid-braid.ensures c.field-field.ensures.braid in
    let empty : c.identity-empty.result ≡ product_of c.args.levels.now.braid [] = c.identity-empty.ensures.word c.args.levels.now.braid (sym (c.letters.ensures ∙ ap (λ b. b.letters) c.braid-braid.ensures)) in
    form_found c.args.levels.now.braid is c.args.word.now c.letters-2.result.now c.identity-empty.result c.push.new.self.items c.follow.new.form.items c.follow.result empty c.letters-2.ensures.same
    (c.in_ok-push.ensures.items ∙ ap (λ ns. ns ++ 1 ∷ []) c.clear.ensures.items) c.follow.ensures.product c.follow.ensures.form
