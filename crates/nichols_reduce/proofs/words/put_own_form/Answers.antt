use Rattle.std.proofs.Common.{◌≡◌, ◌+◌, ◌++◌, ◌∷◌, [], ◌∙◌, ap, refl, sym, subst, length}
use Rattle.nichols_braid.specs.Braid.{IsBraid}
use Rattle.nichols_braid.specs.Product.{product_of}
use Rattle.nichols_value.specs.Block.{block_basis}
use Rattle.nichols_reduce.specs.Forms.{AreFollowed}
use Rattle.nichols_reduce.proofs.WordForms.{first_form, form_of_both, word_product}
use Rattle.nichols_reduce.proofs.words.put_own_form.Goals as goal

pub follow-requires-clause-there : goal.follow-requires-clause-there
follow-requires-clause-there c = word_product c.args.levels.now.braid [] c.identity-first.result 0 tt refl (c.identity-first.ensures.word c.args.levels.now.braid (sym (c.letters.ensures ∙ ap (λ b. b.letters) c.braid-braid.ensures)))

pub follow-requires-clause-form : goal.follow-requires-clause-form
follow-requires-clause-form c =
    (first_form c.args.levels.now.braid (subst IsBraid c.braid-braid.ensures c.field-field.ensures.braid) c.push.new.self.items (c.in_ok-push.ensures.items ∙ ap (λ ns. ns ++ 1 ∷ []) c.clear.ensures.items)).width
    ∙ ap (λ g. length (block_basis c.args.levels.now.braid 0 g)) (sym (c.identity-first.ensures.word c.args.levels.now.braid (sym (c.letters.ensures ∙ ap (λ b. b.letters) c.braid-braid.ensures))))

pub returns-clause-form : goal.returns-clause-form
returns-clause-form c =
    let first : c.identity-first.result ≡ product_of c.args.levels.now.braid [] = c.identity-first.ensures.word c.args.levels.now.braid (sym (c.letters.ensures ∙ ap (λ b. b.letters) c.braid-braid.ensures)) in
    let is : IsBraid c.args.levels.now.braid = subst IsBraid c.braid-braid.ensures c.field-field.ensures.braid in
    form_of_both c.args.levels.now.braid [] c.args.word.now c.identity-first.result c.in_ok-product.product c.push.new.self.items c.follow.new.form.items 0 (0 + length c.letters-2.result.now) tt refl first (ap (λ w. 0 + length w) c.letters-2.ensures.same)
    (c.in_ok-product.ensures.product [] first ∙ ap (product_of c.args.levels.now.braid) c.letters-2.ensures.same)
    (first_form c.args.levels.now.braid is c.push.new.self.items (c.in_ok-push.ensures.items ∙ ap (λ ns. ns ++ 1 ∷ []) c.clear.ensures.items))
    (subst (λ w. AreFollowed c.args.levels.now.braid 0 c.identity-first.result c.push.new.self.items w (0 + length c.letters-2.result.now) c.in_ok-product.product c.follow.new.form.items) c.letters-2.ensures.same c.in_ok-product.ensures.form)
