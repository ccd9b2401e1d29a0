use Rattle.std.proofs.Common.{◌≡◌, ◌∷◌, ◌++◌, [], ◌∙◌, ap, refl, sym, subst, false}
use Rattle.nichols_braid.specs.Braid.{IsBraid}
use Rattle.nichols_braid.specs.Product.{product_of}
use Rattle.nichols_product.specs.declared.parts.Part.{Part}
use Rattle.nichols_product.proofs.RunningProducts.{start_is}
use Rattle.nichols_product.proofs.running.Running.start.Goals as goal

pub returns-clause-kept : goal.returns-clause-kept
returns-clause-kept c =
    let is : IsBraid c.args.levels.now.braid = subst IsBraid c.braid-braid.ensures c.field-field.ensures.braid in
    let first : c.identity.result ≡ product_of c.args.levels.now.braid [] = c.identity.ensures.word c.args.levels.now.braid (sym (c.letters.ensures ∙ ap (λ b. b.letters) c.braid-braid.ensures)) in
    let sums : c.push.new.self.items ≡ 1 ∷ [] = c.in_ok-push.ensures.items ∙ ap (λ ns. ns ++ 1 ∷ []) c.new-sums.ensures.items in
    let p : Part = record { degree = 0; product = c.identity.result; sums = c.push.new.self } in
    (start_is c.args.levels.now.braid is c.args.levels.now.last p (record { parts = c.push-2.new.self; reach = 0; zero = false }) refl first sums (c.in_ok-push-2.ensures.items ∙ ap (λ ps. ps ++ p ∷ []) c.new-parts.ensures.items) refl refl).kept

pub returns-clause-product : goal.returns-clause-product
returns-clause-product c =
    let is : IsBraid c.args.levels.now.braid = subst IsBraid c.braid-braid.ensures c.field-field.ensures.braid in
    let first : c.identity.result ≡ product_of c.args.levels.now.braid [] = c.identity.ensures.word c.args.levels.now.braid (sym (c.letters.ensures ∙ ap (λ b. b.letters) c.braid-braid.ensures)) in
    let sums : c.push.new.self.items ≡ 1 ∷ [] = c.in_ok-push.ensures.items ∙ ap (λ ns. ns ++ 1 ∷ []) c.new-sums.ensures.items in
    let p : Part = record { degree = 0; product = c.identity.result; sums = c.push.new.self } in
    (start_is c.args.levels.now.braid is c.args.levels.now.last p (record { parts = c.push-2.new.self; reach = 0; zero = false }) refl first sums (c.in_ok-push-2.ensures.items ∙ ap (λ ps. ps ++ p ∷ []) c.new-parts.ensures.items) refl refl).product
