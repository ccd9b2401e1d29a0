use Rattle.std.proofs.Common.{◌≡◌, List, [], ◌∷◌, ◌++◌, sym, ◌∙◌, ap₂, ℕ}
use Rattle.std.proofs.lemmas.Result.{IfOk-weaker}
use Rattle.nichols_braid.specs.Products.{products}
use Rattle.nichols_braid.proofs.NextProducts.{products_first}
use Rattle.nichols_braid.proofs.products.Products.first.Goals as goal

pub returns : goal.returns
returns c =
    IfOk-weaker c.with_new.result (λ ps. ps ≡ c.none.result ++ c.identity.result ∷ []) (λ ps. ps ≡ products c.args.braid.now 0)
    (λ ps e. e ∙ ap₂ (λ (l : List (List ℕ)) g. l ++ g ∷ []) c.none.ensures (c.identity.ensures.word c.args.braid.now (sym c.letters.ensures)) ∙ sym (products_first c.args.braid.now)) c.with_new.ensures
