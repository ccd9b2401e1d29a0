use Rattle.std.proofs.Common.{◌≡◌, ◌∙◌, ◌∷◌, [], rules, ap}
use Rattle.nichols_tensor.specs.Combination.{Term, value_at, without_zeros}
use Rattle.nichols_tensor.proofs.Building.{value_at-one}
use Rattle.nichols_words.proofs.comb.Comb.single.Goals as goal

pub returns-clause-value : goal.returns-clause-value
returns-clause-value c =
    let t : Term = record { word = c.args.word; coefficient = c.args.coefficient } in
    let terms_are : c.if-coefficient-ne0.comb ≡ without_zeros (t ∷ []) = search rules in
    λ w. ap (λ f. value_at c.args.field f w) terms_are ∙ value_at-one c.args.field c.modulus-modulus.ensures.field t w c.requires
