use Rattle.std.proofs.Common.{[], ◌∷◌}
use Rattle.nichols_product.proofs.products.times.Goals as goal

pub returns-clause-answer : goal.returns-clause-answer
returns-clause-answer c =
    c.in_ok-answer.ensures (c.args.f.now ∷ c.args.g.now ∷ []) (c.requires.left_letters, (c.requires.right_letters, tt))
    (c.in_ok-running.ensures.product (c.args.f.now ∷ []) (c.requires.left_letters, tt) (c.in_ok-times.ensures.product [] tt c.in_ok-start.ensures.product))
