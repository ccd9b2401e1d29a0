use Rattle.nichols_product.proofs.AnsweredProducts.{HasAnswers}
use Rattle.nichols_product.proofs.products.product_run.Given as goal

abbrev pub invariant-loop-factor : goal.invariant-loop-factor
invariant-loop-factor l = HasAnswers l.levels.braid l.levels.last l.combs l.factor-index l.running l.answers.items
