use Rattle.nichols_product.proofs.PartProducts.{HasProducts}
use Rattle.nichols_product.proofs.factors.times_factor.Given as goal

abbrev pub invariant-loop-part : goal.invariant-loop-part
invariant-loop-part l = HasProducts l.levels.braid l.levels.last l.parts l.factor l.part-index l.longer.items
