use Rattle.nichols_product.proofs.PartProducts.{HasTerms}
use Rattle.nichols_product.proofs.factors.add_part.Given as goal

abbrev pub invariant-loop-term : goal.invariant-loop-term
invariant-loop-term l = HasTerms l.levels.braid l.levels.last l.part l.factor l.term-index l.fn.parts.items l.parts.items
