use Rattle.nichols_product.proofs.PartTerms.{AreTerms}
use Rattle.nichols_product.proofs.parts.form_of_parts.Given as goal

abbrev pub invariant-loop-part : goal.invariant-loop-part
invariant-loop-part l = AreTerms l.levels.braid l.parts l.part-index l.terms.items
