use Rattle.nichols_lift.proofs.Recursion.{IsSummed}
use Rattle.nichols_lift.proofs.image.+image_below.Given as goal

abbrev pub decreases-image_below : goal.decreases-image_below
decreases-image_below l = l.limit

abbrev pub invariant-loop-i : goal.invariant-loop-i
invariant-loop-i l = IsSummed l.braid l.comb l.i l.terms.items
