use Rattle.nichols_deriv.proofs.Passed.{IsPassing}
use Rattle.nichols_deriv.proofs.passing.put_derivative.Given as goal

abbrev pub invariant-loop-left : goal.invariant-loop-left
invariant-loop-left l = IsPassing l.braid l.a l.term.coefficient l.term.word l.fn.out.items l.left l.passed l.scalar l.out.items

abbrev pub decreases-loop-left : goal.decreases-loop-left
decreases-loop-left l = l.left
