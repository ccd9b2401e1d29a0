use Rattle.nichols_plain.specs.Degree.{IsDegree}
use Rattle.nichols_plain.proofs.degree.plain_degree.Given as goal

abbrev pub invariant-loop-before : goal.invariant-loop-before
invariant-loop-before l = IsDegree l.braid l.before l.last
