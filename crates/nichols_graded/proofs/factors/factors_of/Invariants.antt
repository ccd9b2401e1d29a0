use Rattle.std.proofs.Common.{◌+◌, ◌^◌, ◌<◌, length}
use Rattle.nichols_graded.specs.Factors.{factors_of}
use Rattle.nichols_graded.proofs.FactorSteps.{AreFoundUpTo}
use Rattle.nichols_graded.proofs.factors.factors_of.Given as goal

abbrev pub invariant-loop-k : goal.invariant-loop-k
invariant-loop-k l = record { small : l.k < 2 ^ 32; found : AreFoundUpTo (factors_of l.fn.dimensions) l.factors.items l.k l.polynomial.items }

abbrev pub decreases-loop-k : goal.decreases-loop-k
decreases-loop-k l = l.k + length l.polynomial.items
