use Rattle.nichols_reduce.specs.Whole.{AreWhole}
use Rattle.nichols_reduce.proofs.tests.levels_up_to.Given as goal

abbrev pub invariant-loop-step : goal.invariant-loop-step
invariant-loop-step l = AreWhole l.levels.braid l.levels.last
