use Rattle.nichols_shelf.specs.Played.{StaysOf}
use Rattle.nichols_steps.proofs.phases.phase_over.Given as goal

abbrev pub invariant-loop-pair : goal.invariant-loop-pair
invariant-loop-pair l = StaysOf l.pairs.shelf l.initial.hand.pass l.hand.pass
