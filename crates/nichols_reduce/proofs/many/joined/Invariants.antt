use Rattle.nichols_reduce.proofs.ManyForms.{AreLeft}
use Rattle.nichols_reduce.proofs.many.joined.Given as goal

abbrev pub invariant-loop-part : goal.invariant-loop-part
invariant-loop-part l = AreLeft l.levels.braid l.levels.last l.combs l.part-iterator.rest.items l.answers.items
