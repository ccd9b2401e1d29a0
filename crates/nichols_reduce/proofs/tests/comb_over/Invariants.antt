use Rattle.nichols_tensor.specs.Combination.{AllElements}
use Rattle.nichols_tensor.specs.Words.{IsOver}
use Rattle.nichols_reduce.proofs.tests.comb_over.Given as goal

abbrev pub invariant-loop-text : goal.invariant-loop-text
invariant-loop-text l = IsOver l.braid.letters l.sum × AllElements l.braid.field l.sum
