use Rattle.nichols_graded.proofs.DegreeLists.{HasCounted}
use Rattle.nichols_graded.proofs.graded.Graded.dimension.Given as goal

abbrev pub invariant-loop-k : goal.invariant-loop-k
invariant-loop-k l = HasCounted l.self.braid l.m l.k l.words
