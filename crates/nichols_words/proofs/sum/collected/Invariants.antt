use Rattle.std.proofs.Common.{drop}
use Rattle.nichols_tensor.specs.Combination.{without_zeros}
use Rattle.nichols_words.proofs.Gathering.{Gathering, gathered}
use Rattle.nichols_words.proofs.sum.collected.Given as goal

abbrev pub invariant-loop-term : goal.invariant-loop-term
invariant-loop-term l = Gathering l.field l.out.items l.last (drop l.term-index l.rest) (without_zeros (gathered l.field l.initial.last l.rest))
