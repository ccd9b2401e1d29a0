use Rattle.std.proofs.Common.{◌≡◌, take}
use Rattle.nichols_tensor.specs.Combination.{scalar_multiple, without_zeros}
use Rattle.nichols_words.proofs.multiples.multiples.Given as goal

abbrev pub invariant-loop-term : goal.invariant-loop-term
invariant-loop-term l = l.out.items ≡ without_zeros (scalar_multiple l.field l.by (take l.term-index l.terms))
