use Rattle.std.proofs.Common.{◌≡◌, take}
use Rattle.nichols_tensor.specs.Parts.{longest}
use Rattle.nichols_reduce.proofs.parts.longest.Given as goal

abbrev pub invariant-loop-term : goal.invariant-loop-term
invariant-loop-term l = l.most ≡ longest (take l.term-index l.terms)
