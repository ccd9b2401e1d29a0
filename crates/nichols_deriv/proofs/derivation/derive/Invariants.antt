use Rattle.std.proofs.Common.{take}
use Rattle.nichols_tensor.specs.Combination.{AllElements, HasSameValues}
use Rattle.nichols_braid.specs.Derivation.{skew_derivative}
use Rattle.nichols_deriv.proofs.derivation.derive.Given as goal

abbrev pub invariant-loop-term : goal.invariant-loop-term
invariant-loop-term l = record {
  value : HasSameValues l.braid.field l.terms.items (skew_derivative l.braid l.a (take l.term-index l.term-items));
  elements : AllElements l.braid.field l.terms.items;
}
