use Rattle.std.proofs.Common.{◌≡◌, ◌++◌, take}
use Rattle.nichols_braid.specs.RightProduct.{times_letter}
use Rattle.nichols_lift.proofs.image.put_behind.Given as goal

abbrev pub invariant-loop-term : goal.invariant-loop-term
invariant-loop-term l = l.terms.items ≡ l.fn.terms.items ++ times_letter (take l.term-index l.term-items) l.letter
