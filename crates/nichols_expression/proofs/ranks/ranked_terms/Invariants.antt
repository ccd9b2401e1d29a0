use Rattle.std.proofs.Common.{◌≡◌, take}
use Rattle.nichols_braid.specs.Order.{in_ranks}
use Rattle.nichols_expression.proofs.ranks.ranked_terms.Given as goal

abbrev pub invariant-loop-term : goal.invariant-loop-term
invariant-loop-term l = l.out.items ≡ in_ranks l.order (take l.term-index l.terms)
