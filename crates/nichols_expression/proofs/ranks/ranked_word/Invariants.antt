use Rattle.std.proofs.Common.{◌≡◌, map, take}
use Rattle.nichols_braid.specs.Order.{rank_of}
use Rattle.nichols_expression.proofs.ranks.ranked_word.Given as goal

abbrev pub invariant-loop-letter : goal.invariant-loop-letter
invariant-loop-letter l = l.out ≡ map (rank_of l.order) (take l.letter-index l.letter-items)
