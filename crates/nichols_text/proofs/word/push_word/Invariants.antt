use Rattle.std.proofs.Common.{◌≡◌, ◌++◌, take, codes}
use Rattle.std.specs.Prelude.{decimal}
use Rattle.std.specs.List.{flat_map}
use Rattle.nichols_braid.specs.Order.{letter_at}
use Rattle.nichols_text.proofs.word.push_word.Given as goal

abbrev pub invariant-loop-rank : goal.invariant-loop-rank
invariant-loop-rank l = l.out.items ≡ l.initial.out.items ++ flat_map (λ s. codes "." ++ decimal (letter_at l.order s)) (take l.rank-index l.rest)
