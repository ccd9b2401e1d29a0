use Rattle.std.proofs.Common.{◌≡◌, [], replicate}
use Rattle.nichols_block.proofs.empty.no_words.Given as goal

abbrev pub invariant-loop : goal.invariant-loop
invariant-loop l = l.lists.items ≡ replicate l.counter []
