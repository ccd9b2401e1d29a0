use Rattle.std.proofs.Common.{◌≡◌, ◌++◌, take}
use Rattle.nichols_block.specs.Words.{right_entry, entries_from}
use Rattle.nichols_block.proofs.words.put_followed.Given as goal

abbrev pub invariant-loop-k : goal.invariant-loop-k
invariant-loop-k l = l.listed.items ≡ l.fn.listed.items ++ entries_from (right_entry l.letter) 0 (take l.k l.words)
