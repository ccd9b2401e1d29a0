use Rattle.std.proofs.Common.{◌≡◌, ◌++◌, take}
use Rattle.nichols_block.specs.Words.{left_entry, entries_from}
use Rattle.nichols_block.proofs.words.put_preceded.Given as goal

abbrev pub invariant-loop-k : goal.invariant-loop-k
invariant-loop-k l = l.listed.items ≡ l.fn.listed.items ++ entries_from (left_entry l.letter) 0 (take l.k l.words)
