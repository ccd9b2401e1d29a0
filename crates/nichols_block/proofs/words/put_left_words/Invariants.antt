use Rattle.std.proofs.Common.{◌≡◌, ◌++◌}
use Rattle.nichols_block.specs.Words.{left_entries}
use Rattle.nichols_block.proofs.words.put_left_words.Given as goal

abbrev pub invariant-loop-a : goal.invariant-loop-a
invariant-loop-a l = l.listed.items ≡ l.fn.listed.items ++ left_entries l.braid l.key.degree l.key.product l.a
