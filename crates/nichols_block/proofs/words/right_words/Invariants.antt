use Rattle.std.proofs.Common.{◌≡◌}
use Rattle.nichols_block.specs.Words.{right_entries}
use Rattle.nichols_block.proofs.words.right_words.Given as goal

abbrev pub invariant-loop-b : goal.invariant-loop-b
invariant-loop-b l = l.listed.items ≡ right_entries l.braid l.key.degree l.key.product l.b
