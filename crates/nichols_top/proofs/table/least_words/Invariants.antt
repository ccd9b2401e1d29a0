use Rattle.std.proofs.Common.{◌≡◌}
use Rattle.std.specs.List.{range_with_len}
use Rattle.nichols_top.specs.Table.{least_words}
use Rattle.nichols_top.proofs.table.least_words.Given as goal

abbrev pub invariant-loop-m : goal.invariant-loop-m
invariant-loop-m l = l.words.items ≡ least_words l.graded.braid (range_with_len 0 l.m)
