use Rattle.std.proofs.Common.{◌≡◌}
use Rattle.std.specs.List.{range_with_len}
use Rattle.nichols_times.specs.Products.{words_of}
use Rattle.nichols_times.proofs.words.least_words.Given as goal

abbrev pub invariant-loop-m : goal.invariant-loop-m
invariant-loop-m l = l.words.items ≡ words_of l.graded.braid (range_with_len 0 l.m)
