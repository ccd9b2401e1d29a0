use Rattle.std.proofs.Common.{◌≡◌, take}
use Rattle.nichols_rows.specs.Places.{independent_in}
use Rattle.nichols_block.specs.Words.{ends_of}
use Rattle.nichols_block.proofs.rule.least_ends.Given as goal

abbrev pub invariant-loop-k : goal.invariant-loop-k
invariant-loop-k l = l.least.items ≡ independent_in (take l.k (ends_of l.new.spots.items l.new.backs.items)) (take l.k l.places)
