use Rattle.std.proofs.Common.{◌≡◌, take}
use Rattle.nichols_rows.specs.Places.{independent_in}
use Rattle.nichols_rows.proofs.places.independent_words.Given as goal

abbrev pub invariant-loop-k : goal.invariant-loop-k
invariant-loop-k l = l.out.items ≡ independent_in (take l.k l.words) (take l.k l.places)
