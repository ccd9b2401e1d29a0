use Rattle.std.proofs.Common.{◌≡◌, take}
use Rattle.nichols_rows.specs.Places.{dependent_in}
use Rattle.nichols_rows.proofs.places.relations.Given as goal

abbrev pub invariant-loop-k : goal.invariant-loop-k
invariant-loop-k l = l.out.items ≡ dependent_in l.words (take l.k l.words) (take l.k l.places)
