use Rattle.std.proofs.Common.{◌≡◌, ◌++◌}
use Rattle.nichols_braid.specs.Transpositions.{transpositions_from}
use Rattle.nichols_braid.proofs.transposition.push_above.Given as goal

abbrev pub invariant-loop-b : goal.invariant-loop-b
invariant-loop-b l = l.out.items ≡ l.initial.out.items ++ transpositions_from l.b l.a
