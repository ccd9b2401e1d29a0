use Rattle.std.proofs.Common.{◌≡◌}
use Rattle.std.specs.List.{flat_map}
use Rattle.nichols_tensor.specs.Words.{up_to}
use Rattle.nichols_braid.specs.Transpositions.{transpositions_from}
use Rattle.nichols_braid.proofs.transposition.transpositions.Given as goal

abbrev pub invariant-loop-a : goal.invariant-loop-a
invariant-loop-a l = l.out.items ≡ flat_map (transpositions_from l.k) (up_to l.a)
