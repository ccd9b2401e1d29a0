use Rattle.std.proofs.Common.{◌≡◌, ◌++◌, map, take}
use Rattle.nichols_braid.specs.Transpositions.{conjugate, number_in}
use Rattle.nichols_braid.proofs.braid.points.push_conjugates.Given as goal

abbrev pub invariant-loop-t : goal.invariant-loop-t
invariant-loop-t l = l.out.items ≡ l.initial.out.items ++ map (λ t. number_in l.all (conjugate l.by t)) (take l.t-index l.all)
