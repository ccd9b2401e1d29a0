use Rattle.std.proofs.Common.{◌≡◌, map, take}
use Rattle.std.specs.List.{flat_map}
use Rattle.nichols_braid.specs.Transpositions.{conjugate, number_in}
use Rattle.nichols_braid.proofs.braid.points.conjugates.Given as goal

abbrev pub invariant-loop-by : goal.invariant-loop-by
invariant-loop-by l = l.out.items ≡ flat_map (λ s. map (λ t. number_in l.all (conjugate s t)) l.all) (take l.by-index l.all)
