use Rattle.std.proofs.Common.{◌≡◌}
use Rattle.nichols_top.specs.Cover.{first_difference}
use Rattle.nichols_top.proofs.Covers.{difference_from}
use Rattle.nichols_top.proofs.cover.first_difference.Given as goal

abbrev pub invariant-loop-dimension : goal.invariant-loop-dimension
invariant-loop-dimension l = record {
  degree : l.degree ≡ l.dimension-index;
  rest : first_difference l.graded.braid l.dimensions ≡ difference_from l.graded.braid l.dimensions l.degree;
}
