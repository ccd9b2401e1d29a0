use Rattle.std.proofs.Common.{◌≡◌, ◌≤◌, ◌*◌, map, sum}
use Rattle.std.specs.List.{range_with_len}
use Rattle.nichols_braid.specs.Kernel.{is_in_kernel}
use Rattle.nichols_braid.specs.End.{dimension}
use Rattle.nichols_graded.specs.declared.TheConstants.{DIMENSION_BOUND}
use Rattle.nichols_graded.proofs.graded.Graded.dimensions.Given as goal

abbrev pub invariant-loop-m : goal.invariant-loop-m
invariant-loop-m l = record {
  items : l.dimensions.items ≡ map (dimension is_in_kernel l.self.braid) (range_with_len 0 l.m);
  total : sum l.dimensions.items ≤ l.m * DIMENSION_BOUND;
}
