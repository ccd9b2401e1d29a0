use Rattle.std.proofs.Common.{◌≡◌, ◌<◌, ℕ, map, take, vec_capacity}
use Rattle.std.specs.Prelude.{slice_index}
use Rattle.nichols_value.specs.Worth.{worth}
use Rattle.nichols_graded.specs.declared.TheConstants.{DIMENSION_BOUND}
use Rattle.nichols_graded.specs.Sizes.{size_of}
use Rattle.nichols_graded.proofs.counts.put_sizes.Given as goal

abbrev pub invariant-loop-value : goal.invariant-loop-value
invariant-loop-value l = record {
  sizes : l.sizes.items ≡ map (λ v. size_of (worth v)) (take l.value-index l.values);
  small : (k : ℕ) → slice_index l.sizes.items k < DIMENSION_BOUND;
  room : vec_capacity l.sizes ≡ vec_capacity l.initial.sizes;
}
