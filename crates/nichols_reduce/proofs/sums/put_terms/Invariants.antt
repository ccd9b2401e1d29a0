use Rattle.std.proofs.Common.{◌≡◌, ◌++◌, take}
use Rattle.nichols_tensor.specs.Combination.{scalar_multiple, without_zeros}
use Rattle.nichols_reduce.specs.Sums.{combination_of}
use Rattle.nichols_reduce.proofs.sums.put_terms.Given as goal

abbrev pub invariant-loop-k : goal.invariant-loop-k
invariant-loop-k l = l.terms.items ≡ l.fn.terms.items ++ without_zeros (scalar_multiple l.field l.by (take l.k (combination_of l.field l.basis l.sums)))
