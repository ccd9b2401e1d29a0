use Rattle.std.proofs.Common.{◌≡◌, ℕ, List, length, take}
use Rattle.nichols_tensor.specs.Combination.{scalar_multiple}
use Rattle.nichols_reduce.specs.Sums.{HasGrownBy, combination_of}
use Rattle.nichols_product.proofs.parts.add_sums.Given as goal

abbrev pub invariant-loop-k : goal.invariant-loop-k
invariant-loop-k l = record {
  width : length l.sums ≡ length l.form;
  grown : (ws : List (List ℕ)) → length l.form ≡ length ws → HasGrownBy l.field ws l.fn.sums (scalar_multiple l.field l.by (take l.k (combination_of l.field ws l.form))) l.sums;
}
