use Rattle.std.proofs.Common.{◌≡◌, vec_len}
use Rattle.nichols_steps.proofs.pairs.keys.Given as goal

abbrev pub invariant-loop-degree : goal.invariant-loop-degree
invariant-loop-degree l = vec_len l.keys ≡ l.degree-index
