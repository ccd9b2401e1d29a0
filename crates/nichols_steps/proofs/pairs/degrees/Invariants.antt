use Rattle.std.proofs.Common.{◌≡◌, vec_len}
use Rattle.nichols_steps.proofs.pairs.degrees.Given as goal

abbrev pub invariant-loop-block : goal.invariant-loop-block
invariant-loop-block l = vec_len l.degrees ≡ l.block
