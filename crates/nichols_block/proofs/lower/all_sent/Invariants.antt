use Rattle.std.proofs.Common.{◌≡◌, ◌≤◌, ◌-◌, ℕ, length}
use Rattle.std.specs.Prelude.{slice_index}
use Rattle.nichols_block.specs.Below.{IsSent}
use Rattle.nichols_block.proofs.lower.all_sent.Given as goal

abbrev pub invariant-loop-a : goal.invariant-loop-a
invariant-loop-a l = record {
  letters : length l.sent.items ≡ l.a;
  each : (b : ℕ) → 1 ≤ b → b ≤ l.a → IsSent l.braid l.key.degree l.key.product b (slice_index l.sent.items (b - 1));
}
