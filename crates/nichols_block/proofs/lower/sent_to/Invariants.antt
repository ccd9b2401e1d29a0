use Rattle.std.proofs.Common.{◌≡◌, ℕ, ◌-◌, ◌<◌, ◌≤◌}
use Rattle.std.specs.Prelude.{slice_index}
use Rattle.nichols_block.proofs.lower.sent_to.Given as goal

-- no letter before is sent to it
abbrev pub invariant-loop-c : goal.invariant-loop-c
invariant-loop-c l = (d : ℕ) → 1 ≤ d → d < l.c → slice_index l.key.product (d - 1) ≡ l.letter → ⊥
