use Rattle.std.proofs.Common.{◌≡◌, ℕ, ◌<◌, ◌≤◌}
use Rattle.nichols_braid.specs.Braid.{act}
use Rattle.nichols_braid.proofs.braid.Braid.unact.Given as goal

abbrev pub invariant-loop-c : goal.invariant-loop-c
invariant-loop-c l = (d : ℕ) → 1 ≤ d → d < l.c → act l.self l.i d ≡ l.j → ⊥
