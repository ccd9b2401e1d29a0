use Rattle.std.proofs.Common.{◌≡◌, ℕ, ◌<◌, ◌≤◌, length}
use Rattle.nichols_core.specs.Machine.{stage_after_publication}
use Rattle.nichols_core.specs.States.{stage_at}
use Rattle.nichols_core.proofs.marks.resume.Given as goal

abbrev pub invariant-loop-i : goal.invariant-loop-i
invariant-loop-i l = record {
  len : length l.stages.items ≡ length l.initial.stages.items;
  done : (b : ℕ) → b < l.i → stage_at l.stages.items b ≡ stage_after_publication l.worker l.published (stage_at l.initial.stages.items b);
  left : (b : ℕ) → l.i ≤ b → stage_at l.stages.items b ≡ stage_at l.initial.stages.items b;
}
