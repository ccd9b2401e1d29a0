use Rattle.std.proofs.Common.{◌≡◌, ℕ, ◌*◌, ◌<◌, ◌≤◌, length, true, false}
use Rattle.nichols_core.specs.States.{mark_at}
use Rattle.nichols_core.proofs.marks.first_owes_all.Given as goal

abbrev pub invariant-loop-block : goal.invariant-loop-block
invariant-loop-block l = record {
  len : length l.owed.items ≡ l.workers * l.blocks;
  set : (k : ℕ) → k < l.block → mark_at l.owed.items k ≡ true;
  unset : (k : ℕ) → l.block ≤ k → mark_at l.owed.items k ≡ false;
}
