use Rattle.std.proofs.Common.{◌≡◌, ◌≤◌, length}
use Rattle.nichols_echelon.specs.Parts.{joined_row}
use Rattle.nichols_echelon.proofs.parts.last_of.Given as goal

abbrev pub invariant-loop-left : goal.invariant-loop-left
invariant-loop-left l = record {
  inside : l.left ≤ length l.lists;
  same : joined_row l.lists l.offsets l.k (length l.lists) ≡ joined_row l.lists l.offsets l.k l.left;
}

abbrev pub decreases-loop-left : goal.decreases-loop-left
decreases-loop-left l = l.left
