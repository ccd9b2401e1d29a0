use Rattle.std.proofs.Common.{◌≤◌, ◌*◌, length}
use Rattle.nichols_echelon.specs.Sums.{IsMarked, IsSameSums, IsZeroFrom}
use Rattle.nichols_echelon.proofs.sums.take_before.Given as goal

abbrev pub invariant-loop-words : goal.invariant-loop-words
invariant-loop-words l = record {
  marked : IsMarked l.values l.marks;
  same : IsSameSums l.field l.initial.values l.values;
  clear : IsZeroFrom l.field l.values (64 * l.words);
  inside : l.words ≤ length l.marks;
}

abbrev pub decreases-loop-words : goal.decreases-loop-words
decreases-loop-words l = l.words
