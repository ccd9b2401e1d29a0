use Rattle.std.proofs.Common.{◌≡◌}
use Rattle.nichols_echelon.proofs.Draining.{InWord}
use Rattle.nichols_echelon.proofs.sums.drain_word.Given as goal

abbrev pub invariant-loop-left : goal.invariant-loop-left
invariant-loop-left l = record {
  word : InWord l.field l.initial.values l.initial.rows.begun l.word l.values l.rows.begun l.left;
  rows : l.rows.rows ≡ l.initial.rows.rows;
}

abbrev pub decreases-loop-left : goal.decreases-loop-left
decreases-loop-left l = l.left
