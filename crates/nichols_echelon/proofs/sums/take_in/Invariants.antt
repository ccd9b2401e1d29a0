use Rattle.std.proofs.Common.{◌≡◌, get_or}
use Rattle.nichols_echelon.proofs.Taking.{Taking}
use Rattle.nichols_echelon.proofs.sums.take_in.Given as goal

abbrev pub invariant-loop-left : goal.invariant-loop-left
invariant-loop-left l = record {
  taking : Taking l.field l.initial.values l.values l.marks l.word;
  same : l.left ≡ get_or l.marks l.word 0;
}

abbrev pub decreases-loop-left : goal.decreases-loop-left
decreases-loop-left l = l.left
