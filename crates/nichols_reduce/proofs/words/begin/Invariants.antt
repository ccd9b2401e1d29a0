use Rattle.std.proofs.Common.{◌≤◌, length}
use Rattle.nichols_memo.specs.Seats.{IsOf}
use Rattle.nichols_reduce.proofs.words.begin.Given as goal

abbrev pub invariant-loop-k : goal.invariant-loop-k
invariant-loop-k l = record {
  seat : IsOf l.memo l.seat;
  within : l.k ≤ length l.word;
}

abbrev pub decreases-loop-k : goal.decreases-loop-k
decreases-loop-k l = l.k
