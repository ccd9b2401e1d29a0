use Rattle.nichols_memo.specs.Seats.{IsOf}
use Rattle.nichols_times.proofs.counts.counted.Given as goal

abbrev pub invariant-loop-k : goal.invariant-loop-k
invariant-loop-k l = IsOf l.memo l.seat
