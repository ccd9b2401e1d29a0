use Rattle.nichols_memo.specs.Seats.{IsOf}
use Rattle.nichols_memo.proofs.tests.threads.play.Given as goal

abbrev pub invariant-loop-turn : goal.invariant-loop-turn
invariant-loop-turn l = IsOf l.memo l.seat

abbrev pub invariant-loop-wanted : goal.invariant-loop-wanted
invariant-loop-wanted l = IsOf l.memo l.seat
