use Rattle.nichols_memo.specs.Seats.{IsOf}
use Rattle.nichols_reduce.proofs.tests.has_answers.Given as goal

abbrev pub invariant-loop-listed : goal.invariant-loop-listed
invariant-loop-listed l = IsOf l.memo l.seat
