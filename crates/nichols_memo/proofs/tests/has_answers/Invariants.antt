use Rattle.nichols_memo.specs.Seats.{IsOf}
use Rattle.nichols_memo.proofs.tests.has_answers.Given as goal

abbrev pub invariant-loop-call : goal.invariant-loop-call
invariant-loop-call l = IsOf l.memo l.seat
