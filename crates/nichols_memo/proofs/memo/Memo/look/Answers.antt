use Rattle.std.proofs.Common.{subst}
use Rattle.nichols_memo.specs.Forms.{IsRight}
use Rattle.nichols_memo.specs.Seats.{braid_of}
use Rattle.nichols_memo.proofs.memo.Memo.look.Goals as goal

pub returns-in-Ok-Hit-clause-hit : goal.returns-in-Ok-Hit-clause-hit
returns-in-Ok-Hit-clause-hit c = c.answer-answer.ensures.hit (braid_of c.args.self.now) (subst (λ b. IsRight b c.in-Some.entry) c.requires.seat.1 c.in-Some.ensures.found.0)
