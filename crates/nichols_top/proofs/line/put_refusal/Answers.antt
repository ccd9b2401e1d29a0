use Rattle.std.proofs.lemmas.Result.{err_from_is_err_and}
use Rattle.nichols_text.specs.Refusals.{refusal_line}
use Rattle.nichols_top.specs.Written.{writer_seen}
use Rattle.nichols_top.proofs.Statuses.{refusal_unwritten}
use Rattle.nichols_top.proofs.line.put_refusal.Goals as goal

pub returns-in_err-line-clause-report : goal.returns-in_err-line-clause-report
returns-in_err-line-clause-report g c =
    let p = err_from_is_err_and c.from_residual.result c.from_residual.ensures.1 in
    rw (p.1, p.2) (refusal_unwritten (refusal_line c.args.refusal.now) (writer_seen g.K.Sink.taken g.K.Sink.faults c.args.out.now))
