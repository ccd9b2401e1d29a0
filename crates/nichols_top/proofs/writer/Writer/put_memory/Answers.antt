use Rattle.std.proofs.Common.{◌∙◌, ap, subst, None, Err}
use Rattle.nichols_top.specs.Conclusion.{no_memory, line_failed}
use Rattle.nichols_top.specs.Written.{sink_seen, Took, Failed}
use Rattle.nichols_top.proofs.Taking.{took_piece, failed_piece}
use Rattle.nichols_top.proofs.writer.Writer.put_memory.Goals as goal

pub returns-in-Ok-clause-status : goal.returns-in-Ok-clause-status
returns-in-Ok-clause-status g c =
    no_memory (subst (λ t. Took t (sink_seen g.K.Sink.taken g.K.Sink.faults c.args.self.now.sink.now) (sink_seen g.K.Sink.taken g.K.Sink.faults c.put.new.self.sink.now)) (c.bytes.ensures ∙ c.memory_line.ensures) (took_piece c.bytes.result.now None c.in-Ok.ensures.piece))

pub returns-in-Err-clause-status : goal.returns-in-Err-clause-status
returns-in-Err-clause-status g c =
    line_failed (subst (λ t. Failed t (sink_seen g.K.Sink.taken g.K.Sink.faults c.args.self.now.sink.now) (sink_seen g.K.Sink.taken g.K.Sink.faults c.put.new.self.sink.now)) (c.bytes.ensures ∙ c.memory_line.ensures)
    (failed_piece c.bytes.result.now None c.in-Err.ensures.piece (λ e. c.in-Err.ensures.cause (ap Err e))))
