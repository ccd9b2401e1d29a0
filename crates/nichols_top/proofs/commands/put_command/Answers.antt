use Rattle.nichols_input.specs.Refusal.{refusal_of}
use Rattle.nichols_top.specs.Counted.{command_blocks}
use Rattle.nichols_top.specs.Due.{command_due}
use Rattle.nichols_top.specs.Written.{writer_seen}
use Rattle.nichols_top.proofs.CountedBlocks.{refusal_counted, task_counted}
use Rattle.nichols_top.proofs.CommandReports.{task_written, refusal_written}
use Rattle.nichols_top.proofs.commands.put_command.Goals as goal

pub returns-in-Ok-clause-report : goal.returns-in-Ok-clause-report
returns-in-Ok-clause-report g c =
    rw c.in-OnDocument.is
    (task_written c.in-OnDocument.task c.args.document.now c.in-Ok.document (writer_seen g.K.Sink.taken g.K.Sink.faults c.args.out.now) (writer_seen g.K.Sink.taken g.K.Sink.faults c.put_task.new.out) c.put_task.result c.in-Ok.ensures.document c.put_task.ensures.report)

pub returns-in-Err-clause-report : goal.returns-in-Err-clause-report
returns-in-Err-clause-report g c =
    rw c.in-OnDocument.is
    (refusal_written c.in-OnDocument.task c.args.document.now (refusal_of c.in-Err.fault) (writer_seen g.K.Sink.taken g.K.Sink.faults c.args.out.now) (writer_seen g.K.Sink.taken g.K.Sink.faults c.put_refusal.new.out) c.put_refusal.result c.in-Err.ensures.document c.put_refusal.ensures.report c.put_refusal.ensures.memory)

pub returns-in-Points-clause-report : goal.returns-in-Points-clause-report
unfolding command_due
returns-in-Points-clause-report g c = rw c.in-Points.is c.put_points.ensures.report

pub returns-in-Ok-clause-counted : goal.returns-in-Ok-clause-counted
returns-in-Ok-clause-counted g c =
    rw c.in-OnDocument.is
    (task_counted c.in-OnDocument.task c.args.document.now c.in-Ok.document c.put_task.result (g.G.Gate.count c.args.gate.now) (g.G.Gate.count c.put_task.new.gate) c.in-Ok.ensures.document c.put_task.ensures.counted)

pub returns-in-Err-clause-counted : goal.returns-in-Err-clause-counted
returns-in-Err-clause-counted g c =
    rw c.in-OnDocument.is (refusal_counted c.in-OnDocument.task c.args.document.now (refusal_of c.in-Err.fault) (writer_seen g.K.Sink.taken g.K.Sink.faults c.args.out.now) (writer_seen g.K.Sink.taken g.K.Sink.faults c.put_refusal.new.out) c.put_refusal.result (g.G.Gate.count c.args.gate.now) c.in-Err.ensures.document c.put_refusal.ensures.memory)

pub returns-in-Points-clause-counted : goal.returns-in-Points-clause-counted
unfolding command_blocks
returns-in-Points-clause-counted g c = rw c.in-Points.is c.put_points.ensures.counted
