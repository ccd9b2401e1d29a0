use Rattle.std.proofs.Common.{◌≡◌, ◌-◌, suc, map, refl, ◌∙◌, arith, subst}
use Rattle.std.specs.List.{range_with_len}
use Rattle.std.proofs.lemmas.Result.{err_from_is_err_and}
use Rattle.nichols_top.specs.Algebra.{degree_due}
use Rattle.nichols_top.specs.Written.{writer_seen, Takes}
use Rattle.nichols_top.proofs.Finishing.{last_is_finished, degrees_parts, degrees_more}
use Rattle.nichols_top.proofs.Taking.{takes_nothing, takes_more, breaks_first, breaks_more}
use Rattle.nichols_top.proofs.algebra.put_degrees.Goals as goal

pub loop-m-init : goal.loop-m-init
loop-m-init g c =
    let none : 0 ≡ c.args.from - c.args.from = omega arith in
    record { same_sink = refl; taken = subst (λ n. Takes (map (degree_due c.args.graded.now.braid c.args.order.now c.args.brief) (range_with_len c.args.from n)) (writer_seen g.K.Sink.taken g.K.Sink.faults c.args.out.now) (writer_seen g.K.Sink.taken g.K.Sink.faults c.args.out.now)) none takes_nothing }

pub loop-m-preserved : goal.loop-m-preserved
loop-m-preserved g c = record {
  same_sink = c.in_ok-put_degree.ensures.same_sink ∙ c.loop-m.invariant.same_sink;
  taken = subst (λ ps. Takes ps (writer_seen g.K.Sink.taken g.K.Sink.faults c.args.out.now) (writer_seen g.K.Sink.taken g.K.Sink.faults c.put_degree.new.out)) (degrees_more (degree_due c.args.graded.now.braid c.args.order.now c.args.brief) c.args.from c.loop-m.m (omega arith))
      (takes_more c.loop-m.invariant.taken c.in_ok-put_degree.ensures.piece);
}

pub returns-in_err-put_degree-clause-same_sink : goal.returns-in_err-put_degree-clause-same_sink
returns-in_err-put_degree-clause-same_sink g c = c.in_err-put_degree.ensures.same_sink ∙ c.loop-m.invariant.same_sink

pub returns-in_err-put_degree-clause-finished : goal.returns-in_err-put_degree-clause-finished
returns-in_err-put_degree-clause-finished g c = last_is_finished c.args.graded.now c.levels.ensures.graded

pub returns-in_err-put_degree-clause-pieces : goal.returns-in_err-put_degree-clause-pieces
returns-in_err-put_degree-clause-pieces g c =
    let p = err_from_is_err_and c.from_residual.result c.from_residual.ensures.1 in
    rw (p.1, p.2, degrees_parts (degree_due c.args.graded.now.braid c.args.order.now c.args.brief) c.args.from c.loop-m.m c.args.graded.now.last (omega arith) (omega arith))
    (breaks_more c.loop-m.invariant.taken (breaks_first _ c.in_err-put_degree.ensures.piece))

pub returns-clause-finished : goal.returns-clause-finished
returns-clause-finished g c = last_is_finished c.args.graded.now c.levels.ensures.graded

pub returns-clause-pieces : goal.returns-clause-pieces
returns-clause-pieces g c =
    let same : c.loop-m.m ≡ suc c.args.graded.now.last = omega arith in
    subst (λ n. Takes (map (degree_due c.args.graded.now.braid c.args.order.now c.args.brief) (range_with_len c.args.from (n - c.args.from))) (writer_seen g.K.Sink.taken g.K.Sink.faults c.args.out.now) (writer_seen g.K.Sink.taken g.K.Sink.faults c.loop-m.out)) same c.loop-m.invariant.taken
