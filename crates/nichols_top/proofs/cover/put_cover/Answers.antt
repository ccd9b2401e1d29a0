use Rattle.std.proofs.Common.{◌∙◌}
use Rattle.std.proofs.lemmas.Result.{err_from_is_err_and}
use Rattle.nichols_top.specs.Algebra.{scope_of}
use Rattle.nichols_top.proofs.CountedBlocks.{counted_all}
use Rattle.nichols_top.proofs.Covers.{cover_first, cover_breaks, cover_whole}
use Rattle.nichols_top.proofs.Taking.{fault_passed}
use Rattle.nichols_top.proofs.cover.put_cover.Goals as goal

pub returns-in_err-ended-clause-report : goal.returns-in_err-ended-clause-report
returns-in_err-ended-clause-report g c =
    let p = err_from_is_err_and c.from_residual.result c.from_residual.ensures.1 in
    rw (p.1, p.2) (cover_first c.args.braid c.args.order.now (scope_of c.args.options) c.in_err-ended.ensures.pieces)

pub returns-in_err-stop-clause-report : goal.returns-in_err-stop-clause-report
returns-in_err-stop-clause-report g c =
    let p = err_from_is_err_and c.from_residual-in_err-stop.result c.from_residual-in_err-stop.ensures.1 in
    rw (p.1, p.2)
    (cover_breaks c.args.braid c.args.order.now (scope_of c.args.options) c.in_ok-ended.ended.graded c.in_ok-ended.ended.stop c.in_ok-ended.ensures.ended c.in_ok-ended.ensures.pieces c.in_err-stop.ensures.piece)

pub returns-in_err-stop-clause-stopped : goal.returns-in_err-stop-clause-stopped
returns-in_err-stop-clause-stopped g c = λ e.
    let p = err_from_is_err_and c.from_residual-in_err-stop.result c.from_residual-in_err-stop.ensures.1 in
    let h = c.in_err-stop.ensures.stopped (fault_passed p.1 p.2 e) in
    (h.0, h.1 ∙ c.in_ok-ended.ensures.pieces.sink.kept, h.2)

pub returns-clause-report : goal.returns-clause-report
returns-clause-report g c =
    cover_whole c.args.braid c.args.order.now (scope_of c.args.options) c.in_ok-ended.ended.graded c.in_ok-ended.ended.stop c.in_ok-stop.stop c.cover_status.result c.in_ok-ended.ensures.ended c.in_ok-stop.ensures.stop c.cover_status.ensures c.in_ok-ended.ensures.pieces c.in_ok-stop.ensures.piece

pub returns-clause-counted : goal.returns-clause-counted
returns-clause-counted g c = counted_all c.args.braid (scope_of c.args.options) c.in_ok-ended.ended.graded.last (g.G.Gate.count c.args.gate.now) (g.G.Gate.count c.put_pieces.new.gate) c.in_ok-ended.ensures.ended.counted c.in_ok-ended.ensures.counted
