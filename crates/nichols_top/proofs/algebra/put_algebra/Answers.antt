use Rattle.std.proofs.Common.{◌∙◌, ap}
use Rattle.std.proofs.lemmas.Result.{err_from_is_err_and}
use Rattle.nichols_top.specs.Algebra.{algebra_due, scope_of, status_of}
use Rattle.nichols_top.proofs.CountedBlocks.{counted_all}
use Rattle.nichols_top.proofs.algebra.put_algebra.Goals as goal

pub returns-in_err-ended-clause-report : goal.returns-in_err-ended-clause-report
unfolding algebra_due
returns-in_err-ended-clause-report g c =
    let p = err_from_is_err_and c.from_residual.result c.from_residual.ensures.1 in
    rw (p.1, p.2) c.in_err-ended.ensures.pieces

pub returns-clause-report : goal.returns-clause-report
unfolding algebra_due
returns-clause-report g c = (c.status_of.ensures ∙ ap status_of c.in_ok-ended.ensures.ended.stop_is, c.in_ok-ended.ensures.pieces)

pub returns-clause-counted : goal.returns-clause-counted
returns-clause-counted g c = counted_all c.args.braid (scope_of c.args.options) c.in_ok-ended.ended.graded.last (g.G.Gate.count c.args.gate.now) (g.G.Gate.count c.put_pieces.new.gate) c.in_ok-ended.ensures.ended.counted c.in_ok-ended.ensures.counted
