use Rattle.std.proofs.Common.{◌∙◌}
use Rattle.std.proofs.lemmas.Result.{err_from_is_err_and}
use Rattle.nichols_top.specs.Algebra.{scope_of}
use Rattle.nichols_top.proofs.CountedBlocks.{counted_all}
use Rattle.nichols_top.proofs.Expressions.{product_first, product_breaks, product_whole}
use Rattle.nichols_top.proofs.Taking.{fault_passed}
use Rattle.nichols_top.proofs.product.put_product.Goals as goal

pub returns-in_err-ended-clause-report : goal.returns-in_err-ended-clause-report
returns-in_err-ended-clause-report g c =
    let p = err_from_is_err_and c.from_residual.result c.from_residual.ensures.1 in
    rw (p.1, p.2, ← c.document.view_is) (product_first (record { braid = c.document.inside.braid; order = c.document.inside.order; expressions = c.document.inside.expressions.items }) (scope_of c.args.options) c.in_err-ended.ensures.pieces)

pub returns-in_err-put_first_products-clause-report : goal.returns-in_err-put_first_products-clause-report
returns-in_err-put_first_products-clause-report g c =
    let p = err_from_is_err_and c.from_residual-in_err-put_first_products.result c.from_residual-in_err-put_first_products.ensures.1 in
    rw (p.1, p.2, ← c.document.view_is)
    (product_breaks (record { braid = c.document.inside.braid; order = c.document.inside.order; expressions = c.document.inside.expressions.items }) (scope_of c.args.options) c.in_ok-ended.ended.graded c.in_ok-ended.ended.stop c.in_ok-ended.ensures.ended c.in_ok-ended.ensures.pieces
    (rw (← c.as_slice.ensures.value) c.in_err-put_first_products.ensures.pieces))

pub returns-in_err-put_first_products-clause-stopped : goal.returns-in_err-put_first_products-clause-stopped
returns-in_err-put_first_products-clause-stopped g c = λ e.
    let p = err_from_is_err_and c.from_residual-in_err-put_first_products.result c.from_residual-in_err-put_first_products.ensures.1 in
    let h = c.in_err-put_first_products.ensures.stopped (fault_passed p.1 p.2 e) in
    (h.0, h.1 ∙ c.in_ok-ended.ensures.pieces.sink.kept, h.2)

pub returns-clause-report : goal.returns-clause-report
returns-clause-report g c =
    rw (← c.document.view_is)
    (product_whole (record { braid = c.document.inside.braid; order = c.document.inside.order; expressions = c.document.inside.expressions.items }) (scope_of c.args.options) c.in_ok-ended.ended.graded c.in_ok-ended.ended.stop c.status_of.result c.in_ok-ended.ensures.ended c.status_of.ensures c.in_ok-ended.ensures.pieces
    (rw (← c.as_slice.ensures.value) c.in_ok-put_first_products.ensures.pieces))

pub returns-clause-counted : goal.returns-clause-counted
returns-clause-counted g c =
    rw (← c.document.view_is)
    (counted_all c.document.inside.braid (scope_of c.args.options) c.in_ok-ended.ended.graded.last (g.G.Gate.count c.args.gate.now) (g.G.Gate.count c.put_pieces.new.gate) c.in_ok-ended.ensures.ended.counted c.in_ok-ended.ensures.counted)
