use Rattle.std.proofs.Common.{◌∙◌, arith, refl}
use Rattle.std.proofs.lemmas.Result.{err_from_is_err_and}
use Rattle.nichols_top.specs.Symmetrize.{image_due}
use Rattle.nichols_top.proofs.Numbered.{IsAt, numbered_start, numbered_put, numbered_breaks, numbered_whole}
use Rattle.nichols_top.proofs.symmetrize.put_images.Goals as goal

pub loop-expression-init : goal.loop-expression-init
loop-expression-init g c = record { same_sink = refl; number = refl; taken = numbered_start (image_due c.args.braid.now c.args.order.now) 1 c.args.expressions.now }

pub returns-in_err-put_image-clause-pieces : goal.returns-in_err-put_image-clause-pieces
returns-in_err-put_image-clause-pieces g c =
    let p = err_from_is_err_and c.from_residual.result c.from_residual.ensures.1 in
    let at : IsAt 1 c.args.expressions.now c.loop-expression.expression-index c.loop-expression.number c.expression-item.result =
    record { less = c.loop-expression-test.true; item = c.expression-item.is; number = c.loop-expression.invariant.number } in
    rw (p.1, p.2) (numbered_breaks (image_due c.args.braid.now c.args.order.now) 1 c.args.expressions.now c.loop-expression.expression-index c.loop-expression.number c.expression-item.result at c.loop-expression.invariant.taken c.in_err-put_image.ensures.piece)

pub loop-expression-preserved : goal.loop-expression-preserved
loop-expression-preserved g c =
    let at : IsAt 1 c.args.expressions.now c.loop-expression.expression-index c.loop-expression.number c.expression-item.result =
    record { less = c.loop-expression-test.true; item = c.expression-item.is; number = c.loop-expression.invariant.number } in
    record {
      same_sink = c.in_ok-put_image.ensures.same_sink ∙ c.loop-expression.invariant.same_sink;
      number = omega (arith, c.loop-expression.invariant.number);
      taken = numbered_put (image_due c.args.braid.now c.args.order.now) 1 c.args.expressions.now c.loop-expression.expression-index c.loop-expression.number c.expression-item.result at c.loop-expression.invariant.taken c.in_ok-put_image.ensures.piece;
    }

pub returns-clause-pieces : goal.returns-clause-pieces
returns-clause-pieces g c = numbered_whole (image_due c.args.braid.now c.args.order.now) 1 c.args.expressions.now c.loop-expression.expression-index (omega arith) c.loop-expression.invariant.taken
