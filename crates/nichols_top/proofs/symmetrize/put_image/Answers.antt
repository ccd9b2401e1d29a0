use Rattle.std.proofs.Common.{◌∙◌, ap, arith}
use Rattle.std.proofs.lemmas.Result.{err_from_is_err_and}
use Rattle.nichols_text.specs.Expressions.{image_line}
use Rattle.nichols_top.specs.Symmetrize.{image_due}
use Rattle.nichols_top.proofs.Images.{image_is}
use Rattle.nichols_top.proofs.Taking.{no_memory_first}
use Rattle.nichols_top.proofs.symmetrize.put_image.Goals as goal

pub returns-in_err-image-clause-piece : goal.returns-in_err-image-clause-piece
returns-in_err-image-clause-piece g c = let p = err_from_is_err_and c.from_residual.result c.from_residual.ensures.1 in rw (p.1, p.2) (no_memory_first (omega arith))

pub returns-in_err-text-clause-piece : goal.returns-in_err-text-clause-piece
returns-in_err-text-clause-piece g c = let p = err_from_is_err_and c.from_residual-in_err-text.result c.from_residual-in_err-text.ensures.1 in rw (p.1, p.2) (no_memory_first (omega arith))

pub returns-clause-piece : goal.returns-clause-piece
unfolding image_due
returns-clause-piece g c =
    rw (← (c.as_slice.ensures.value ∙ c.in_ok-text.ensures ∙ ap (λ k. image_line k c.args.order.now c.args.number c.in_ok-image.image) c.field-field.ensures.field ∙ ap (image_line c.args.braid.now.field c.args.order.now c.args.number) (image_is c.args.braid.now c.args.expression.now c.in_ok-image.image c.field-field.ensures.braid c.in_ok-image.ensures.value c.in_ok-image.ensures.shape c.in_ok-image.ensures.elements)))
    c.put.ensures.piece
