use Rattle.std.proofs.Common.{◌≡◌, sym, ◌∙◌, ap, Some, None}
use Rattle.std.proofs.lemmas.Result.{err_from_is_err_and}
use Rattle.nichols_input.specs.Document.{DocumentValue}
use Rattle.nichols_top.specs.Symmetrize.{first_long}
use Rattle.nichols_top.specs.Written.{writer_seen}
use Rattle.nichols_top.proofs.Expressions.{long_written, images_first, images_break, images_whole}
use Rattle.nichols_top.proofs.symmetrize.put_symmetrize.Goals as goal

pub returns-in-Some-clause-report : goal.returns-in-Some-clause-report
returns-in-Some-clause-report g c =
    let document : DocumentValue = record { braid = c.document.inside.braid; order = c.document.inside.order; expressions = c.document.inside.expressions.items } in
    let found : Some c.in-Some.number ≡ first_long 1 document.expressions = sym c.in-Some.is ∙ c.first_long.ensures.number ∙ ap (first_long 1) c.as_slice-expressions.ensures.value in
    rw (← c.document.view_is) (long_written document c.in-Some.number (writer_seen g.K.Sink.taken g.K.Sink.faults c.args.out.now) (writer_seen g.K.Sink.taken g.K.Sink.faults c.put_refusal.new.out) c.put_refusal.result found c.put_refusal.ensures.report)

pub returns-in_err-put_header-clause-report : goal.returns-in_err-put_header-clause-report
returns-in_err-put_header-clause-report g c =
    let document : DocumentValue = record { braid = c.document.inside.braid; order = c.document.inside.order; expressions = c.document.inside.expressions.items } in
    let none : None ≡ first_long 1 document.expressions = sym c.in_default.is ∙ c.first_long.ensures.number ∙ ap (first_long 1) c.as_slice-expressions.ensures.value in
    let p = err_from_is_err_and c.from_residual.result c.from_residual.ensures.1 in
    rw (p.1, p.2, ← c.document.view_is) (images_first document none c.in_err-put_header.ensures.piece)

pub returns-in_err-put_images-clause-report : goal.returns-in_err-put_images-clause-report
returns-in_err-put_images-clause-report g c =
    let document : DocumentValue = record { braid = c.document.inside.braid; order = c.document.inside.order; expressions = c.document.inside.expressions.items } in
    let none : None ≡ first_long 1 document.expressions = sym c.in_default.is ∙ c.first_long.ensures.number ∙ ap (first_long 1) c.as_slice-expressions.ensures.value in
    let p = err_from_is_err_and c.from_residual-in_err-put_images.result c.from_residual-in_err-put_images.ensures.1 in
    rw (p.1, p.2, ← c.document.view_is) (images_break document none c.in_ok-put_header.ensures.piece (rw (← c.as_slice-expressions.ensures.value) c.in_err-put_images.ensures.pieces))

pub returns-clause-report : goal.returns-clause-report
returns-clause-report g c =
    let document : DocumentValue = record { braid = c.document.inside.braid; order = c.document.inside.order; expressions = c.document.inside.expressions.items } in
    let none : None ≡ first_long 1 document.expressions = sym c.in_default.is ∙ c.first_long.ensures.number ∙ ap (first_long 1) c.as_slice-expressions.ensures.value in
    rw (← c.document.view_is) (images_whole document none c.in_ok-put_header.ensures.piece (rw (← c.as_slice-expressions.ensures.value) c.in_ok-put_images.ensures.pieces))
