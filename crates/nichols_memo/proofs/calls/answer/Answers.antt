use Rattle.std.proofs.Common.{◌∙◌, sym}
use Rattle.std.proofs.lemmas.Result.{err_from_is_err_and}
use Rattle.nichols_memo.proofs.Telling.{tells_form, tells_want, tells_nothing, form_is_right}
use Rattle.nichols_memo.proofs.calls.answer.Goals as goal

pub returns-in_err-copy-clause-tells : goal.returns-in_err-copy-clause-tells
returns-in_err-copy-clause-tells c =
    let p = err_from_is_err_and c.from_residual.result c.from_residual.ensures.1 in
    tells_want c.args.entry.now c.in-Some.entry c.args.word.now c.from_residual.result p.0 p.1 c.in-Some.is (sym c.eq.ensures ∙ c.if-eq.true)

pub returns-in_ok-copy-clause-tells : goal.returns-in_ok-copy-clause-tells
returns-in_ok-copy-clause-tells c = tells_form _ c.args.entry.now c.in-Some.entry c.args.word.now c.in_ok-copy.field-0 c.in-Some.is (sym c.eq.ensures ∙ c.if-eq.true) c.in_ok-copy.ensures

pub returns-in_ok-copy-clause-hit : goal.returns-in_ok-copy-clause-hit
returns-in_ok-copy-clause-hit c = λ braid right. form_is_right braid c.args.entry.now c.in-Some.entry c.args.word.now c.in_ok-copy.field-0 c.in-Some.is (sym c.eq.ensures ∙ c.if-eq.true) c.in_ok-copy.ensures right

pub returns-else-eq-clause-tells : goal.returns-else-eq-clause-tells
returns-else-eq-clause-tells c = tells_nothing _ c.args.entry.now c.in-Some.entry c.args.word.now c.in-Some.is (sym c.eq.ensures ∙ c.if-eq.false)
