use Rattle.std.proofs.Common.{◌∷◌, [], ◌++◌, ◌∙◌, ap, sym, arith}
use Rattle.nichols_memo.proofs.LeastForm.{own_form}
use Rattle.nichols_memo.proofs.tests.form_of_least.Goals as goal

pub returns : goal.returns
returns c =
    own_form c.args.braid.now c.field-field.ensures.braid c.as_slice.result.now c.args.word.now c.push.new.self (c.as_slice.ensures.value ∙ c.in_ok-degree.ensures.basis) (sym c.if-not-contains.ensures.value)
    (omega (arith, c.len.ensures.value, c.if-len-ne2.false))
    (c.in_ok-push.ensures.pushed ∙ ap (λ g. g ++ record { word = c.args.word.now; coefficient = 1 } ∷ []) c.zero-form.ensures)
