use Rattle.std.proofs.Common.{◌∙◌, ap, sym}
use Rattle.nichols_braid.specs.Kernel.{is_killed}
use Rattle.nichols_braid.specs.WholeForm.{normal_form_by_parts}
use Rattle.nichols_reduce.specs.Normal.{is_beyond}
use Rattle.nichols_reduce.proofs.LastDegree.{answer_beyond, answer_form}
use Rattle.nichols_reduce.proofs.reduced.normal_at_pace.Goals as goal

pub returns-then-is_beyond-clause-answer : goal.returns-then-is_beyond-clause-answer
returns-then-is_beyond-clause-answer c =
    answer_beyond c.args.levels.now.braid c.args.levels.now.last c.last-last.result c.args.comb.now c.last-last.ensures.value (ap (is_beyond c.args.levels.now.braid c.args.levels.now.last) (sym c.terms-terms.ensures.same) ∙ sym c.is_beyond.ensures ∙ c.if-is_beyond.true)

pub returns-clause-answer : goal.returns-clause-answer
returns-clause-answer c =
    answer_form c.args.levels.now.braid c.args.levels.now.last c.args.comb.now c.in_ok-form.form
    (ap (is_beyond c.args.levels.now.braid c.args.levels.now.last) (sym c.terms-terms.ensures.same) ∙ sym c.is_beyond.ensures ∙ c.if-is_beyond.false)
    (c.in_ok-form.ensures.form ∙ ap (normal_form_by_parts is_killed c.args.levels.now.braid) c.terms-terms.ensures.same)
