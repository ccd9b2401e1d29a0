use Rattle.std.proofs.Common.{drop, ◌∙◌, ap, ap₂, sym, subst, pos, to_z, of_z, w64, ◌≡◌, rules, arith}
use Rattle.nichols_field.specs.Field.{joined}
use Rattle.nichols_expression.specs.Reader.{got, pair_at}
use Rattle.nichols_expression.specs.Steps.{IsStoppedBy}
use Rattle.nichols_expression.proofs.PairSteps.{pair_first, pair_second, pair_star}
use Rattle.nichols_expression.proofs.Stops.{stop_moved, answered}
use Rattle.nichols_expression.proofs.pairs.read_pair.Goals as goal

pub returns-in_err-u : goal.returns-in_err-u
returns-in_err-u c =
    let text = c.args.text.now in
    let read = pair_at c.args.field (drop c.args.from text) in
    answered _ (IsStoppedBy text read) _ c.from_residual.result c.from_residual.ensures.0 c.from_residual.ensures.1
    (λ e gives. subst (IsStoppedBy text read) (sym gives)
    (stop_moved text _ read c.in_err-u.field-0.0 (λ cause left h. pair_first c.args.field text c.args.from c.behind_spaces-first.result _ c.behind_spaces-first.ensures.left h) c.in_err-u.ensures))

pub returns-in_err-v : goal.returns-in_err-v
returns-in_err-v c =
    let text = c.args.text.now in
    let read = pair_at c.args.field (drop c.args.from text) in
    answered _ (IsStoppedBy text read) _ c.from_residual-in_err-v.result c.from_residual-in_err-v.ensures.0 c.from_residual-in_err-v.ensures.1
    (λ e gives. subst (IsStoppedBy text read) (sym gives)
    (stop_moved text _ read c.in_err-v.field-0.0
    (λ cause left h.
    pair_first c.args.field text c.args.from c.behind_spaces-first.result _ c.behind_spaces-first.ensures.left c.in_ok-u.ensures.2
    ∙ pair_second c.args.field c.in_ok-u.u text c.in_ok-u.comma c.behind_spaces-second.result _ c.behind_spaces-second.ensures.left h)
    c.in_err-v.ensures))

pub returns-in_err-end : goal.returns-in_err-end
returns-in_err-end c =
    let text = c.args.text.now in
    let read = pair_at c.args.field (drop c.args.from text) in
    answered _ (IsStoppedBy text read) _ c.from_residual-in_err-end.result c.from_residual-in_err-end.ensures.0 c.from_residual-in_err-end.ensures.1
    (λ e gives. subst (IsStoppedBy text read) (sym gives)
    (stop_moved text _ read c.in_err-end.field-0.0
    (λ cause left h.
    pair_first c.args.field text c.args.from c.behind_spaces-first.result _ c.behind_spaces-first.ensures.left c.in_ok-u.ensures.2
    ∙ pair_second c.args.field c.in_ok-u.u text c.in_ok-u.comma c.behind_spaces-second.result _ c.behind_spaces-second.ensures.left c.in_ok-v.ensures.2
    ∙ pair_star c.args.field c.in_ok-u.u c.in_ok-v.v text c.in_ok-v.closing c.behind_spaces-star.result _ c.behind_spaces-star.ensures.left h)
    c.in_err-end.ensures))

pub returns : goal.returns
returns c =
    let text = c.args.text.now in
    let low : to_z w64 (of_z w64 c.from.result) ≡ pos c.in_ok-u.u = search rules in
    let high : to_z w64 (of_z w64 c.from-2.result) ≡ pos c.in_ok-v.v = search rules in (
      (
        omega (arith, c.behind_spaces-first.ensures.behind, c.in_ok-u.ensures.0, c.behind_spaces-second.ensures.behind, c.in_ok-v.ensures.0, c.behind_spaces-star.ensures.behind, c.in_ok-end.ensures.0),
        c.in_ok-end.ensures.1,
        pair_first c.args.field text c.args.from c.behind_spaces-first.result _ c.behind_spaces-first.ensures.left c.in_ok-u.ensures.2
            ∙ pair_second c.args.field c.in_ok-u.u text c.in_ok-u.comma c.behind_spaces-second.result _ c.behind_spaces-second.ensures.left c.in_ok-v.ensures.2
            ∙ pair_star c.args.field c.in_ok-u.u c.in_ok-v.v text c.in_ok-v.closing c.behind_spaces-star.result _ c.behind_spaces-star.ensures.left c.in_ok-end.ensures.2
            ∙ ap (λ e. got e (drop c.in_ok-end.end text)) (sym (c.joined-coefficient.ensures.value ∙ ap₂ (joined c.args.field) low high)),
      ),
      c.joined-coefficient.ensures.element,
    )
