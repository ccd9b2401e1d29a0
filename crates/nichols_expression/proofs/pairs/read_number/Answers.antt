use Rattle.std.proofs.Common.{◌-◌, take, drop, sym, ◌∙◌, ap, subst, arith}
use Rattle.std.specs.Str.Parse.{AllDigits}
use Rattle.nichols_expression.specs.Reader.{got, map_step, number_at}
use Rattle.nichols_expression.specs.Steps.{IsStoppedBy}
use Rattle.std.specs.Str.Parse.{digits_value}
use Rattle.nichols_expression.specs.declared.faults.Cause.TheVariants.{Early, Byte, LongNumber}
use Rattle.nichols_expression.proofs.PairSteps.{RunFrom, number_missing, number_none, number_long, number_by_mark}
use Rattle.nichols_expression.proofs.Runs.{run_is_digits}
use Rattle.nichols_expression.proofs.Stops.{stopped, stop_moved, answered}
use Rattle.nichols_expression.proofs.pairs.read_number.Goals as goal

pub returns-then-from-text : goal.returns-then-from-text
returns-then-from-text c =
    stopped c.args.text.now _ c.behind.result c.args.from Early c.requires c.behind.ensures.place c.behind.ensures.cause (number_missing c.args.mark c.args.text.now c.args.from (omega (arith, c.if-from-text.true)))

pub returns-then-not-has_digit : goal.returns-then-not-has_digit
returns-then-not-has_digit c =
    stopped c.args.text.now _ c.behind-then-not-has_digit.result c.args.from Byte c.requires c.behind-then-not-has_digit.ensures.place c.behind-then-not-has_digit.ensures.cause
    (number_none c.args.mark c.args.text.now c.args.from (omega (arith, c.requires, c.if-from-text.false)) (sym c.has_digit.ensures ∙ c.if-not-has_digit.true))

pub returns-then-is_long : goal.returns-then-is_long
returns-then-is_long c =
    let digit = sym c.has_digit.ensures ∙ c.if-not-has_digit.false in
    stopped c.args.text.now _ c.behind-then-is_long.result c.args.from LongNumber c.requires c.behind-then-is_long.ensures.place c.behind-then-is_long.ensures.cause
    (number_long c.args.mark c.args.text.now c.args.from c.behind_run-end.result digit c.behind_run-end.ensures.behind c.behind_run-end.ensures.within c.behind_run-end.ensures.run c.if-is_long.true)

pub number_of-requires-clause-digits : goal.number_of-requires-clause-digits
number_of-requires-clause-digits c = subst (AllDigits 10) (sym c.behind_run-end.ensures.run) (run_is_digits (drop c.args.from c.args.text.now))

pub returns-in_err-at : goal.returns-in_err-at
returns-in_err-at c =
    let run : RunFrom c.args.text.now c.args.from c.behind_run-end.result c.behind_spaces-behind.result =
    record {
      digit = sym c.has_digit.ensures ∙ c.if-not-has_digit.false;
      low = c.behind_run-end.ensures.behind;
      high = c.behind_run-end.ensures.within;
      taken = c.behind_run-end.ensures.run;
      left = c.behind_run-end.ensures.left;
      gap = c.behind_spaces-behind.ensures.left;
    } in
    let stop = c.in_err-at.field-0.0 in
    let read = number_at c.args.mark (drop c.args.from c.args.text.now) in
    answered _ (IsStoppedBy c.args.text.now read) _ c.from_residual.result c.from_residual.ensures.0 c.from_residual.ensures.1
    (λ e gives. subst (IsStoppedBy c.args.text.now read) (sym gives)
    (stop_moved c.args.text.now _ read stop
    (λ cause left h. number_by_mark c.args.mark c.args.text.now c.args.from c.behind_run-end.result c.behind_spaces-behind.result run c.if-is_long.false ∙ ap (map_step (λ _. digits_value 10 (take (c.behind_run-end.result - c.args.from) (drop c.args.from c.args.text.now)))) h)
    c.in_err-at.ensures))

pub returns : goal.returns
returns c =
    let run : RunFrom c.args.text.now c.args.from c.behind_run-end.result c.behind_spaces-behind.result =
    record {
      digit = sym c.has_digit.ensures ∙ c.if-not-has_digit.false;
      low = c.behind_run-end.ensures.behind;
      high = c.behind_run-end.ensures.within;
      taken = c.behind_run-end.ensures.run;
      left = c.behind_run-end.ensures.left;
      gap = c.behind_spaces-behind.ensures.left;
    } in (
      omega (arith, c.behind_run-end.ensures.behind, c.behind_spaces-behind.ensures.behind, c.in_ok-at.ensures.0),
      c.in_ok-at.ensures.1,
      number_by_mark c.args.mark c.args.text.now c.args.from c.behind_run-end.result c.behind_spaces-behind.result run c.if-is_long.false
          ∙ ap (map_step (λ _. digits_value 10 (take (c.behind_run-end.result - c.args.from) (drop c.args.from c.args.text.now)))) c.in_ok-at.ensures.2
          ∙ ap (λ v. got v (drop c.in_ok-at.at c.args.text.now)) (sym c.number_of.ensures.value),
    )
