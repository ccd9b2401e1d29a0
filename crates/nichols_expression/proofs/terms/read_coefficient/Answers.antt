use Rattle.std.proofs.Common.{◌≡◌, pos, drop, w64, to_z, of_z, rules, sym, ◌∙◌, ap, subst, arith}
use Rattle.std.specs.Str.Parse.{AllDigits}
use Rattle.nichols_field.specs.Field.{residue}
use Rattle.nichols_field.proofs.FieldLaws.{one_is_element}
use Rattle.nichols_expression.specs.declared.faults.Cause.TheVariants.{LongNumber}
use Rattle.nichols_expression.specs.Steps.{IsStoppedBy}
use Rattle.nichols_expression.proofs.Runs.{run_is_digits}
use Rattle.nichols_expression.proofs.Stops.{stopped, stop_moved, answered}
use Rattle.nichols_expression.proofs.TermSteps.{term_from, term_of_pair, term_without_pair_end, term_without_digit, term_without_star, term_of_long_number, term_of_number}
use Rattle.nichols_expression.proofs.terms.read_coefficient.Goals as goal

pub returns-in_err-coefficient : goal.returns-in_err-coefficient
returns-in_err-coefficient c =
    let read = term_from c.args.field c.args.letters c.args.text.now c.args.from in
    let opened = sym c.opens_pair.ensures ∙ c.if-opens_pair.true in
    answered _ (IsStoppedBy c.args.text.now read) _ c.from_residual.result c.from_residual.ensures.0 c.from_residual.ensures.1
    (λ e gives. subst (IsStoppedBy c.args.text.now read) (sym gives)
    (stop_moved c.args.text.now _ read c.in_err-coefficient.field-0.0
    (λ cause left h. term_without_pair_end c.args.field c.args.letters c.args.text.now c.args.from cause left opened h) c.in_err-coefficient.ensures))

pub returns-then-opens_pair : goal.returns-then-opens_pair
returns-then-opens_pair c =
    let opened = sym c.opens_pair.ensures ∙ c.if-opens_pair.true in
    let read = c.in_ok-coefficient.ensures.0 in (
      omega (arith, read.0, c.behind_spaces.ensures.behind),
      c.behind_spaces.ensures.within,
      c.in_ok-coefficient.ensures.1,
      term_of_pair c.args.field c.args.letters c.args.text.now c.args.from c.in_ok-coefficient.end c.behind_spaces.result c.in_ok-coefficient.coefficient opened read.2 c.behind_spaces.ensures.left,
    )

pub returns-then-not-has_digit : goal.returns-then-not-has_digit
returns-then-not-has_digit c = (
  omega arith,
  omega (arith, c.requires),
  one_is_element c.args.field c.modulus-modulus.ensures.field,
  term_without_digit c.args.field c.args.letters c.args.text.now c.args.from c.requires (sym c.opens_pair.ensures ∙ c.if-opens_pair.false) (sym c.has_digit.ensures ∙ c.if-not-has_digit.true),
)

pub returns-then-not-has_byte : goal.returns-then-not-has_byte
returns-then-not-has_byte c = (
  omega arith,
  omega (arith, c.requires),
  one_is_element c.args.field c.modulus-modulus.ensures.field,
  term_without_star c.args.field c.args.letters c.args.text.now c.args.from c.behind_run-end.result c.behind_spaces-behind.result c.requires (sym c.opens_pair.ensures ∙ c.if-opens_pair.false) (sym c.has_digit.ensures ∙ c.if-not-has_digit.false)
      c.behind_run-end.ensures.left c.behind_spaces-behind.ensures.left (sym c.has_byte.ensures ∙ c.if-not-has_byte.true),
)

pub returns-then-is_long : goal.returns-then-is_long
returns-then-is_long c =
    stopped c.args.text.now _ c.behind.result c.args.from LongNumber (omega (arith, c.requires)) c.behind.ensures.place c.behind.ensures.cause
    (term_of_long_number c.args.field c.args.letters c.args.text.now c.args.from c.behind_run-end.result c.behind_spaces-behind.result c.requires (sym c.opens_pair.ensures ∙ c.if-opens_pair.false) (sym c.has_digit.ensures ∙ c.if-not-has_digit.false)
    c.behind_run-end.ensures.left c.behind_spaces-behind.ensures.left (sym c.has_byte.ensures ∙ c.if-not-has_byte.false)
    c.behind_run-end.ensures.behind c.behind_run-end.ensures.within c.behind_run-end.ensures.run c.if-is_long.true)

pub number_of-number-requires-clause-digits : goal.number_of-number-requires-clause-digits
number_of-number-requires-clause-digits c = subst (AllDigits 10) (sym c.behind_run-end.ensures.run) (run_is_digits (drop c.args.from c.args.text.now))

pub returns : goal.returns
returns c =
    let starred = sym c.has_byte.ensures ∙ c.if-not-has_byte.false in
    let back : to_z w64 (of_z w64 c.from.result) ≡ c.from.result = search rules in (
      omega (arith, c.behind_run-end.ensures.behind, c.behind_spaces-behind.ensures.behind, c.behind_spaces-2.ensures.behind),
      c.behind_spaces-2.ensures.within,
      c.from_i64-coefficient.ensures.element,
      term_of_number c.args.field c.args.letters c.args.text.now c.args.from c.behind_run-end.result c.behind_spaces-behind.result c.behind_spaces-2.result c.from_i64-coefficient.result
          c.requires (sym c.opens_pair.ensures ∙ c.if-opens_pair.false) (sym c.has_digit.ensures ∙ c.if-not-has_digit.false)
          c.behind_run-end.ensures.left c.behind_spaces-behind.ensures.left starred
          c.behind_run-end.ensures.behind c.behind_run-end.ensures.within c.behind_run-end.ensures.run c.if-is_long.false
          (c.from_i64-coefficient.ensures.residue ∙ ap (residue c.args.field) (back ∙ c.from.ensures ∙ ap (λ n. pos n) c.number_of-number.ensures.value)) c.behind_spaces-2.ensures.left,
    )
