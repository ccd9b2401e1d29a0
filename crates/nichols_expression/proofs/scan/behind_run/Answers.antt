use Rattle.std.proofs.Common.{◌∙◌, arith, sym}
use Rattle.nichols_expression.proofs.Scanning.{digit_passed, no_digit_stays, end_of_run, run_taken}
use Rattle.nichols_expression.proofs.scan.behind_run.Goals as goal

pub loop-at-preserved : goal.loop-at-preserved
loop-at-preserved c = record {
  behind = omega (arith, c.loop-at.invariant.behind);
  within = omega (arith, c.loop-at-test.true);
  same = digit_passed c.args.text.now c.loop-at.at 0 c.loop-at-test.true (sym c.is_ascii_digit.ensures.value ∙ c.if-is_ascii_digit.true) ∙ c.loop-at.invariant.same;
}

pub returns-else-is_ascii_digit-clause-left : goal.returns-else-is_ascii_digit-clause-left
returns-else-is_ascii_digit-clause-left c = no_digit_stays c.args.text.now c.loop-at.at 0 c.loop-at-test.true (sym c.is_ascii_digit.ensures.value ∙ c.if-is_ascii_digit.false) ∙ c.loop-at.invariant.same

pub returns-else-is_ascii_digit-clause-run : goal.returns-else-is_ascii_digit-clause-run
returns-else-is_ascii_digit-clause-run c =
    run_taken c.args.text.now c.args.from c.loop-at.at c.loop-at.invariant.behind c.loop-at.invariant.within
    (no_digit_stays c.args.text.now c.loop-at.at 0 c.loop-at-test.true (sym c.is_ascii_digit.ensures.value ∙ c.if-is_ascii_digit.false) ∙ c.loop-at.invariant.same)

pub returns-after-loop-at-clause-left : goal.returns-after-loop-at-clause-left
returns-after-loop-at-clause-left c = end_of_run c.args.text.now c.loop-at.at (omega (arith, c.loop-at-test.false)) ∙ c.loop-at.invariant.same

pub returns-after-loop-at-clause-run : goal.returns-after-loop-at-clause-run
returns-after-loop-at-clause-run c =
    run_taken c.args.text.now c.args.from c.loop-at.at c.loop-at.invariant.behind c.loop-at.invariant.within (end_of_run c.args.text.now c.loop-at.at (omega (arith, c.loop-at-test.false)) ∙ c.loop-at.invariant.same)
