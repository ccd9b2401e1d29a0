use Rattle.std.proofs.Common.{◌∙◌, arith}
use Rattle.nichols_expression.proofs.Scanning.{space_passed, other_stays, end_of_spaces}
use Rattle.nichols_expression.proofs.scan.behind_spaces.Goals as goal

pub loop-at-preserved : goal.loop-at-preserved
loop-at-preserved c = record {
  behind = omega (arith, c.loop-at.invariant.behind);
  within = omega (arith, c.loop-at-test.true);
  same = space_passed c.args.text.now c.loop-at.at 0 c.loop-at-test.true c.if-text-at-eq32.true ∙ c.loop-at.invariant.same;
}

pub returns-else-text-at-eq32-clause-left : goal.returns-else-text-at-eq32-clause-left
returns-else-text-at-eq32-clause-left c = other_stays c.args.text.now c.loop-at.at 0 c.loop-at-test.true c.if-text-at-eq32.false ∙ c.loop-at.invariant.same

pub returns-after-loop-at-clause-left : goal.returns-after-loop-at-clause-left
returns-after-loop-at-clause-left c = end_of_spaces c.args.text.now c.loop-at.at (omega (arith, c.loop-at-test.false)) ∙ c.loop-at.invariant.same
