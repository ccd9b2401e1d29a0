use Rattle.std.proofs.Common.{◌∙◌, sym, arith}
use Rattle.nichols_top.proofs.LongExpressions.{long_here, long_later, none_long, short_more}
use Rattle.nichols_top.proofs.symmetrize.first_long.Goals as goal

pub returns-then-is_long-clause-number : goal.returns-then-is_long-clause-number
returns-then-is_long-clause-number c =
    sym (c.loop-expression.invariant.rest ∙ long_here c.args.expressions.now c.loop-expression.expression-index c.loop-expression.number c.expression-item.result c.loop-expression-test.true c.expression-item.is (sym c.is_long.ensures ∙ c.if-is_long.true))

pub loop-expression-preserved : goal.loop-expression-preserved
loop-expression-preserved c = record {
  number = omega (arith, c.loop-expression.invariant.number);
  rest = c.loop-expression.invariant.rest
      ∙ long_later c.args.expressions.now c.loop-expression.expression-index c.loop-expression.number c.expression-item.result c.loop-expression-test.true c.expression-item.is (sym c.is_long.ensures ∙ c.if-is_long.false);
  short = short_more c.args.expressions.now c.loop-expression.expression-index c.expression-item.result c.loop-expression-test.true c.expression-item.is (sym c.is_long.ensures ∙ c.if-is_long.false) c.loop-expression.invariant.short;
}

pub returns-clause-number : goal.returns-clause-number
returns-clause-number c = sym (c.loop-expression.invariant.rest ∙ none_long c.args.expressions.now c.loop-expression.expression-index c.loop-expression.number (omega arith))
