use Rattle.std.proofs.Common.{◌<◌, length, arith}
use Rattle.nichols_product.proofs.AnsweredProducts.{answers_all, answers_more, answers_none}
use Rattle.nichols_product.proofs.products.product_run.Goals as goal

pub loop-factor-init : goal.loop-factor-init
loop-factor-init c = answers_none c.args.levels.now.braid c.args.levels.now.last c.args.combs.now c.in_ok-running.running c.new-answers.result.items c.in_ok-running.ensures.kept c.in_ok-running.ensures.product c.new-answers.ensures.items

pub loop-factor-preserved : goal.loop-factor-preserved
loop-factor-preserved c =
    let inside : c.loop-factor.factor-index < length c.args.combs.now = omega arith in
    answers_more c.args.levels.now.braid c.args.levels.now.last c.args.combs.now c.loop-factor.factor-index c.factor-item.result c.loop-factor.running c.in_ok-running-2.running c.loop-factor.answers.items c.push.new.self.items c.in_ok-answer.field-0 c.requires.letters inside c.factor-item.is
    c.loop-factor.invariant c.in_ok-running-2.ensures.kept c.in_ok-running-2.ensures.product c.in_ok-answer.ensures c.in_ok-push.ensures.items

pub returns-clause-answers : goal.returns-clause-answers
returns-clause-answers c =
    answers_all c.args.levels.now.braid c.args.levels.now.last c.args.combs.now c.loop-factor.factor-index c.loop-factor.running c.loop-factor.answers.items c.loop-factor.invariant (omega arith)
