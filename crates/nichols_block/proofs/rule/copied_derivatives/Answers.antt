use Rattle.nichols_block.proofs.RuleParts.{closed_at, count_at, one_more, least_derivatives_are}
use Rattle.nichols_block.proofs.rule.copied_derivatives.Goals as goal

pub least_rows-requires-clause-closed : goal.least_rows-requires-clause-closed
least_rows-requires-clause-closed c =
    closed_at c.args.braid.now c.args.key.now.degree c.args.key.now.product c.args.derivs.now c.loop-own.own-index c.own-item.result c.requires.derivs c.loop-own-test.true c.own-item.is

pub least_rows-requires-clause-count : goal.least_rows-requires-clause-count
least_rows-requires-clause-count c =
    count_at c.args.braid.now c.args.key.now.degree c.args.key.now.product c.args.derivs.now c.loop-own.own-index c.own-item.result c.args.places.now c.requires.derivs c.requires.places c.loop-own-test.true c.own-item.is

pub loop-own-preserved : goal.loop-own-preserved
loop-own-preserved c =
    one_more c.args.places.now c.args.derivs.now c.loop-own.own-index c.own-item.result c.in_ok-least_rows.field-0 c.loop-own.least.items c.push.new.self.items c.loop-own-test.true c.own-item.is c.loop-own.invariant
    c.in_ok-least_rows.ensures c.in_ok-push.ensures.items

pub returns : goal.returns
returns c =
    least_derivatives_are c.args.braid.now c.args.key.now.degree c.args.key.now.product c.args.derivs.now c.args.places.now c.loop-own.own-index c.loop-own.least.items c.requires.derivs c.requires.places c.loop-own-test.false
    c.loop-own.invariant
