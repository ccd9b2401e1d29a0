use Rattle.nichols_block.proofs.LowerRules.{all_counted}
use Rattle.nichols_block.proofs.lower.candidate_count.Goals as goal

pub returns : goal.returns
returns c =
    all_counted c.args.braid.now c.args.key.now c.letters-b-end.result c.loop-b.b c.loop-b.count c.field-field.ensures.braid c.requires.block c.letters-b-end.ensures c.loop-b.auto.b-end c.loop-b-test.false c.loop-b.invariant.counted
