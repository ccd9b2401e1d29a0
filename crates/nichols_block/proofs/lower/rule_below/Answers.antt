use Rattle.std.proofs.Common.{◌≢◌, subst}
use Rattle.std.proofs.lemmas.List.Elements.{All-more}
use Rattle.nichols_value.specs.declared.shared.LowerValue.{LowerValue}
use Rattle.nichols_block.proofs.LowerRules.{answered, no_words}
use Rattle.nichols_block.proofs.lower.rule_below.Goals as goal

pub returns-then-below-leading : goal.returns-then-below-leading
returns-then-below-leading c =
    answered c.args.braid.now c.args.key.now c.args.lower.now c.args.letter c.loop-below.below-index c.leading-leading.result c.below-item.result c.rule_in.result c.requires.lower c.requires.letter c.loop-below-test.true c.below-item.is
    c.if-below-leading.true c.leading-leading.ensures.value c.rule_in.ensures

pub returns : goal.returns
returns c =
    no_words c.args.braid.now c.args.key.now c.args.lower.now c.args.letter c.loop-below.below-index c.leading-leading.result c.requires.block c.requires.lower c.requires.letter c.loop-below-test.false c.leading-leading.ensures.value
    c.loop-below.invariant

pub loop-below-preserved : goal.loop-below-preserved
loop-below-preserved c =
    All-more (λ (x : LowerValue). x.letter ≢ c.leading-leading.result) c.args.lower.now c.loop-below.below-index c.below-item.result c.loop-below-test.true c.loop-below.invariant
    (subst (λ (x : LowerValue). x.letter ≢ c.leading-leading.result) c.below-item.is c.if-below-leading.false)
