use Rattle.std.proofs.Common.{◌-◌, ◌∙◌, length, ap, sym, arith}
use Rattle.std.specs.Prelude.{slice_index}
use Rattle.nichols_block.proofs.LowerRules.{images_of_all, left_words_at, last_is_sent}
use Rattle.nichols_block.proofs.lower.sent_to.Goals as goal

pub bounds-images-from : goal.bounds-images-from
bounds-images-from c = omega (arith, images_of_all c.args.braid.now c.args.key.now c.requires.block, ap length c.images-images.ensures.same)

pub returns-then-images-from-clause-words : goal.returns-then-images-from-clause-words
returns-then-images-from-clause-words c =
    left_words_at c.args.braid.now c.args.key.now c.args.letter c.loop-c.c c.field-field.ensures.braid c.requires.block (omega arith, omega arith)
    (sym (ap (λ g. slice_index g (c.from.result - 1)) c.images-images.ensures.same ∙ ap (λ k. slice_index c.args.key.now.product (k - 1)) c.from.ensures) ∙ c.if-images-from.true)

pub returns-clause-sent : goal.returns-clause-sent
returns-clause-sent c =
    last_is_sent c.args.braid.now c.args.key.now c.args.letter c.letters.result c.loop-c.c c.field-field.ensures.braid c.requires.block c.requires.letter c.letters.ensures (omega arith) c.loop-c.invariant

pub returns-clause-words : goal.returns-clause-words
returns-clause-words c =
    left_words_at c.args.braid.now c.args.key.now c.args.letter c.letters.result c.field-field.ensures.braid c.requires.block (omega (arith, c.field-field.ensures.braid.least), omega arith)
    (returns-clause-sent c)
