use Rattle.std.proofs.Common.{rules}
use Rattle.nichols_block.proofs.EndForms.{left_cells_at, left_none, left_read, left_row_there}
use Rattle.nichols_block.proofs.forms.form_without_first.Goals as goal

pub returns-in_default : goal.returns-in_default
returns-in_default c =
    left_none c.args.braid.now c.args.key.now.degree c.args.key.now.product c.args.c c.args.word.now
    (left_read c.args.braid.now c.field-field.ensures.braid c.args.key.now.degree c.args.key.now.product c.requires.block.some c.requires.block.there c.args.c c.requires.letter c.args.word.now c.requires.sent c.requires.word c.requires.least
    c.requires.other) (search rules)

pub right_row-requires-clause-place : goal.right_row-requires-clause-place
right_row-requires-clause-place c =
    left_row_there c.args.braid.now c.args.key.now.degree c.args.key.now.product c.args.c c.letter-b.result c.args.word.now c.in-Some.rule.now c.args.back
    (left_read c.args.braid.now c.field-field.ensures.braid c.args.key.now.degree c.args.key.now.product c.requires.block.some c.requires.block.there c.args.c c.requires.letter c.args.word.now c.requires.sent c.requires.word c.requires.least
    c.requires.other) (search rules) (search rules) c.requires.below

pub returns : goal.returns
returns c =
    left_cells_at c.args.braid.now c.args.key.now.degree c.args.key.now.product c.args.c c.letter-b.result c.args.word.now c.in-Some.rule.now c.args.back c.right_row.result.now
    (left_read c.args.braid.now c.field-field.ensures.braid c.args.key.now.degree c.args.key.now.product c.requires.block.some c.requires.block.there c.args.c c.requires.letter c.args.word.now c.requires.sent c.requires.word c.requires.least
    c.requires.other) (search rules) (search rules) c.requires.below c.requires.place c.right_row.ensures
