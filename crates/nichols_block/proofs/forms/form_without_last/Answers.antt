use Rattle.std.proofs.Common.{rules}
use Rattle.nichols_block.proofs.EndForms.{right_cells_at, right_none, right_read, right_row_there}
use Rattle.nichols_block.proofs.forms.form_without_last.Goals as goal

pub returns-in_default : goal.returns-in_default
returns-in_default c =
    right_none c.args.braid.now c.args.key.now.degree c.args.key.now.product c.args.word.now
    (right_read c.args.braid.now c.field-field.ensures.braid c.args.key.now.degree c.args.key.now.product c.requires.block.some c.args.word.now c.requires.word c.requires.least c.requires.other) (search rules)

pub left_row-requires-clause-place : goal.left_row-requires-clause-place
left_row-requires-clause-place c =
    right_row_there c.args.braid.now c.args.key.now.degree c.args.key.now.product c.args.word.now c.in-Some.rule.now c.letter-a.result c.args.front
    (right_read c.args.braid.now c.field-field.ensures.braid c.args.key.now.degree c.args.key.now.product c.requires.block.some c.args.word.now c.requires.word c.requires.least c.requires.other) (search rules) c.letter-a.ensures.value c.requires.below

pub returns : goal.returns
returns c =
    right_cells_at c.args.braid.now c.args.key.now.degree c.args.key.now.product c.args.word.now c.in-Some.rule.now c.letter-a.result c.args.front c.left_row.result.now
    (right_read c.args.braid.now c.field-field.ensures.braid c.args.key.now.degree c.args.key.now.product c.requires.block.some c.args.word.now c.requires.word c.requires.least c.requires.other) (search rules) c.letter-a.ensures.value c.requires.below c.requires.place c.left_row.ensures
