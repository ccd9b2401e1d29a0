use Rattle.std.proofs.lemmas.Result.{IfOk-weaker}
use Rattle.nichols_block.proofs.DerivedRows.{empty_are_rows}
use Rattle.nichols_block.proofs.derivatives.rows_by_letter.Goals as goal

pub returns-in-None-clause-rows : goal.returns-in-None-clause-rows
returns-in-None-clause-rows c =
    IfOk-weaker c.empty_rows.result _ _
    (λ rows e. empty_are_rows c.args.braid.now c.field-field.ensures.braid c.args.key.now.degree c.args.key.now.product c.requires.block.some c.requires.block.there c.args.a c.requires.letter c.args.spots.now c.requires.spots c.in-None.ensures rows e)
    c.empty_rows.ensures
