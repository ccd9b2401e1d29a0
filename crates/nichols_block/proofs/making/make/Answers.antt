use Rattle.std.proofs.Common.{arith, inr, refl}
use Rattle.nichols_braid.specs.Kernel.{is_killed}
use Rattle.nichols_braid.specs.Products.{rows}
use Rattle.nichols_value.specs.declared.value.BlockValue.TheVariants as value
use Rattle.nichols_block.proofs.Outlooks.{IsTold, few_below, right_when_made, right_when_over, right_when_void, rules_below, told_over, told_rule, told_starved, told_void, told_want, whole_below}
use Rattle.nichols_block.proofs.making.make.Goals as goal

pub returns-in-Void : goal.returns-in-Void
returns-in-Void c =
    let told : IsTold c.args.lower.now c.args.rows_limit (rows is_killed c.args.braid.now c.args.key.now.degree c.args.key.now.product) value.Void = told_void c.args.lower.now c.args.rows_limit (rows is_killed c.args.braid.now c.args.key.now.degree c.args.key.now.product) c.in-Void.ensures in
    record { right = right_when_void c.args.braid.now c.args.rows_limit c.args.key.now c.args.lower.now c.requires.block c.requires.lower c.in-Void.ensures.0; starved = told.starved; void = told.void; over = told.over }

pub returns-in-Starved : goal.returns-in-Starved
returns-in-Starved c =
    let told : IsTold c.args.lower.now c.args.rows_limit (rows is_killed c.args.braid.now c.args.key.now.degree c.args.key.now.product) value.Starved = told_starved c.args.lower.now c.args.rows_limit (rows is_killed c.args.braid.now c.args.key.now.degree c.args.key.now.product) c.in-Starved.ensures in
    record { right = inr refl; starved = told.starved; void = told.void; over = told.over }

pub candidate_count-count-requires-clause-lower : goal.candidate_count-count-requires-clause-lower
candidate_count-count-requires-clause-lower c = rules_below c.args.braid.now c.args.rows_limit c.args.key.now c.args.lower.now c.requires.lower c.in-Rules.ensures

pub candidate_count-count-requires-clause-few : goal.candidate_count-count-requires-clause-few
candidate_count-count-requires-clause-few c = few_below c.args.braid.now c.args.rows_limit c.args.key.now c.field-field.ensures.braid c.requires.few_rows (whole_below c.args.braid.now c.args.rows_limit c.args.key.now c.args.lower.now c.requires.block c.requires.lower c.in-Rules.ensures)

pub returns-then-count-from : goal.returns-then-count-from
returns-then-count-from c =
    let told : IsTold c.args.lower.now c.args.rows_limit (rows is_killed c.args.braid.now c.args.key.now.degree c.args.key.now.product) (value.Over c.candidate_count-count.result) = told_over c.args.lower.now c.args.rows_limit (rows is_killed c.args.braid.now c.args.key.now.degree c.args.key.now.product) c.candidate_count-count.result c.in-Rules.ensures c.candidate_count-count.ensures (omega (arith, c.from.ensures, c.if-count-from.true)) in
    record { right = right_when_over c.args.braid.now c.args.rows_limit c.args.key.now c.candidate_count-count.result (whole_below c.args.braid.now c.args.rows_limit c.args.key.now c.args.lower.now c.requires.block c.requires.lower c.in-Rules.ensures) c.candidate_count-count.ensures (omega (arith, c.from.ensures, c.if-count-from.true)); starved = told.starved; void = told.void; over = told.over }

pub block_rule-requires-clause-lower : goal.block_rule-requires-clause-lower
block_rule-requires-clause-lower c = rules_below c.args.braid.now c.args.rows_limit c.args.key.now c.args.lower.now c.requires.lower c.in-Rules.ensures

pub returns-in-Ok : goal.returns-in-Ok
returns-in-Ok c =
    let told : IsTold c.args.lower.now c.args.rows_limit (rows is_killed c.args.braid.now c.args.key.now.degree c.args.key.now.product) (value.Rule c.in-Ok.rule) = told_rule c.args.lower.now c.args.rows_limit (rows is_killed c.args.braid.now c.args.key.now.degree c.args.key.now.product) c.candidate_count-count.result c.in-Ok.rule c.in-Rules.ensures c.candidate_count-count.ensures (omega (arith, c.from.ensures, c.if-count-from.false)) in
    record { right = right_when_made c.args.braid.now c.args.rows_limit c.args.key.now c.candidate_count-count.result c.in-Ok.rule (whole_below c.args.braid.now c.args.rows_limit c.args.key.now c.args.lower.now c.requires.block c.requires.lower c.in-Rules.ensures) c.candidate_count-count.ensures (omega (arith, c.from.ensures, c.if-count-from.false)) c.in-Ok.ensures; starved = told.starved; void = told.void; over = told.over }

pub returns-in-Err : goal.returns-in-Err
returns-in-Err c =
    let told : IsTold c.args.lower.now c.args.rows_limit (rows is_killed c.args.braid.now c.args.key.now.degree c.args.key.now.product) value.Starved = told_want c.args.lower.now c.args.rows_limit (rows is_killed c.args.braid.now c.args.key.now.degree c.args.key.now.product) c.candidate_count-count.result c.in-Rules.ensures c.candidate_count-count.ensures (omega (arith, c.from.ensures, c.if-count-from.false)) in
    record { right = inr refl; starved = told.starved; void = told.void; over = told.over }
