use Rattle.std.proofs.Common.{sym, ◌∙◌, arith}
use Rattle.nichols_expression.specs.declared.faults.Cause.TheVariants.{Early, Byte}
use Rattle.nichols_expression.proofs.PairSteps.{mark_found, mark_missing, mark_other}
use Rattle.nichols_expression.proofs.Scanning.{byte_at}
use Rattle.nichols_expression.proofs.Stops.{stopped}
use Rattle.nichols_expression.proofs.pairs.behind_mark.Goals as goal

pub returns-then-has_byte : goal.returns-then-has_byte
returns-then-has_byte c =
    let test = sym c.has_byte.ensures ∙ c.if-has_byte.true in
    (omega arith, (byte_at c.args.text.now c.args.at c.args.mark test).next, mark_found c.args.mark c.args.text.now c.args.at test)

pub returns-then-at-text : goal.returns-then-at-text
returns-then-at-text c =
    stopped c.args.text.now _ c.behind.result c.args.at Early c.requires c.behind.ensures.place c.behind.ensures.cause (mark_missing c.args.mark c.args.text.now c.args.at (omega (arith, c.if-at-text.true)))

pub returns : goal.returns
returns c =
    stopped c.args.text.now _ c.behind-2.result c.args.at Byte c.requires c.behind-2.ensures.place c.behind-2.ensures.cause
    (mark_other c.args.mark c.args.text.now c.args.at (omega (arith, c.requires, c.if-at-text.false)) (sym c.has_byte.ensures ∙ c.if-has_byte.false))
