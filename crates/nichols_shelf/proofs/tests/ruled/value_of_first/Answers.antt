use Rattle.std.proofs.Common.{sym, subst}
use Rattle.nichols_block.specs.Lower.{AreLowerRules, AreLowerValues}
use Rattle.nichols_shelf.proofs.FirstValue.{lower_rules_are_right}
use Rattle.nichols_shelf.proofs.tests.ruled.value_of_first.Goals as goal

pub make-requires-clause-lower : goal.make-requires-clause-lower
make-requires-clause-lower c =
    let g = c.at.result.now in
    subst (λ braid. AreLowerValues braid c.args.limit record { degree = 1; product = g } c.as_slice.result.now) (sym c.braid.ensures)
    (lower_rules_are_right c.args.levels.now.braid c.args.limit g c.as_slice.result.now c.requires.some_rows
    (subst (AreLowerRules c.args.levels.now.braid record { degree = 1; product = g }) (sym c.as_slice.ensures.value) c.in-Ok.ensures))
