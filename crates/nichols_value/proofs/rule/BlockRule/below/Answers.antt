use Rattle.std.proofs.Common.{◌-◌}
use Rattle.nichols_value.proofs.KeptRows.{forms_each}
use Rattle.nichols_value.proofs.rule.BlockRule.below.Goals as goal

pub returns-clause-forms : goal.returns-clause-forms
returns-clause-forms c = rw (← c.self.view_is) (forms_each c.self.inside.basis c.self.inside.below.items c.self.inside.right.items (c.args.letter - 1) c.self.invariant.0.rows)
