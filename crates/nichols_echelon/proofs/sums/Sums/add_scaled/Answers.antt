use Rattle.std.proofs.Common.{◌∙◌, ap, length, subst, sym, List}
use Rattle.nichols_field.specs.Field.{plus, times}
use Rattle.nichols_echelon.specs.Cells.{AllBelow, Cell, entry}
use Rattle.nichols_echelon.specs.Sums.{sum_at}
use Rattle.nichols_echelon.proofs.CellsBehind.{behind_none}
use Rattle.nichols_echelon.proofs.sums.Sums.add_scaled.Goals as goal

pub add_behind-requires-clause-below : goal.add_behind-requires-clause-below
add_behind-requires-clause-below c = subst (AllBelow (length c.args.self.now)) (sym (behind_none c.args.cells.now)) c.requires.below

pub returns-clause-value : goal.returns-clause-value
returns-clause-value c place =
    c.add_behind.ensures.value place
    ∙ ap (λ (cs : List Cell). plus c.args.field (sum_at c.args.field c.args.self.now place) (times c.args.field c.args.by (entry c.args.field cs place))) (behind_none c.args.cells.now)
