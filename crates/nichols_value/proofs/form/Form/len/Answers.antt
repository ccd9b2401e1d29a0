use Rattle.nichols_rows.proofs.Rows.{combination_is_ordered}
use Rattle.nichols_value.proofs.form.Form.len.Goals as goal

pub returns-clause-shape : goal.returns-clause-shape
returns-clause-shape c = rw (← c.self.view_is) (combination_is_ordered c.self.inside.words.now c.self.invariant.rising c.self.inside.cells.now c.self.invariant.row c.self.invariant.below)
