use Rattle.std.proofs.Common.{ap, sym, ◌∙◌, length}
use Rattle.nichols_echelon.specs.Rows.{RowsValue}
use Rattle.nichols_echelon.proofs.RowLists.{length-rows_from}
use Rattle.nichols_echelon.proofs.flat.Rows.len.Goals as goal

pub returns : goal.returns
returns c = c.len.ensures ∙ c.self.inside.ends.ok.0 ∙ sym (length-rows_from 0 c.self.inside.ends.items c.self.inside.cells.items) ∙ ap (λ (v : RowsValue). length v.rows) c.self.view_is
