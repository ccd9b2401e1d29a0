use Rattle.std.proofs.Common.{ap, length, arith}
use Rattle.nichols_echelon.specs.Rows.{RowsValue}
use Rattle.nichols_echelon.proofs.RowLists.{length-rows_from}
use Rattle.nichols_echelon.proofs.flat.Rows.row.Goals as goal

pub part-requires-clause-place : goal.part-requires-clause-place
part-requires-clause-place c =
    omega (arith, c.requires, ap length c.as_slice.ensures.value, length-rows_from 0 c.self.inside.ends.items c.self.inside.cells.items, ap (λ (v : RowsValue). length v.rows) c.self.view_is)
