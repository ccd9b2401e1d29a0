use Rattle.std.proofs.Common.{◌≡◌, ◌∙◌, ◌+◌, ◌++◌, ◌∷◌, [], List, ap, append_assoc, arith, sym}
use Rattle.std.proofs.lemmas.List.FromFn.{map-range_with_len_more}
use Rattle.nichols_echelon.specs.Cells.{Cell}
use Rattle.nichols_echelon.specs.Rows.{RowsValue}
use Rattle.nichols_cover.specs.Units.{unit_row, unit_rows}
use Rattle.nichols_cover.proofs.degree.push_units.Goals as goal

pub loop-column-preserved : goal.loop-column-preserved
loop-column-preserved c =
    c.in_ok-push_row.ensures.ok
    ∙ ap (λ (rows : List (List Cell)). record { rows = rows; begun = [] })
    (ap (λ (v : RowsValue). v.rows ++ unit_row c.loop-column.column ∷ []) c.loop-column.invariant ∙ append_assoc c.args.rows.now.rows (unit_rows c.loop-column.column) (unit_row c.loop-column.column ∷ [])
    ∙ ap (λ (units : List (List Cell)). c.args.rows.now.rows ++ units) (sym (map-range_with_len_more unit_row 0 c.loop-column.column c.loop-column.column (let e : 0 + c.loop-column.column ≡ c.loop-column.column = omega arith in e))))
