use Rattle.std.proofs.Common.{◌≡◌, ◌∙◌, ◌-◌, ◌++◌, ◌∷◌, [], ap, arith, false, nat_lt, true}
use Rattle.std.specs.Prelude.{slice_index}
use Rattle.std.proofs.lemmas.Bool.Decides.{nat_tests}
use Rattle.nichols_echelon.specs.Cells.{Cell}
use Rattle.nichols_echelon.specs.Rows.{RowsValue}
use Rattle.nichols_cover.proofs.Forms.{behind_more, behind_skipped}
use Rattle.nichols_cover.proofs.level.put_behind.Goals.{then-column-others+in_ok-push_cell, else-column-others}
use Rattle.nichols_cover.proofs.level.put_behind.Goals as goal

pub loop-cell-preserved : goal.loop-cell-preserved
loop-cell-preserved c =
    let column = ap (λ (d : Cell). d.column) c.cell.view_is in
    elim c.if-column-others.branch [
      | then-column-others+in_ok-push_cell w ↦
          let high : nat_lt c.cell-item.result.column c.args.others ≡ false = grind (arith, nat_tests, w.if-column-others.true, column) in
          record {
            begun = ap (λ (v : RowsValue). v.begun) w.forms-is ∙ w.in_ok-push_cell.ensures.ok
                ∙ ap (λ (d : Cell). c.loop-cell.forms.begun ++ record { column = slice_index c.args.numbers.now (d.column - c.args.others); coefficient = d.coefficient } ∷ []) c.cell.view_is
                ∙ behind_more c.args.others c.args.numbers.now c.args.cells.now c.loop-cell.cell-index c.cell-item.result c.loop-cell.forms.begun (omega arith) c.cell-item.is high c.loop-cell.invariant.begun;
            rows = ap (λ (v : RowsValue). v.rows) w.forms-is ∙ w.in_ok-push_cell.ensures.rows ∙ c.loop-cell.invariant.rows;
          }
      | else-column-others w ↦
          let low : nat_lt c.cell-item.result.column c.args.others ≡ true = grind (arith, nat_tests, w.if-column-others.false, column) in
          record {
            begun = ap (λ (v : RowsValue). v.begun) w.forms-is
                ∙ behind_skipped c.args.others c.args.numbers.now c.args.cells.now c.loop-cell.cell-index c.cell-item.result c.loop-cell.forms.begun (omega arith) c.cell-item.is low c.loop-cell.invariant.begun;
            rows = ap (λ (v : RowsValue). v.rows) w.forms-is ∙ c.loop-cell.invariant.rows;
          }
    ]
