use Rattle.std.proofs.Common.{◌≤◌, ◌^◌, ◌∙◌, ap, arith, length}
use Rattle.nichols_echelon.specs.Cells.{Cell}
use Rattle.nichols_echelon.proofs.Numbers.{few_columns, numbered_more}
use Rattle.nichols_echelon.proofs.numbering.push_numbered.Goals as goal

pub overflow_cast-column : goal.overflow_cast-column
overflow_cast-column c =
    let few : length c.args.columns.now ≤ 2 ^ 32 = few_columns c.args.columns.now c.requires.rising c.type_inv.columns in
    omega (arith, c.number_of-column.ensures.inside)

pub loop-cell-preserved : goal.loop-cell-preserved
loop-cell-preserved c = record {
  rows = c.push_cell.ensures.rows ∙ c.loop-cell.invariant.rows;
  numbered =
      numbered_more c.args.columns.now c.args.cells.now c.loop-cell.cell-index c.cell-item.result c.loop-cell.out.begun c.push_cell.new.self.begun _ (omega arith) c.cell-item.is c.in_ok-push_cell.ensures.ok c.loop-cell.invariant.numbered
      c.number_of-column.ensures.inside (c.number_of-column.ensures.number ∙ ap (λ (d : Cell). d.column) c.cell.view_is) (ap (λ (d : Cell). d.coefficient) c.cell.view_is);
}
