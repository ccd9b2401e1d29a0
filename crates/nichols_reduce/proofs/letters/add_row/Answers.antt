use Rattle.std.proofs.Common.{◌<◌, [], length, slice_index_or, arith}
use Rattle.nichols_echelon.specs.Cells.{Cell}
use Rattle.nichols_value.specs.Rule.{right_in}
use Rattle.nichols_reduce.proofs.RowForms.{cell_at, cell_element, grown_by_cell}
use Rattle.nichols_reduce.proofs.letters.add_row.Goals as goal

pub add_product_to-requires-clause-right : goal.add_product_to-requires-clause-right
add_product_to-requires-clause-right c =
    let cell : Cell = record { column = c.cell.inside.column; coefficient = c.cell.inside.coefficient } in
    let inside : c.loop-cell.cell-index < length c.right_row-cell-items.result.now = omega arith in
    cell_element c.args.field c.args.rule.now.basis (slice_index_or (right_in c.args.rule.now c.args.b) c.args.k []) c.right_row-cell-items.result.now c.loop-cell.cell-index cell c.requires.elements c.right_row-cell-items.ensures inside
    (cell_at c.right_row-cell-items.result.now c.loop-cell.cell-index cell c.cell-item.result c.cell.view_is c.cell-item.is)

pub loop-cell-preserved : goal.loop-cell-preserved
loop-cell-preserved c =
    let cell : Cell = record { column = c.cell.inside.column; coefficient = c.cell.inside.coefficient } in
    let inside : c.loop-cell.cell-index < length c.right_row-cell-items.result.now = omega arith in
    grown_by_cell c.args.field c.modulus-modulus.ensures.field c.args.rule.now.basis c.args.sums.now c.loop-cell.sums c.args.by (slice_index_or (right_in c.args.rule.now c.args.b) c.args.k []) c.right_row-cell-items.result.now c.loop-cell.cell-index cell c.add_product_to.result
    c.right_row-cell-items.ensures inside (cell_at c.right_row-cell-items.result.now c.loop-cell.cell-index cell c.cell-item.result c.cell.view_is c.cell-item.is) c.loop-cell.invariant.width c.add_product_to.ensures c.loop-cell.invariant
