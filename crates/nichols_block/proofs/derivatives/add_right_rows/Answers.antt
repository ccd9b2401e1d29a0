use Rattle.std.proofs.Common.{[], ◌≡◌, ◌<◌, ◌∙◌, arith, ap, get_or, length, refl, subst, sym}
use Rattle.std.proofs.lemmas.List.Elements.{All-from_recursion}
use Rattle.nichols_field.specs.Field.{plus, times}
use Rattle.nichols_tensor.specs.Combination.{AllElements}
use Rattle.nichols_echelon.specs.Cells.{Cell, entry}
use Rattle.nichols_echelon.specs.Sums.{sum_at}
use Rattle.nichols_value.specs.Rule.{right_in}
use Rattle.nichols_value.proofs.FormCells.{form_cells_elements}
use Rattle.nichols_block.proofs.RowSums.{no_sums, sums_more, below_wider, column_at}
use Rattle.nichols_block.proofs.derivatives.add_right_rows.Goals as goal

pub loop-cell-init : goal.loop-cell-init
loop-cell-init c = record { sums = no_sums c.args.field c.args.rule.now.basis c.args.sums.now (right_in c.args.rule.now c.args.c) c.args.by c.requires.zero; width = refl }

pub add_scaled-requires-clause-elements : goal.add_scaled-requires-clause-elements
add_scaled-requires-clause-elements c =
    let inside : c.loop-cell.cell-index < length c.args.cells.now = omega arith in
    let here : Cell = record { column = c.cell.inside.column; coefficient = c.cell.inside.coefficient } in
    form_cells_elements c.args.field c.args.rule.now.basis _ c.right_row-row.result.now
    (All-from_recursion (AllElements c.args.field) (right_in c.args.rule.now c.args.c) c.requires.forms c.cell.inside.column []
    (column_at _ c.args.cells.now c.loop-cell.cell-index here c.requires.columns inside (subst (λ (d : Cell). d ≡ get_or c.args.cells.now c.loop-cell.cell-index d) (sym c.cell.view_is) c.cell-item.is)))
    c.right_row-row.ensures

pub add_scaled-requires-clause-below : goal.add_scaled-requires-clause-below
add_scaled-requires-clause-below c = below_wider (length c.args.rule.now.basis) _ (omega arith) c.right_row-row.result.now c.right_row-row.ensures.below

pub loop-cell-preserved : goal.loop-cell-preserved
loop-cell-preserved c =
    let inside : c.loop-cell.cell-index < length c.args.cells.now = omega arith in
    let here : Cell = record { column = c.cell.inside.column; coefficient = c.cell.inside.coefficient } in
    record {
      sums = sums_more c.args.field c.modulus-modulus.ensures.field c.args.by (right_in c.args.rule.now c.args.c) c.args.cells.now c.loop-cell.cell-index here c.args.rule.now.basis c.loop-cell.sums c.add_scaled.new.self c.right_row-row.result.now
          c.requires.rising inside (subst (λ (d : Cell). d ≡ get_or c.args.cells.now c.loop-cell.cell-index d) (sym c.cell.view_is) c.cell-item.is) c.right_row-row.ensures c.loop-cell.invariant.sums
          (λ place. c.add_scaled.ensures.value place ∙ ap (λ n. plus c.args.field (sum_at c.args.field c.loop-cell.sums place) (times c.args.field n (entry c.args.field c.right_row-row.result.now place))) c.mul.ensures.product);
      width = c.add_scaled.ensures.width ∙ c.loop-cell.invariant.width;
    }
