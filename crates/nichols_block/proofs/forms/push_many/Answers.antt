use Rattle.std.proofs.Common.{rules, refl, ◌∙◌}
use Rattle.nichols_block.proofs.SumForms.{summed_more, summed_start}
use Rattle.nichols_block.proofs.forms.push_many.Goals as goal

pub loop-cell-init : goal.loop-cell-init
loop-cell-init c = record { summed = summed_start c.args.field c.args.from.now.rows c.args.sums.now c.requires.zero; width = refl }

pub loop-cell-preserved : goal.loop-cell-preserved
loop-cell-preserved c = record {
  summed =
      summed_more c.args.field c.modulus-modulus.ensures.field c.args.from.now.rows c.args.cells.now c.row.result.now c.loop-cell.cell-index (record { column = c.cell.inside.column; coefficient = c.cell.inside.coefficient }) c.loop-cell.sums c.add_scaled.new.self c.loop-cell-test.true (c.cell.view_is ∙ search rules) c.row.ensures
      c.loop-cell.invariant.summed c.add_scaled.ensures.value;
  width = c.add_scaled.ensures.width ∙ c.loop-cell.invariant.width;
}
