use Rattle.std.proofs.Common.{◌∷◌, ◌++◌, [], List, ℕ, sym, ◌∙◌, ap, arith, append_assoc, take}
use Rattle.nichols_echelon.specs.Cells.{Cell, columns_of}
use Rattle.nichols_echelon.proofs.Numbers.{columns_of_more}
use Rattle.nichols_echelon.proofs.numbering.add_columns.Goals as goal

pub loop-cell-preserved : goal.loop-cell-preserved
loop-cell-preserved c =
    c.in_ok-push.ensures.items ∙ ap (λ (xs : List ℕ). xs ++ c.cell.inside.column ∷ []) c.loop-cell.invariant
    ∙ append_assoc c.args.columns.now.items (columns_of (take c.loop-cell.cell-index c.args.cells.now)) (c.cell.inside.column ∷ [])
    ∙ ap (λ (xs : List ℕ). c.args.columns.now.items ++ xs)
    (ap (λ (d : Cell). columns_of (take c.loop-cell.cell-index c.args.cells.now) ++ d.column ∷ []) c.cell.view_is ∙ sym (columns_of_more c.args.cells.now c.loop-cell.cell-index c.cell-item.result (omega arith) c.cell-item.is))
