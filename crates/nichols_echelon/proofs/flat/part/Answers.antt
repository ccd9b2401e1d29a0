use Rattle.std.proofs.Common.{ap₂, sym, ◌∙◌, ℕ}
use Rattle.nichols_echelon.specs.Rows.{cells_between}
use Rattle.nichols_echelon.proofs.RowLists.{row_at}
use Rattle.nichols_echelon.proofs.flat.part.Goals as goal

pub returns : goal.returns
returns c =
    ap₂ (λ (a b : ℕ). cells_between a b c.args.cells.now) c.ends_of-start.ensures.start c.ends_of-start.ensures.end
    ∙ sym (row_at 0 c.args.ends.now c.args.cells.now c.args.k c.requires.place)
