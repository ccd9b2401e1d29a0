use Rattle.std.proofs.Common.{◌++◌, ◌∷◌, ◌∙◌, [], ap, List}
use Rattle.std.proofs.lemmas.Result.{on_ok_weaker}
use Rattle.nichols_echelon.specs.Cells.{Cell}
use Rattle.nichols_echelon.specs.Rows.{RowsValue}
use Rattle.nichols_echelon.proofs.Multiples.{multiple_one}
use Rattle.nichols_echelon.proofs.flat.Rows.push_multiple.Goals as goal

pub returns-then-by-eq1-clause-ok : goal.returns-then-by-eq1-clause-ok
returns-then-by-eq1-clause-ok c =
    on_ok_weaker c.push_row.result
    (λ pushed. pushed ∙ ap (λ (row : List Cell). (let after : RowsValue = record { rows = c.args.self.now.rows ++ row ∷ []; begun = [] } in after)) (multiple_one c.args.field c.args.by c.args.cells.now c.if-by-eq1.true c.requires.elements))
    c.push_row.ensures.ok
