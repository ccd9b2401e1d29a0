use Rattle.std.proofs.Common.{◌≡◌, ◌++◌, ◌∷◌, [], sym, subst}
use Rattle.nichols_echelon.specs.Cells.{Cell}
use Rattle.nichols_echelon.proofs.Shapes.{below_end}
use Rattle.nichols_echelon.proofs.end_of.Goals as goal

pub returns-in-Some-clause-below : goal.returns-in-Some-clause-below
returns-in-Some-clause-below c =
    below_end c.args.cells.now c.in-Some.field-0-1.now (record { column = c.last.inside.column; coefficient = c.last.inside.coefficient })
    (subst (λ (d : Cell). c.args.cells.now ≡ c.in-Some.field-0-1.now ++ d ∷ []) (sym c.last.view_is) c.in-Some.ensures.cases.0) c.requires
