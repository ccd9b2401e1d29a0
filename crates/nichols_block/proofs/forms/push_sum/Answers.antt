use Rattle.std.proofs.Common.{◌≡◌, ◌∙◌, ◌∷◌, [], List, ap₂, length, sym}
use Rattle.std.proofs.lemmas.Bool.{eqb-true}
use Rattle.std.proofs.lemmas.List.{nil_from_length}
use Rattle.std.proofs.lemmas.Result.{on_ok_weaker}
use Rattle.nichols_echelon.specs.Cells.{Cell}
use Rattle.nichols_block.proofs.SumForms.{pushed_none, pushed_one}
use Rattle.nichols_block.proofs.forms.push_sum.Goals as goal

pub returns-in_default-clause-pushed : goal.returns-in_default-clause-pushed
returns-in_default-clause-pushed c =
    on_ok_weaker c.close.result (λ closed. pushed_none c.args.field c.args.from.now.rows c.args.cells.now c.args.into.now c.close.new.self (nil_from_length _ c.in_default.ensures.cases) c.requires.begun closed) c.close.ensures.ok

pub returns-then-is_empty-clause-pushed : goal.returns-then-is_empty-clause-pushed
returns-then-is_empty-clause-pushed c =
    let here : Cell = record { column = c.cell.inside.column; coefficient = c.cell.inside.coefficient } in
    let none : c.in-Some.rest.now ≡ [] = nil_from_length _ (eqb-true (length c.in-Some.rest.now) 0 (sym c.is_empty.ensures ∙ c.if-is_empty.true)) in
    let one : c.args.cells.now ≡ here ∷ [] = c.in-Some.ensures.cases.0 ∙ ap₂ (λ (x : Cell) (xs : List Cell). x ∷ xs) (sym c.cell.view_is) none in
    on_ok_weaker c.push_multiple.result
    (λ closed.
    pushed_one c.args.field c.modulus-modulus.ensures.field c.args.from.now.rows c.args.cells.now here c.row.result.now c.args.into.now c.push_multiple.new.self one c.requires.factors c.requires.nonzero c.requires.places c.requires.rows c.requires.elements
    c.row.ensures closed)
    c.push_multiple.ensures.ok
