use Rattle.std.proofs.Common.{◌≡◌, ◌++◌, ◌∷◌, ◌∙◌, [], ap, arith, subst, sym}
use Rattle.std.proofs.lemmas.List.{nil_from_length}
use Rattle.nichols_echelon.specs.Cells.{Cell}
use Rattle.nichols_echelon.specs.Parts.{joined_row}
use Rattle.nichols_echelon.proofs.JoinedRows.{joined_first, last_here, none_here}
use Rattle.nichols_echelon.proofs.parts.last_of.Goals as goal

pub returns-in-Some : goal.returns-in-Some
returns-in-Some c =
    last_here c.args.lists.now c.args.offsets.now c.args.k c.loop-left.left c.index-lists-a.result c.row.result.now c.in-Some.field-0-1.now (record { column = c.last.inside.column; coefficient = c.last.inside.coefficient })
    (omega (arith, c.loop-left-test.true)) c.loop-left.invariant.inside c.loop-left.invariant.same c.index-lists-a.is c.row.ensures
    (subst (λ (d : Cell). c.row.result.now ≡ c.in-Some.field-0-1.now ++ d ∷ []) (sym c.last.view_is) c.in-Some.ensures.cases.0)

pub loop-left-preserved : goal.loop-left-preserved
loop-left-preserved c = record {
  inside = omega (arith, c.loop-left.invariant.inside);
  same =
      none_here c.args.lists.now c.args.offsets.now c.args.k c.loop-left.left c.index-lists-a.result c.row.result.now (omega (arith, c.loop-left-test.true)) c.loop-left.invariant.inside c.loop-left.invariant.same
      c.index-lists-a.is c.row.ensures (nil_from_length c.row.result.now c.in_default.ensures.cases);
}

pub returns : goal.returns
returns c =
    let none : c.loop-left.left ≡ 0 = omega (arith, c.loop-left-test.false) in
    c.loop-left.invariant.same ∙ ap (joined_row c.args.lists.now c.args.offsets.now c.args.k) none ∙ joined_first c.args.lists.now c.args.offsets.now c.args.k
