use Rattle.std.proofs.Common.{ap, ◌∙◌, ◌++◌, ◌∷◌, [], length, drop, arith, length-append}
use Rattle.nichols_echelon.specs.Rows.{RowsValue, rows_from, end_from}
use Rattle.nichols_echelon.proofs.RowLists.{stepped_more, rows_of_longer, begun_of_longer}
use Rattle.nichols_echelon.proofs.flat.Rows.push_cell.Goals as goal

pub invariant_of-self-2 : goal.invariant_of-self-2
invariant_of-self-2 c =
    stepped_more 0 c.self.inside.ends.items (length c.self.inside.cells.items) (length c.push.new.self.items)
    (omega (arith, ap length c.in_ok-push.ensures.items, length-append c.self.inside.cells.items (c.args.cell ∷ []))) c.self.invariant

pub returns-clause-rows : goal.returns-clause-rows
returns-clause-rows c =
    ap (rows_from 0 c.self.inside.ends.items) c.in_ok-push.ensures.items
    ∙ rows_of_longer 0 c.self.inside.ends.items c.self.inside.cells.items (c.args.cell ∷ []) c.self.invariant
    ∙ ap (λ (v : RowsValue). v.rows) c.self.view_is

pub returns-clause-ok : goal.returns-clause-ok
returns-clause-ok c =
    ap (drop (end_from 0 c.self.inside.ends.items)) c.in_ok-push.ensures.items
    ∙ begun_of_longer 0 c.self.inside.ends.items c.self.inside.cells.items (c.args.cell ∷ []) c.self.invariant
    ∙ ap (λ (v : RowsValue). v.begun ++ c.args.cell ∷ []) c.self.view_is
