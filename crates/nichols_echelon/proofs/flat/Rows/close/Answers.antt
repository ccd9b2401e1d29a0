use Rattle.std.proofs.Common.{ap, sym, ◌∙◌, ◌++◌, ◌∷◌, [], length, subst, ℕ, List}
use Rattle.nichols_echelon.specs.Rows.{RowsValue, IsStepped, rows_of}
use Rattle.nichols_echelon.proofs.RowLists.{stepped_push, closed}
use Rattle.nichols_echelon.proofs.flat.Rows.close.Goals as goal

pub invariant_of-self-2 : goal.invariant_of-self-2
invariant_of-self-2 c =
    subst (λ (ends : List ℕ). IsStepped 0 ends (length c.self.inside.cells.items)) (sym (c.in_ok-push.ensures.items ∙ ap (λ (n : ℕ). c.self.inside.ends.items ++ n ∷ []) (c.len-end.ensures ∙ c.self.inside.cells.ok.0)))
    (stepped_push 0 c.self.inside.ends.items (length c.self.inside.cells.items) c.self.invariant)

pub returns-clause-ok : goal.returns-clause-ok
returns-clause-ok c =
    ap (λ (ends : List ℕ). rows_of ends c.self.inside.cells.items) (c.in_ok-push.ensures.items ∙ ap (λ (n : ℕ). c.self.inside.ends.items ++ n ∷ []) (c.len-end.ensures ∙ c.self.inside.cells.ok.0))
    ∙ closed c.self.inside.ends.items c.self.inside.cells.items
    ∙ ap (λ (v : RowsValue). record { rows = v.rows ++ v.begun ∷ []; begun = [] }) c.self.view_is
