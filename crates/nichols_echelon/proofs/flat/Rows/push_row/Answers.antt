use Rattle.std.proofs.Common.{◌≡◌, ◌≤◌, ap, ◌∙◌, ◌-◌, ℕ, List, length, take, arith, length-append, sym, subst}
use Rattle.nichols_echelon.specs.Cells.{Cell}
use Rattle.nichols_echelon.specs.Rows.{IsStepped, rows_of}
use Rattle.nichols_echelon.proofs.RowLists.{stepped_more, closed_row, cut_row}
use Rattle.nichols_echelon.proofs.flat.Rows.push_row.Goals as goal

pub invariant_of-self-2 : goal.invariant_of-self-2
invariant_of-self-2 c =
    stepped_more 0 c.self.inside.ends.items (length c.self.inside.cells.items) (length c.extend_from_slice.new.self.items)
    (omega (arith, ap length c.in_ok-extend_from_slice.ensures.items, length-append c.self.inside.cells.items c.args.cells.now)) c.self.invariant

pub overflow_sub-kept : goal.overflow_sub-kept
overflow_sub-kept c =
    let r : length c.args.cells.now ≤ length c.self-2.inside.cells.items =
    (cut_row c.self.inside.ends.items c.self.inside.cells.items c.args.cells.now c.extend_from_slice.new.self.items c.args.self.now c.self-2.inside.ends.items c.self-2.inside.cells.items
    c.self.invariant c.in_ok-extend_from_slice.ensures.items c.self.view_is c.requires c.self-2.invariant (c.self-2.view_is ∙ c.in-Err.ensures.err)).0 in
    omega (arith, r, c.len.ensures)

-- what is left of the cells is what stood before
kept : (c : goal.After-truncate) → (IsStepped 0 c.self-2.inside.ends.items (length c.truncate.new.self.items)) × (rows_of c.self-2.inside.ends.items c.truncate.new.self.items ≡ c.args.self.now)
kept c =
    let all : c.len.result ≡ length c.self-2.inside.cells.items = omega (c.len.ensures, arith) in
    subst (λ (cells : List Cell). (IsStepped 0 c.self-2.inside.ends.items (length cells)) × (rows_of c.self-2.inside.ends.items cells ≡ c.args.self.now))
    (sym (c.truncate.ensures.items ∙ ap (λ (n : ℕ). take (n - length c.args.cells.now) c.self-2.inside.cells.items) all))
    (cut_row c.self.inside.ends.items c.self.inside.cells.items c.args.cells.now c.extend_from_slice.new.self.items c.args.self.now c.self-2.inside.ends.items c.self-2.inside.cells.items
    c.self.invariant c.in_ok-extend_from_slice.ensures.items c.self.view_is c.requires c.self-2.invariant (c.self-2.view_is ∙ c.in-Err.ensures.err)).1

pub invariant_of-self-in-Err : goal.invariant_of-self-in-Err
invariant_of-self-in-Err c = (kept c).0

pub returns-in-Err-clause-err : goal.returns-in-Err-clause-err
returns-in-Err-clause-err c = (kept c).1

pub returns-clause-ok : goal.returns-clause-ok
returns-clause-ok c =
    c.in_default.ensures.ok
    ∙ closed_row c.self.inside.ends.items c.self.inside.cells.items c.args.cells.now c.extend_from_slice.new.self.items c.args.self.now c.self.invariant c.in_ok-extend_from_slice.ensures.items c.self.view_is c.requires
