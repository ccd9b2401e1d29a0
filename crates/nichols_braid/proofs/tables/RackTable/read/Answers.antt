use Rattle.std.proofs.Common.{◌≡◌, ◌<◌, ◌∙◌, List, sym, map, length, arith}
use Rattle.std.specs.Prelude.{ℤ}
use Rattle.std.proofs.lemmas.Bool.Decides.{nat_tests}
use Rattle.std.proofs.lemmas.List.{length-map}
use Rattle.std.proofs.lemmas.Result.{err_from_is_err_and}
use Rattle.nichols_braid.proofs.RowFaults.{no_rows, many_rows, wrong_shape, wrong_entry, right_rows, kept_table}
use Rattle.nichols_braid.proofs.TableSteps.{fault_handed_on}
use Rattle.nichols_braid.proofs.tables.RackTable.read.Goals as goal

pub returns-then-is_empty-clause-fault : goal.returns-then-is_empty-clause-fault
returns-then-is_empty-clause-fault c =
    let none : length c.args.rows.now ≡ 0 = grind (arith, nat_tests, c.is_empty.ensures, c.if-is_empty.true) in
    no_rows (map (λ row. row.items) c.args.rows.now) (length-map c.args.rows.now _ ∙ none)

pub returns-then-rows-from-clause-fault : goal.returns-then-rows-from-clause-fault
returns-then-rows-from-clause-fault c = many_rows (map (λ row. row.items) c.args.rows.now) (length c.args.rows.now) (sym (length-map c.args.rows.now _)) (omega arith)

pub returns-in-Some-clause-fault : goal.returns-in-Some-clause-fault
returns-in-Some-clause-fault c =
    let some : 0 < length c.args.rows.now = grind (arith, nat_tests, c.is_empty.ensures, c.if-is_empty.false) in
    wrong_shape (map (λ row. row.items) c.args.rows.now) (length c.args.rows.now) c.in-Some.row (sym (length-map c.args.rows.now _)) (omega arith) (omega arith) c.in-Some.ensures

pub returns-in_err-entries-clause-fault : goal.returns-in_err-entries-clause-fault
returns-in_err-entries-clause-fault c =
    let some : 0 < length c.args.rows.now = grind (arith, nat_tests, c.is_empty.ensures, c.if-is_empty.false) in
    let rows : List (List ℤ) = map (λ row. row.items) c.args.rows.now in
    let p = err_from_is_err_and c.from_residual.result c.from_residual.ensures.1 in
    rw (p.1, p.2) (fault_handed_on c.in_err-entries.field-0.0 _ _ (λ fault wrong. wrong_entry rows (length c.args.rows.now) fault (sym (length-map c.args.rows.now _)) (omega arith) (omega arith) (sym c.in_default.is ∙ c.wrong_row.ensures) wrong) c.in_err-entries.ensures.fault)

pub invariant_of-result : goal.invariant_of-result
invariant_of-result c =
    let some : 0 < length c.args.rows.now = grind (arith, nat_tests, c.is_empty.ensures, c.if-is_empty.false) in
    let rows : List (List ℤ) = map (λ row. row.items) c.args.rows.now in
    kept_table rows (length c.args.rows.now) c.in_ok-entries.entries.items (sym (length-map c.args.rows.now _)) c.in_ok-entries.ensures.value
    (right_rows rows (length c.args.rows.now) (sym (length-map c.args.rows.now _)) (omega arith) (omega arith) (sym c.in_default.is ∙ c.wrong_row.ensures) c.in_ok-entries.ensures.fault)

pub returns-clause-fault : goal.returns-clause-fault
returns-clause-fault c =
    let some : 0 < length c.args.rows.now = grind (arith, nat_tests, c.is_empty.ensures, c.if-is_empty.false) in
    right_rows (map (λ row. row.items) c.args.rows.now) (length c.args.rows.now) (sym (length-map c.args.rows.now _)) (omega arith) (omega arith) (sym c.in_default.is ∙ c.wrong_row.ensures) c.in_ok-entries.ensures.fault
