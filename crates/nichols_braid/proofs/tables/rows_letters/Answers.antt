use Rattle.std.proofs.Common.{◌≡◌, ◌+◌, ◌<◌, ◌∙◌, List, ap, map, length, get_or, arith}
use Rattle.std.specs.Prelude.{ℤ}
use Rattle.std.proofs.lemmas.List.{length-map}
use Rattle.std.proofs.lemmas.Result.{err_from_is_err_and}
use Rattle.nichols_braid.specs.GivenTables.{row_at, letter_of}
use Rattle.nichols_braid.proofs.TableSteps.{fault_handed_on, row_is, row_has_letters, rows_step, row_wrong, row_right, all_right}
use Rattle.nichols_braid.proofs.tables.rows_letters.Goals as goal

pub push_letters-requires : goal.push_letters-requires
push_letters-requires c =
    let less : c.loop-i.i < length c.args.rows.now = omega arith in
    row_has_letters c.args.letters (map (λ row. row.items) c.args.rows.now) c.as_slice.result.now c.loop-i.i (omega arith) c.requires.lengths
    (row_is c.args.rows.now (λ row. row.items) c.index-rows-from.result c.as_slice.result.now c.loop-i.i less (c.index-rows-from.is ∙ ap (λ k. get_or c.args.rows.now k c.index-rows-from.result) c.from.ensures) c.as_slice.ensures.value)

pub returns-in_err-push_letters-clause-fault : goal.returns-in_err-push_letters-clause-fault
returns-in_err-push_letters-clause-fault c =
    let less : c.loop-i.i < length c.args.rows.now = omega arith in
    let rows : List (List ℤ) = map (λ row. row.items) c.args.rows.now in
    let row : row_at rows (c.loop-i.i + 1) ≡ c.as_slice.result.now =
    row_is c.args.rows.now (λ row. row.items) c.index-rows-from.result c.as_slice.result.now c.loop-i.i less (c.index-rows-from.is ∙ ap (λ k. get_or c.args.rows.now k c.index-rows-from.result) c.from.ensures) c.as_slice.ensures.value in
    let p = err_from_is_err_and c.from_residual-in_err-push_letters.result c.from_residual-in_err-push_letters.ensures.1 in
    rw (p.1, p.2) (fault_handed_on c.in_err-push_letters.field-0.0 _ _ (λ fault wrong. row_wrong c.args.letters rows c.as_slice.result.now c.loop-i.i fault (length-map c.args.rows.now _ ∙ c.requires.count) (omega arith) row c.loop-i.invariant.faultless wrong) c.in_err-push_letters.ensures.fault)

pub loop-i-preserved : goal.loop-i-preserved
loop-i-preserved c =
    let less : c.loop-i.i < length c.args.rows.now = omega arith in
    let rows : List (List ℤ) = map (λ row. row.items) c.args.rows.now in
    let same : c.index-rows-from.result ≡ get_or c.args.rows.now c.loop-i.i c.index-rows-from.result = c.index-rows-from.is ∙ ap (λ k. get_or c.args.rows.now k c.index-rows-from.result) c.from.ensures in
    let row : row_at rows (c.loop-i.i + 1) ≡ c.as_slice.result.now = row_is c.args.rows.now (λ row. row.items) c.index-rows-from.result c.as_slice.result.now c.loop-i.i less same c.as_slice.ensures.value in
    record {
      faultless = row_right c.args.letters rows c.as_slice.result.now c.loop-i.i row c.loop-i.invariant.faultless c.in_ok-push_letters.ensures.fault;
      letters = rows_step letter_of c.args.rows.now (λ row. row.items) c.index-rows-from.result c.as_slice.result.now c.loop-i.i c.loop-i.out.items c.push_letters.new.out.items less same c.as_slice.ensures.value c.loop-i.invariant.letters c.in_ok-push_letters.ensures.value;
    }

pub returns-clause-fault : goal.returns-clause-fault
returns-clause-fault c = all_right c.args.letters (map (λ row. row.items) c.args.rows.now) c.loop-i.i (length-map c.args.rows.now _ ∙ c.requires.count) (omega arith) c.loop-i.invariant.faultless
