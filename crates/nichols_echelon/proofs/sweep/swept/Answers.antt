use Rattle.std.proofs.Common.{◌≡◌, ◌<◌, List, Some, None, sym, ◌∙◌, ap, subst, arith, length, get_or}
use Rattle.std.proofs.lemmas.List.{get_or_default}
use Rattle.nichols_field.specs.Field.{IsElement, plus, times}
use Rattle.nichols_echelon.specs.Cells.{Cell, AllElements, AllBelow, entry}
use Rattle.nichols_echelon.specs.Combination.{row_at}
use Rattle.nichols_echelon.specs.Echelon.{kept_row, kept_rows, IsPivot}
use Rattle.nichols_echelon.specs.Sums.{IsTaken, sum_at}
use Rattle.nichols_echelon.specs.Sweep.{IsSwept}
use Rattle.nichols_echelon.proofs.Kept.{kept_at, pivot_read}
use Rattle.nichols_echelon.proofs.Taking.{zero_past}
use Rattle.nichols_echelon.proofs.Sweeping.{sweep_start, sweep_free, sweep_pivot}
use Rattle.nichols_echelon.proofs.sweep.swept.Goals as goal

pub loop-cell-init : goal.loop-cell-init
loop-cell-init c =
    rw c.new-steps.ensures.items
    (sweep_start c.args.field c.modulus-modulus.ensures.field (kept_rows c.args.rows.now c.args.echelon.now.left.rows) c.args.echelon.now.pivots.items (length c.args.echelon.now.left.rows) c.args.sums.now c.width-end.result
    (zero_past c.args.field c.modulus-modulus.ensures.field c.args.sums.now c.width-end.result (omega (arith, c.width-end.ensures))) (omega (arith, c.width-end.ensures)))

pub returns-in-None-clause-swept : goal.returns-in-None-clause-swept
returns-in-None-clause-swept c =
    subst (λ (d : Cell). IsSwept c.args.field (kept_rows c.args.rows.now c.args.echelon.now.left.rows) c.args.echelon.now.pivots.items (length c.args.echelon.now.left.rows) c.args.sums.now c.put.new.self (Some d) c.loop-cell.steps.items) c.cell.view_is
    (sweep_free c.args.field c.modulus-modulus.ensures.field (kept_rows c.args.rows.now c.args.echelon.now.left.rows) c.args.echelon.now.pivots.items (length c.args.echelon.now.left.rows) c.args.sums.now c.loop-cell.steps.items
    c.loop-cell.sums c.loop-cell.end c.loop-cell.invariant c.take_last.new.self (record { column = c.cell.inside.column; coefficient = c.cell.inside.coefficient })
    (subst (λ (d : Cell). IsTaken c.args.field c.loop-cell.sums c.take_last.new.self d) (sym c.cell.view_is) c.in-Some.ensures.cell) c.put.new.self
    (pivot_read c.args.echelon.now.pivots.items c.cell.inside.column c.index.result.now None (omega (arith, c.in-Some.ensures.cell.inside, ap (λ (d : Cell). d.column) c.cell.view_is, c.loop-cell.invariant.width, c.requires.width)) c.index.ensures c.in-None.is) c.put.ensures.here c.put.ensures.elsewhere (c.put.ensures.width ∙ c.take_last.ensures.width))

pub index-factor-requires : goal.index-factor-requires
index-factor-requires c = omega (arith, (c.requires.echelon.known c.cell.inside.column c.in-Some-index.position (pivot_read c.args.echelon.now.pivots.items c.cell.inside.column c.index.result.now (Some c.in-Some-index.position) (omega (arith, c.in-Some.ensures.cell.inside, ap (λ (d : Cell). d.column) c.cell.view_is, c.loop-cell.invariant.width, c.requires.width)) c.index.ensures c.in-Some-index.is)).0, c.requires.echelon.factors_count, c.args.echelon.now.factors.ok.0)

pub mul-by-requires-clause-right : goal.mul-by-requires-clause-right
mul-by-requires-clause-right c =
    let known : (c.in-Some-index.position < length c.args.echelon.now.left.rows) × IsPivot c.args.field (row_at (kept_rows c.args.rows.now c.args.echelon.now.left.rows) c.in-Some-index.position) (get_or c.args.echelon.now.factors.items c.in-Some-index.position 0) c.cell.inside.column =
    c.requires.echelon.known c.cell.inside.column c.in-Some-index.position (pivot_read c.args.echelon.now.pivots.items c.cell.inside.column c.index.result.now (Some c.in-Some-index.position) (omega (arith, c.in-Some.ensures.cell.inside, ap (λ (d : Cell). d.column) c.cell.view_is, c.loop-cell.invariant.width, c.requires.width)) c.index.ensures c.in-Some-index.is) in
    subst (IsElement c.args.field) (get_or_default c.args.echelon.now.factors.items c.in-Some-index.position 0 c.index-factor.result.now (omega (arith, known.0, c.requires.echelon.factors_count)) ∙ sym c.index-factor.ensures) known.1.element

pub add_kept-requires-clause-seen : goal.add_kept-requires-clause-seen
add_kept-requires-clause-seen c = (c.requires.echelon.known c.cell.inside.column c.in-Some-index.position (pivot_read c.args.echelon.now.pivots.items c.cell.inside.column c.index.result.now (Some c.in-Some-index.position) (omega (arith, c.in-Some.ensures.cell.inside, ap (λ (d : Cell). d.column) c.cell.view_is, c.loop-cell.invariant.width, c.requires.width)) c.index.ensures c.in-Some-index.is)).0

pub add_kept-requires-clause-inside : goal.add_kept-requires-clause-inside
add_kept-requires-clause-inside c = omega (arith, (c.requires.echelon.known c.cell.inside.column c.in-Some-index.position (pivot_read c.args.echelon.now.pivots.items c.cell.inside.column c.index.result.now (Some c.in-Some-index.position) (omega (arith, c.in-Some.ensures.cell.inside, ap (λ (d : Cell). d.column) c.cell.view_is, c.loop-cell.invariant.width, c.requires.width)) c.index.ensures c.in-Some-index.is)).0, c.requires.echelon.within)

pub add_kept-requires-clause-elements : goal.add_kept-requires-clause-elements
add_kept-requires-clause-elements c =
    subst (AllElements c.args.field) (kept_at c.args.rows.now c.args.echelon.now.left.rows c.in-Some-index.position)
    (c.requires.echelon.elements c.in-Some-index.position (c.requires.echelon.known c.cell.inside.column c.in-Some-index.position (pivot_read c.args.echelon.now.pivots.items c.cell.inside.column c.index.result.now (Some c.in-Some-index.position) (omega (arith, c.in-Some.ensures.cell.inside, ap (λ (d : Cell). d.column) c.cell.view_is, c.loop-cell.invariant.width, c.requires.width)) c.index.ensures c.in-Some-index.is)).0)

pub add_kept-requires-clause-below : goal.add_kept-requires-clause-below
add_kept-requires-clause-below c =
    subst (λ n. AllBelow n (kept_row (row_at c.args.rows.now c.in-Some-index.position) (row_at c.args.echelon.now.left.rows c.in-Some-index.position)))
    (let e : length c.args.echelon.now.pivots.items ≡ length c.put.new.self = omega (arith, c.requires.width, c.loop-cell.invariant.width, c.take_last.ensures.width, c.put.ensures.width) in e)
    (subst (AllBelow (length c.args.echelon.now.pivots.items)) (kept_at c.args.rows.now c.args.echelon.now.left.rows c.in-Some-index.position)
    (c.requires.echelon.below c.in-Some-index.position (c.requires.echelon.known c.cell.inside.column c.in-Some-index.position (pivot_read c.args.echelon.now.pivots.items c.cell.inside.column c.index.result.now (Some c.in-Some-index.position) (omega (arith, c.in-Some.ensures.cell.inside, ap (λ (d : Cell). d.column) c.cell.view_is, c.loop-cell.invariant.width, c.requires.width)) c.index.ensures c.in-Some-index.is)).0))

pub loop-cell-preserved : goal.loop-cell-preserved
loop-cell-preserved c =
    let known : (c.in-Some-index.position < length c.args.echelon.now.left.rows) × IsPivot c.args.field (row_at (kept_rows c.args.rows.now c.args.echelon.now.left.rows) c.in-Some-index.position) (get_or c.args.echelon.now.factors.items c.in-Some-index.position 0) c.cell.inside.column =
    c.requires.echelon.known c.cell.inside.column c.in-Some-index.position (pivot_read c.args.echelon.now.pivots.items c.cell.inside.column c.index.result.now (Some c.in-Some-index.position) (omega (arith, c.in-Some.ensures.cell.inside, ap (λ (d : Cell). d.column) c.cell.view_is, c.loop-cell.invariant.width, c.requires.width)) c.index.ensures c.in-Some-index.is) in
    let factor : c.index-factor.result.now ≡ get_or c.args.echelon.now.factors.items c.in-Some-index.position 0 =
    c.index-factor.ensures ∙ sym (get_or_default c.args.echelon.now.factors.items c.in-Some-index.position 0 c.index-factor.result.now (omega (arith, known.0, c.requires.echelon.factors_count))) in
    rw c.in_ok-push-in-Some-index.ensures.items
    (sweep_pivot c.args.field c.modulus-modulus.ensures.field (kept_rows c.args.rows.now c.args.echelon.now.left.rows) c.args.echelon.now.pivots.items (length c.args.echelon.now.left.rows) c.args.sums.now c.loop-cell.steps.items
    c.loop-cell.sums c.loop-cell.end c.loop-cell.invariant c.take_last.new.self (record { column = c.cell.inside.column; coefficient = c.cell.inside.coefficient })
    (subst (λ (d : Cell). IsTaken c.args.field c.loop-cell.sums c.take_last.new.self d) (sym c.cell.view_is) c.in-Some.ensures.cell)
    c.in-Some-index.position (get_or c.args.echelon.now.factors.items c.in-Some-index.position 0) (pivot_read c.args.echelon.now.pivots.items c.cell.inside.column c.index.result.now (Some c.in-Some-index.position) (omega (arith, c.in-Some.ensures.cell.inside, ap (λ (d : Cell). d.column) c.cell.view_is, c.loop-cell.invariant.width, c.requires.width)) c.index.ensures c.in-Some-index.is) known.0 known.1 (c.requires.echelon.elements c.in-Some-index.position known.0)
    c.put.new.self c.put.ensures.here c.put.ensures.elsewhere
    c.add_kept.new.sums c.mul-by.result (c.mul-by.ensures.product ∙ ap (λ n. times c.args.field c.cell.inside.coefficient n) factor)
    (λ x. c.add_kept.ensures.value x ∙ ap (λ (cs : List Cell). plus c.args.field (sum_at c.args.field c.put.new.self x) (times c.args.field c.mul-by.result (entry c.args.field cs x))) (sym (kept_at c.args.rows.now c.args.echelon.now.left.rows c.in-Some-index.position)))
    c.neg-coefficient.result c.neg-coefficient.ensures.negative (c.add_kept.ensures.width ∙ c.put.ensures.width ∙ c.take_last.ensures.width))
