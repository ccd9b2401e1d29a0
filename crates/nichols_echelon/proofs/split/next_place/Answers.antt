use Rattle.std.proofs.Common.{◌++◌, ◌∷◌, [], List, ℕ, Option, Some, sym, ◌∙◌, ap, subst, length, set, refl}
use Rattle.nichols_field.proofs.FieldLaws.{one_is_element}
use Rattle.nichols_field.specs.Field.{times}
use Rattle.nichols_echelon.specs.Cells.{Cell}
use Rattle.nichols_echelon.specs.Combination.{row_at}
use Rattle.nichols_echelon.specs.Echelon.{kept_rows, pivot_at}
use Rattle.nichols_echelon.specs.Rows.{RowsValue}
use Rattle.nichols_echelon.specs.Sweep.{IsSwept, IsTraced}
use Rattle.nichols_echelon.proofs.Settling.{kept_whole, kept_left, spent, closed_empty}
use Rattle.nichols_echelon.proofs.split.next_place.Goals as goal

pub add-requires-clause-factor : goal.add-requires-clause-factor
add-requires-clause-factor c = one_is_element c.args.field c.modulus-modulus.ensures.field

pub returns-in-Some-clause-settled : goal.returns-in-Some-clause-settled
returns-in-Some-clause-settled c =
    kept_whole c.args.field c.modulus-modulus.ensures.field c.args.rows.now c.args.echelon.now c.claim.new.self c.requires.echelon (row_at c.args.rows.now c.args.position) (ap (row_at c.args.rows.now) (sym c.requires.next))
    c.requires.shape c.requires.elements c.requires.below c.in-Some.ensures.0.0 c.in-Some.last c.minus_inverse.result c.in-Some.ensures.0.1
    (ap (λ (ps : List (Option ℕ)). pivot_at ps c.in-Some.last.column) (sym c.as_slice.ensures.value) ∙ c.in-Some.ensures.1) c.minus_inverse.ensures.element
    (ap (λ (d : Cell). times c.args.field d.coefficient c.minus_inverse.result) (sym c.last.view_is) ∙ c.minus_inverse.ensures.inverse)
    (c.in_ok-claim.ensures.rows.0 ∙ closed_empty c.args.echelon.now.left c.close.new.self c.requires.begun.0 c.in_ok-close.ensures.ok)
    (c.in_ok-claim.ensures.rows.1 ∙ closed_empty c.args.echelon.now.steps c.close-in-Some.new.self c.requires.begun.1 c.in_ok-close-2.ensures.ok)
    c.in_ok-claim.ensures.factors (c.in_ok-claim.ensures.pivots ∙ ap (λ (d : Cell). set c.args.echelon.now.pivots.items d.column (Some (length c.args.echelon.now.factors.items))) c.last.view_is)

pub returns-in-Some-last-clause-settled : goal.returns-in-Some-last-clause-settled
returns-in-Some-last-clause-settled c =
    kept_left c.args.field c.modulus-modulus.ensures.field c.args.rows.now c.args.echelon.now c.claim-in-Some-last.new.self c.requires.echelon (row_at c.args.rows.now c.args.position) (ap (row_at c.args.rows.now) (sym c.requires.next))
    c.args.sums.now c.add.new.sums c.swept.new.sums c.requires.zero.0 c.add.ensures.value c.in_ok-last.field-0.steps.items c.in-Some-last.last c.minus_inverse-in-Some-last.result
    c.in_ok-drain_into-in-Some-last.ensures.row.cells (subst (λ (o : Option Cell). IsSwept c.args.field (kept_rows c.args.rows.now c.args.echelon.now.left.rows) c.args.echelon.now.pivots.items (length c.args.echelon.now.left.rows) c.add.new.sums c.swept.new.sums o c.in_ok-last.field-0.steps.items) c.in-Some-last.is c.in_ok-last.ensures.swept)
    (c.swept.ensures.width ∙ c.add.ensures.width ∙ c.requires.width.0)
    c.in_ok-drain_into-in-Some-last.ensures.row.sums.row c.in_ok-drain_into-in-Some-last.ensures.row.sums.elements c.in_ok-drain_into-in-Some-last.ensures.row.sums.below c.in_ok-drain_into-in-Some-last.ensures.row.sums.entries
    c.minus_inverse-in-Some-last.ensures.element (ap (λ (d : Cell). times c.args.field d.coefficient c.minus_inverse-in-Some-last.result) (sym c.last-in-Some-last.view_is) ∙ c.minus_inverse-in-Some-last.ensures.inverse)
    (c.in_ok-claim-in-Some-last.ensures.rows.0 ∙ c.in_ok-drain_into-in-Some-last.ensures.row.closed)
    (c.in_ok-claim-in-Some-last.ensures.rows.1 ∙ c.in_ok-push_row-in-Some-last.ensures.ok
    ∙ ap (λ (cs : List Cell). (let v : RowsValue = record { rows = c.args.echelon.now.steps.rows ++ cs ∷ []; begun = [] } in v)) c.as_slice-in-Some-last.ensures.value)
    c.in_ok-claim-in-Some-last.ensures.factors
    (c.in_ok-claim-in-Some-last.ensures.pivots ∙ ap (λ (d : Cell). set c.args.echelon.now.pivots.items d.column (Some (length c.args.echelon.now.factors.items))) c.last-in-Some-last.view_is)

pub returns-clause-settled : goal.returns-clause-settled
returns-clause-settled c =
    spent c.args.field c.modulus-modulus.ensures.field c.args.rows.now c.args.echelon.now
    (record { left = c.close-in-None.new.self; steps = c.close-in-None-2.new.self; factors = c.push.new.self; pivots = c.args.echelon.now.pivots })
    c.requires.echelon (row_at c.args.rows.now c.args.position) (ap (row_at c.args.rows.now) (sym c.requires.next))
    c.args.sums.now c.add.new.sums c.swept.new.sums c.requires.zero.0 c.add.ensures.value c.in_ok-last.field-0.steps.items c.of.result
    (subst (λ (o : Option Cell). IsSwept c.args.field (kept_rows c.args.rows.now c.args.echelon.now.left.rows) c.args.echelon.now.pivots.items (length c.args.echelon.now.left.rows) c.add.new.sums c.swept.new.sums o c.in_ok-last.field-0.steps.items) c.in-None.is c.in_ok-last.ensures.swept)
    (subst (λ (cs : List Cell). IsTraced c.args.field c.args.echelon.now.pivots.items c.args.echelon.now.steps.rows c.in_ok-last.field-0.steps.items cs) (sym c.of.ensures)
    (subst (λ (ss : List Cell). IsTraced c.args.field c.args.echelon.now.pivots.items c.args.echelon.now.steps.rows ss c.in_ok-combination-in-None.combination.items) c.as_slice-in-None.ensures.value c.in_ok-combination-in-None.ensures.traced))
    (closed_empty c.args.echelon.now.left c.close-in-None.new.self c.requires.begun.0 c.in_ok-close-in-None.ensures.ok)
    (closed_empty c.args.echelon.now.steps c.close-in-None-2.new.self c.requires.begun.1 c.in_ok-close-in-None-2.ensures.ok) c.in_ok-push-in-None.ensures.items refl
