use Rattle.std.proofs.Common.{◌<◌, ◌∷◌, List, sym, ◌∙◌, ap, subst, arith, length, reverse, refl}
use Rattle.nichols_field.proofs.FieldLaws.{one_is_element}
use Rattle.nichols_echelon.specs.Cells.{Cell, AllBelow}
use Rattle.nichols_echelon.specs.Sums.{IsTaken}
use Rattle.nichols_echelon.specs.Sweep.{IsTraced}
use Rattle.nichols_echelon.proofs.Retracing.{Retracing, reverse-push, retrace_start, retrace_more, retraced_all, before_end, zero_same}
use Rattle.nichols_echelon.proofs.retrace.retraced.Goals as goal
use Rattle.nichols_tensor.proofs.Over.{all-weaker}

pub add_scaled-requires-clause-factor : goal.add_scaled-requires-clause-factor
add_scaled-requires-clause-factor c = one_is_element c.args.field c.modulus-modulus.ensures.field

pub add_scaled-requires-clause-below : goal.add_scaled-requires-clause-below
add_scaled-requires-clause-below c =
    all-weaker (λ (d : Cell). d.column < length c.args.echelon.now.steps.rows) (λ (d : Cell). d.column < length c.args.sums.now) (λ d b. omega (arith, b, c.requires.width)) c.args.steps.now c.requires.steps.below

pub loop-cell-init : goal.loop-cell-init
loop-cell-init c = record {
  back =
      rw (c.new-out.ensures.items, c.len-end.ensures)
      (retrace_start c.args.field c.modulus-modulus.ensures.field c.args.echelon.now.pivots.items c.args.echelon.now.steps.rows c.args.steps.now c.args.sums.now c.add_scaled.new.self c.requires.zero
      (omega (arith, c.requires.width, c.add_scaled.ensures.width)) c.requires.steps c.add_scaled.ensures.value);
  width = refl;
}

pub add_scaled-requires-in-Some-clause-below : goal.add_scaled-requires-in-Some-clause-below
add_scaled-requires-in-Some-clause-below c =
    let t : IsTaken c.args.field c.loop-cell.sums c.take_last.new.self (record { column = c.cell.inside.column; coefficient = c.cell.inside.coefficient }) =
    subst (λ (d : Cell). IsTaken c.args.field c.loop-cell.sums c.take_last.new.self d) (sym c.cell.view_is) c.in-Some.ensures.cell in
    let before : c.cell.inside.column < c.loop-cell.end =
    before_end c.args.field c.modulus-modulus.ensures.field c.args.echelon.now.pivots.items c.args.echelon.now.steps.rows c.args.steps.now c.loop-cell.sums c.loop-cell.end (reverse c.loop-cell.out.items) c.loop-cell.invariant.back
    c.take_last.new.self (record { column = c.cell.inside.column; coefficient = c.cell.inside.coefficient }) t in
    let inside : c.cell.inside.column < length c.args.echelon.now.steps.rows = omega (arith, before, c.loop-cell.invariant.back.inside) in
    all-weaker (λ (d : Cell). d.column < c.cell.inside.column) (λ (d : Cell). d.column < length c.take_last.new.self)
    (λ d b. omega (arith, b, inside, c.loop-cell.invariant.back.wide, c.take_last.ensures.width)) c.row.result.now
    (subst (AllBelow c.cell.inside.column) (sym c.row.ensures) (c.requires.all_steps c.cell.inside.column inside).below)

pub loop-cell-preserved : goal.loop-cell-preserved
loop-cell-preserved c = record {
  back =
      subst (λ (cs : List Cell). Retracing c.args.field c.args.echelon.now.pivots.items c.args.echelon.now.steps.rows c.args.steps.now c.add_scaled-in-Some.new.self c.cell.inside.column cs)
      (sym (ap reverse c.in_ok-push.ensures.items ∙ reverse-push c.loop-cell.out.items c.in-Some.cell ∙ ap (λ (d : Cell). d ∷ reverse c.loop-cell.out.items) (sym c.cell.view_is)))
      (retrace_more c.args.field c.modulus-modulus.ensures.field c.args.echelon.now.pivots.items c.args.echelon.now.steps.rows c.args.steps.now c.loop-cell.sums c.loop-cell.end (reverse c.loop-cell.out.items) c.loop-cell.invariant.back
      c.take_last.new.self (record { column = c.cell.inside.column; coefficient = c.cell.inside.coefficient })
      (subst (λ (d : Cell). IsTaken c.args.field c.loop-cell.sums c.take_last.new.self d) (sym c.cell.view_is) c.in-Some.ensures.cell) c.requires.all_steps c.add_scaled-in-Some.new.self
      (c.add_scaled-in-Some.ensures.width ∙ c.take_last.ensures.width)
      (rw (← c.neg-back.ensures.negative, ← c.row.ensures) c.add_scaled-in-Some.ensures.value));
  width = c.add_scaled-in-Some.ensures.width ∙ c.take_last.ensures.width ∙ c.loop-cell.invariant.width;
}

pub returns-clause-traced : goal.returns-clause-traced
returns-clause-traced c =
    subst (IsTraced c.args.field c.args.echelon.now.pivots.items c.args.echelon.now.steps.rows c.args.steps.now) (sym c.reverse.ensures.items)
    (retraced_all c.args.field c.modulus-modulus.ensures.field c.args.echelon.now.pivots.items c.args.echelon.now.steps.rows c.args.steps.now c.loop-cell.sums c.loop-cell.end (reverse c.loop-cell.out.items)
    (zero_same c.args.field c.loop-cell.sums c.take_last.new.self c.in_default.ensures.cell.0 c.in_default.ensures.cell.1) c.loop-cell.invariant.back)
