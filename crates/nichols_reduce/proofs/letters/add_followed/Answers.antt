use Rattle.std.proofs.Common.{◌<◌, ◌≤◌, ◌∙◌, [], ap, sym, subst, length, slice_index_or, arith}
use Rattle.nichols_field.specs.Field.{element_of_sum}
use Rattle.nichols_tensor.specs.Combination.{scalar_multiple}
use Rattle.nichols_value.specs.Rule.{below_in, right_in}
use Rattle.nichols_reduce.specs.Forms.{followed_by_letter}
use Rattle.nichols_reduce.specs.Sums.{HasGrownBy}
use Rattle.nichols_reduce.proofs.GrowingSums.{taken_whole}
use Rattle.nichols_reduce.proofs.RowForms.{followed_row, grown_by_zero, row_elements, row_there}
use Rattle.nichols_reduce.proofs.letters.add_followed.Goals as goal
use Rattle.nichols_reduce.proofs.letters.add_followed.Goals.{then-by-ne0, else-by-ne0}

pub add_row-requires-clause-place : goal.add_row-requires-clause-place
add_row-requires-clause-place c =
    let inside : c.loop-k.k < length c.args.form.now = omega arith in
    row_there c.args.braid.now c.args.rule.now c.requires.rule c.args.b c.requires.letter c.args.form.now c.loop-k.k c.requires.form inside

pub add_row-requires-clause-elements : goal.add_row-requires-clause-elements
add_row-requires-clause-elements c =
    let inside : c.loop-k.k < length c.args.form.now = omega arith in
    row_elements c.args.braid.now c.field-field.ensures.braid c.field-field.result c.field-field.ensures.field c.args.rule.now c.requires.rule c.args.b c.requires.letter c.args.form.now c.loop-k.k c.requires.form inside

pub loop-k-preserved : goal.loop-k-preserved
loop-k-preserved c =
    let inside : c.loop-k.k < length c.args.form.now = omega arith in
    followed_row c.args.braid.now c.field-field.ensures.braid c.args.rule.now c.requires.rule c.args.b c.requires.letter c.args.form.now c.args.sums.now c.loop-k.sums c.if-by-ne0.sums c.loop-k.k c.settle-by.result c.requires.form inside
    (c.settle-by.ensures.value ∙ ap (λ f. element_of_sum f (slice_index_or c.args.form.now c.loop-k.k 0)) c.field-field.ensures.field) c.loop-k.invariant
    (elim c.if-by-ne0.branch [
      | then-by-ne0 w ↦
          subst (HasGrownBy c.args.braid.now.field c.args.rule.now.basis c.loop-k.sums (scalar_multiple c.args.braid.now.field c.settle-by.result (slice_index_or (right_in c.args.rule.now c.args.b) c.loop-k.k []))) (sym w.sums-is)
          (subst (λ f. HasGrownBy f c.args.rule.now.basis c.loop-k.sums (scalar_multiple f c.settle-by.result (slice_index_or (right_in c.args.rule.now c.args.b) c.loop-k.k [])) w.add_row.new.sums) c.field-field.ensures.field w.add_row.ensures)
      | else-by-ne0 w ↦
          grown_by_zero c.args.braid.now.field c.field-field.ensures.braid.field c.args.rule.now.basis c.loop-k.sums c.if-by-ne0.sums c.settle-by.result (slice_index_or (right_in c.args.rule.now c.args.b) c.loop-k.k []) c.loop-k.invariant.width w.if-by-ne0.false w.sums-is
    ])

pub returns : goal.returns
returns c =
    let past : length c.args.form.now ≤ c.loop-k.k = omega arith in
    let width : length (below_in c.args.rule.now c.args.b) ≤ c.loop-k.k = omega (arith, past, c.requires.form) in
    subst (λ f. HasGrownBy c.args.braid.now.field c.args.rule.now.basis c.args.sums.now (followed_by_letter c.args.braid.now c.args.rule.now.key.degree f c.args.b) c.loop-k.sums)
    (taken_whole c.args.braid.now.field (below_in c.args.rule.now c.args.b) c.args.form.now c.loop-k.k c.requires.form width) c.loop-k.invariant
