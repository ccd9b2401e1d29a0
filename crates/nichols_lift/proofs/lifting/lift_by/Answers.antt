use Rattle.std.proofs.Common.{◌<◌, ◌∙◌, length, sym, ap, subst}
use Rattle.nichols_field.specs.Field.{IsElement, times}
use Rattle.nichols_field.proofs.FieldLaws.{one_is_element}
use Rattle.nichols_braid.specs.Crossing.{cross, cross_scalar}
use Rattle.nichols_lift.proofs.Leading.{following_start, place_within, following-cross, closed_lift}
use Rattle.nichols_lift.proofs.lifting.lift_by.Goals as goal

pub loop-place-init : goal.loop-place-init
loop-place-init c =
    following_start c.args.braid.now c.field-field.ensures.braid c.args.perm.now c.args.word.now c.args.list.now c.ends-ends.ensures.perm c.requires.length c.requires.letters (one_is_element c.args.braid.now.field c.field-field.ensures.braid.field) c.requires.list

pub cross_at-met-requires-clause-last : goal.cross_at-met-requires-clause-last
cross_at-met-requires-clause-last c =
    subst (λ i. i < length c.loop-place.crossed) (sym c.from.ensures) (place_within c.args.braid.now c.args.perm.now c.args.word.now c.args.list.now c.loop-place.crossed c.loop-place.scalar c.loop-place.place-index c.loop-place-test.true c.loop-place.invariant).1

pub loop-place-preserved : goal.loop-place-preserved
loop-place-preserved c =
    following-cross c.args.braid.now c.args.perm.now c.args.word.now c.args.list.now c.loop-place.crossed c.loop-place.scalar c.loop-place.place-index c.loop-place-test.true c.loop-place.invariant
    c.cross_at-met.new.word c.cross_at-met.result c.mul-scalar.result (c.cross_at-met.ensures.word ∙ ap (λ i. cross c.args.braid.now i c.loop-place.crossed) c.from.ensures) c.cross_at-met.ensures.length c.cross_at-met.ensures.letters
    (c.cross_at-met.ensures.scalar ∙ ap (λ i. cross_scalar c.args.braid.now i c.loop-place.crossed) c.from.ensures) (c.mul-scalar.ensures.product ∙ ap (λ k. times k c.loop-place.scalar c.cross_at-met.result) c.field-field.ensures.field)
    (subst (λ k. IsElement k c.mul-scalar.result) c.field-field.ensures.field c.mul-scalar.ensures.element)

pub returns-clause-closed : goal.returns-clause-closed
returns-clause-closed c = closed_lift c.args.braid.now c.field-field.ensures.braid c.args.perm.now c.args.word.now c.ends-ends.ensures.perm c.requires.length c.requires.letters
