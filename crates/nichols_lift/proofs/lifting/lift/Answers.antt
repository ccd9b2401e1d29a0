use Rattle.std.proofs.Common.{◌<◌, ◌∙◌, sym, ap, subst}
use Rattle.nichols_field.specs.Field.{IsElement, times}
use Rattle.nichols_field.proofs.FieldLaws.{one_is_element}
use Rattle.nichols_tensor.specs.Combination.{Term}
use Rattle.nichols_lift.proofs.Bubble.{found_is_descent}
use Rattle.nichols_lift.proofs.Leading.{leading_start, descent_within, leading-cross, leading_end, closed_lift, none_left, fewer_left}
use Rattle.nichols_lift.proofs.lifting.lift.Goals as goal

pub loop-place-init : goal.loop-place-init
loop-place-init c =
    leading_start c.args.braid.now c.field-field.ensures.braid c.args.perm.now c.args.word.now c.ends-ends.ensures.perm c.requires.length c.requires.letters (one_is_element c.args.braid.now.field c.field-field.ensures.braid.field)

pub exchange-requires : goal.exchange-requires
exchange-requires c = found_is_descent c.loop-place.left c.in-Some.place (sym c.first_descent.ensures ∙ c.in-Some.is)

pub cross_at-requires-clause-first : goal.cross_at-requires-clause-first
cross_at-requires-clause-first c = (descent_within c.in-Some.place c.loop-place.left (found_is_descent c.loop-place.left c.in-Some.place (sym c.first_descent.ensures ∙ c.in-Some.is))).0

pub cross_at-requires-clause-last : goal.cross_at-requires-clause-last
cross_at-requires-clause-last c =
    subst (λ n. c.in-Some.place < n) (sym c.loop-place.invariant.size) (descent_within c.in-Some.place c.loop-place.left (found_is_descent c.loop-place.left c.in-Some.place (sym c.first_descent.ensures ∙ c.in-Some.is))).1

pub loop-place-smaller : goal.loop-place-smaller
loop-place-smaller c = fewer_left c.in-Some.place c.loop-place.left c.exchange.new.self (found_is_descent c.loop-place.left c.in-Some.place (sym c.first_descent.ensures ∙ c.in-Some.is)) c.exchange.ensures

pub loop-place-preserved : goal.loop-place-preserved
loop-place-preserved c =
    leading-cross c.args.braid.now c.args.perm.now c.args.word.now c.loop-place.left c.loop-place.crossed c.loop-place.scalar c.in-Some.place c.loop-place.invariant
    (found_is_descent c.loop-place.left c.in-Some.place (sym c.first_descent.ensures ∙ c.in-Some.is)) c.exchange.new.self c.cross_at.new.word c.cross_at.result c.mul-scalar.result c.exchange.ensures c.cross_at.ensures.word c.cross_at.ensures.length
    c.cross_at.ensures.letters c.cross_at.ensures.scalar (c.mul-scalar.ensures.product ∙ ap (λ k. times k c.loop-place.scalar c.cross_at.result) c.field-field.ensures.field)
    (subst (λ k. IsElement k c.mul-scalar.result) c.field-field.ensures.field c.mul-scalar.ensures.element)

pub returns-clause-word : goal.returns-clause-word
returns-clause-word c =
    ap (λ (t : Term). t.word)
    (leading_end c.args.braid.now c.args.perm.now c.args.word.now c.loop-place.left c.loop-place.crossed c.loop-place.scalar c.loop-place.invariant (none_left c.loop-place.left c.first_descent.result c.first_descent.ensures c.in_default.not-Some))

pub returns-clause-scalar : goal.returns-clause-scalar
returns-clause-scalar c =
    ap (λ (t : Term). t.coefficient)
    (leading_end c.args.braid.now c.args.perm.now c.args.word.now c.loop-place.left c.loop-place.crossed c.loop-place.scalar c.loop-place.invariant (none_left c.loop-place.left c.first_descent.result c.first_descent.ensures c.in_default.not-Some))

pub returns-clause-closed : goal.returns-clause-closed
returns-clause-closed c = closed_lift c.args.braid.now c.field-field.ensures.braid c.args.perm.now c.args.word.now c.ends-ends.ensures.perm c.requires.length c.requires.letters
