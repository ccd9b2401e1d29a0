use Rattle.std.proofs.Common.{◌<◌, refl, subst, arith, inl, inr}
use Rattle.nichols_tensor.specs.Combination.{HasSameValues}
use Rattle.nichols_braid.specs.Braid.{IsBraid}
use Rattle.nichols_product.specs.Parts.{total}
use Rattle.nichols_product.proofs.RunningProducts.{answer_beyond, answer_form, not_true}
use Rattle.nichols_product.proofs.running.Running.answer.Goals as goal
use Rattle.nichols_product.proofs.running.Running.answer.Goals.{else-not-self-via-then-not-self+then-self-last+else-not-closed, else-not-self-via-then-not-self+else-self-last, else-not-self-via-else-not-self}

pub returns-then-not-closed : goal.returns-then-not-closed
returns-then-not-closed c fs all h =
    let less : c.args.levels.now.last < c.args.self.now.reach = omega (arith, c.if-self-last.true, c.last-last.ensures.value) in
    answer_beyond c.args.levels.now.braid c.args.levels.now.last c.last-last.result fs c.args.self.now h c.if-not-self.true less (λ e. not_true (c.if-not-closed.ensures.1 e)) c.last-last.ensures.value

pub returns : goal.returns
returns c fs all h =
    let is : IsBraid c.args.levels.now.braid = subst IsBraid c.braid.ensures c.field-field.ensures.braid in
    answer_form c.args.levels.now.braid is c.args.levels.now.last fs c.args.self.now c.in_ok-form.form all h
    (elim c.else-not-self.branch [
      | else-not-self-via-then-not-self+then-self-last+else-not-closed w ↦ inr (inr (w.if-not-closed.ensures.0 refl))
      | else-not-self-via-then-not-self+else-self-last w ↦ inr (inl (w.if-not-self.true, omega (arith, w.if-self-last.false, c.last-last.ensures.value)))
      | else-not-self-via-else-not-self w ↦ inl w.if-not-self.false
    ])
    (subst (λ ps. HasSameValues c.args.levels.now.braid.field c.in_ok-form.form (total c.args.levels.now.braid ps)) c.as_slice.ensures.value c.in_ok-form.ensures.values) c.in_ok-form.ensures.shape c.in_ok-form.ensures.elements
