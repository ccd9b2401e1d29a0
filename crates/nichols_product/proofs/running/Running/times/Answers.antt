use Rattle.std.proofs.Common.{◌≡◌, ◌≤◌, ◌<◌, ◌+◌, ◌∙◌, suc, true, false, min, ap, refl, sym, subst, arith, inl, inr}
use Rattle.nichols_tensor.specs.Combination.{HasSameValues}
use Rattle.nichols_tensor.specs.Parts.{longest}
use Rattle.nichols_tensor.specs.Product.{product}
use Rattle.nichols_braid.specs.Braid.{IsBraid}
use Rattle.nichols_braid.specs.Kernel.{is_killed}
use Rattle.nichols_braid.specs.WholeForm.{normal_form_by_parts}
use Rattle.nichols_product.specs.Parts.{AreWithin, total}
use Rattle.nichols_product.proofs.RunningProducts.{fits_all, not_true, reach_is, times_beyond, times_within, times_zero, within_reach}
use Rattle.nichols_product.proofs.running.Running.times.Goals as goal
use Rattle.nichols_product.proofs.running.Running.times.Goals.{then-self-via-then-self, then-self-via-else-self+then-is_zero, else-reach-last-via-then-reach-last+else-not-closed, else-reach-last-via-else-reach-last}

pub returns-then-self-clause-product : goal.returns-then-self-clause-product
returns-then-self-clause-product c fs all h =
    let is : IsBraid c.args.levels.now.braid = subst IsBraid c.braid.ensures c.field-field.ensures.braid in
    times_zero c.args.levels.now.braid is c.args.levels.now.last fs c.args.factor.now c.args.self (record { parts = c.new.result; reach = 0; zero = true }) all c.requires.letters h
    (elim c.then-self.branch [
      | then-self-via-then-self w ↦ inl w.if-self.true
      | then-self-via-else-self+then-is_zero w ↦ inr (w.if-is_zero.ensures.0 refl)
    ]) c.new.ensures.items refl

pub returns-then-not-closed-clause-product : goal.returns-then-not-closed-clause-product
returns-then-not-closed-clause-product c fs all h =
    let is : IsBraid c.args.levels.now.braid = subst IsBraid c.braid.ensures c.field-field.ensures.braid in
    let reach : c.min-reach.result ≡ min (c.args.self.reach + longest c.args.factor.now) (suc c.args.levels.now.last) =
    reach_is c.args.self.reach (longest c.args.factor.now) c.args.levels.now.last c.saturating_add.result c.min-reach.result (omega (arith, c.last-last.ensures.value, c.last-last.ensures.limit)) (c.saturating_add.ensures ∙ ap (λ n. min (c.args.self.reach + n) 18446744073709551615) (c.longest.ensures ∙ ap longest c.terms-terms.ensures.same))
    (c.min-reach.ensures ∙ ap (λ n. min c.saturating_add.result (n + 1)) c.last-last.ensures.value) in
    let less : c.args.levels.now.last < c.min-reach.result = omega (arith, c.if-reach-last.true, c.last-last.ensures.value) in
    times_beyond c.args.levels.now.braid is c.args.levels.now.last fs c.args.factor.now c.args.self (record { parts = c.new-then-not-closed.result; reach = c.min-reach.result; zero = false }) h c.if-self.false c.terms-terms.ensures.shape c.requires.elements
    (λ e. not_true (c.if-is_zero.ensures.1 e)) refl reach less (λ e. not_true (c.if-not-closed.ensures.1 e))

pub times_factor-requires-clause-fits : goal.times_factor-requires-clause-fits
times_factor-requires-clause-fits c some =
    let reach : c.min-reach.result ≡ min (c.args.self.reach + longest c.terms-terms.result.now) (suc c.args.levels.now.last) =
    reach_is c.args.self.reach (longest c.terms-terms.result.now) c.args.levels.now.last c.saturating_add.result c.min-reach.result (omega (arith, c.last-last.ensures.value, c.last-last.ensures.limit)) (c.saturating_add.ensures ∙ ap (λ n. min (c.args.self.reach + n) 18446744073709551615) c.longest.ensures)
    (c.min-reach.ensures ∙ ap (λ n. min c.saturating_add.result (n + 1)) c.last-last.ensures.value) in
    elim c.else-reach-last.branch [
      | else-reach-last-via-then-reach-last+else-not-closed w ↦ absurd (some (w.if-not-closed.ensures.0 refl))
      | else-reach-last-via-else-reach-last w ↦
          let short : c.min-reach.result ≤ c.args.levels.now.last = omega (arith, w.if-reach-last.false, c.last-last.ensures.value) in
          fits_all c.as_slice.result.now c.args.self.reach (longest c.terms-terms.result.now) c.args.levels.now.last (subst (AreWithin c.args.self.reach) (sym c.as_slice.ensures.value) c.requires.kept.within) (omega (arith, reach, short))
    ]

pub returns-clause-kept : goal.returns-clause-kept
returns-clause-kept c =
    let reach : c.min-reach.result ≡ min (c.args.self.reach + longest c.terms-terms.result.now) (suc c.args.levels.now.last) =
    reach_is c.args.self.reach (longest c.terms-terms.result.now) c.args.levels.now.last c.saturating_add.result c.min-reach.result (omega (arith, c.last-last.ensures.value, c.last-last.ensures.limit)) (c.saturating_add.ensures ∙ ap (λ n. min (c.args.self.reach + n) 18446744073709551615) c.longest.ensures)
    (c.min-reach.ensures ∙ ap (λ n. min c.saturating_add.result (n + 1)) c.last-last.ensures.value) in
    record {
      parts = c.in_ok-parts.ensures.parts;
      within = within_reach c.args.levels.now.braid c.args.levels.now.last c.in_ok-parts.parts.items (c.args.self.reach + longest c.terms-terms.result.now) c.min-reach.result c.in_ok-parts.ensures.parts
          (c.in_ok-parts.ensures.within c.args.self.reach (subst (AreWithin c.args.self.reach) (sym c.as_slice.ensures.value) c.requires.kept.within)) reach;
    }

pub returns-clause-product : goal.returns-clause-product
returns-clause-product c fs all h =
    let is : IsBraid c.args.levels.now.braid = subst IsBraid c.braid.ensures c.field-field.ensures.braid in
    let reach : c.min-reach.result ≡ min (c.args.self.reach + longest c.args.factor.now) (suc c.args.levels.now.last) =
    reach_is c.args.self.reach (longest c.args.factor.now) c.args.levels.now.last c.saturating_add.result c.min-reach.result (omega (arith, c.last-last.ensures.value, c.last-last.ensures.limit)) (c.saturating_add.ensures ∙ ap (λ n. min (c.args.self.reach + n) 18446744073709551615) (c.longest.ensures ∙ ap longest c.terms-terms.ensures.same))
    (c.min-reach.ensures ∙ ap (λ n. min c.saturating_add.result (n + 1)) c.last-last.ensures.value) in
    times_within c.args.levels.now.braid is c.args.levels.now.last fs c.args.factor.now c.args.self (record { parts = c.in_ok-parts.parts; reach = c.min-reach.result; zero = false }) all c.requires.letters h c.if-self.false c.terms-terms.ensures.shape c.requires.elements
    (λ e. not_true (c.if-is_zero.ensures.1 e)) refl reach
    (elim c.else-reach-last.branch [
      | else-reach-last-via-then-reach-last+else-not-closed w ↦ inr (w.if-not-closed.ensures.0 refl)
      | else-reach-last-via-else-reach-last w ↦ inl (omega (arith, w.if-reach-last.false, c.last-last.ensures.value))
    ])
    (subst (λ ps. HasSameValues c.args.levels.now.braid.field (total c.args.levels.now.braid c.in_ok-parts.parts.items) (normal_form_by_parts is_killed c.args.levels.now.braid (product c.args.levels.now.braid.field (total c.args.levels.now.braid ps) c.args.factor.now))) c.as_slice.ensures.value
    (subst (λ g. HasSameValues c.args.levels.now.braid.field (total c.args.levels.now.braid c.in_ok-parts.parts.items) (normal_form_by_parts is_killed c.args.levels.now.braid (product c.args.levels.now.braid.field (total c.args.levels.now.braid c.as_slice.result.now) g))) c.terms-terms.ensures.same c.in_ok-parts.ensures.values))
