use Rattle.std.proofs.Common.{◌+◌, ◌∙◌, refl, sym, arith}
use Rattle.nichols_lift.proofs.Perms.{rearrangement_if_all, more_found, none_found}
use Rattle.nichols_lift.proofs.perm.is_rearrangement.Goals as goal

pub returns-then-not-contains : goal.returns-then-not-contains
returns-then-not-contains c = (λ h. cc, λ r. absurd (none_found c.args.ends.now c.loop-i.i (c.loop-i.i + 1) c.loop-i-test.true refl (sym c.contains.ensures.value ∙ c.if-not-contains.true) r))

pub loop-i-preserved : goal.loop-i-preserved
loop-i-preserved c = more_found c.args.ends.now c.loop-i.i (c.loop-i.i + 1) refl c.loop-i.invariant (sym c.contains.ensures.value ∙ c.if-not-contains.false)

pub returns : goal.returns
returns c = (λ h. rearrangement_if_all c.args.ends.now (λ k less. c.loop-i.invariant k (omega (arith, less, c.loop-i-test.false))), λ r. refl)
