use Rattle.std.proofs.Common.{◌≡◌, sym, ◌∙◌, ap, arith, subst, inl, inr}
use Rattle.std.proofs.lemmas.Bool.{cases_lt}
use Rattle.nichols_braid.specs.Braid.{IsBraid, act, BraidValue}
use Rattle.nichols_braid.proofs.LetterSearch.{letter_sent, last_sent}
use Rattle.nichols_braid.proofs.Onto.{unact_is_before}
use Rattle.nichols_braid.proofs.braid.Braid.unact.Goals as goal

pub loop-c-init : goal.loop-c-init
loop-c-init c = λ d low less e. absurd (omega (arith, low, less))

pub returns-then-act-j-clause-value : goal.returns-then-act-j-clause-value
returns-then-act-j-clause-value c =
    let size = ap (λ (b : BraidValue). b.letters) c.self.view_is in
    letter_sent c.args.self.now (subst IsBraid c.self.view_is c.self.invariant) c.args.i c.args.j c.loop-c.c c.requires.left c.requires.right (c.loop-c.auto.c, omega (arith, size, c.loop-c-test.true)) (sym c.act.ensures.value ∙ c.if-act-j.true)

pub loop-c-preserved : goal.loop-c-preserved
loop-c-preserved c = λ d low less e.
    elim (cases_lt d c.loop-c.c) [
      | inl before ↦ c.loop-c.invariant d low before e
      | inr here ↦ c.if-act-j.false (c.act.ensures.value ∙ ap (act c.args.self.now c.args.i) (let same : c.loop-c.c ≡ d = omega arith in same) ∙ e)
    ]

pub returns-clause-value : goal.returns-clause-value
returns-clause-value c =
    last_sent c.args.self.now (subst IsBraid c.self.view_is c.self.invariant) c.args.i c.args.j c.self.inside.letters c.loop-c.c c.requires.left c.requires.right (ap (λ (b : BraidValue). b.letters) c.self.view_is) c.loop-c-test.false c.loop-c.invariant

pub returns-clause-sent : goal.returns-clause-sent
returns-clause-sent c =
    ap (act c.args.self.now c.args.i) (returns-clause-value c)
    ∙ (unact_is_before c.args.self.now (subst IsBraid c.self.view_is c.self.invariant).rack c.args.i c.requires.left c.args.j c.requires.right).1
