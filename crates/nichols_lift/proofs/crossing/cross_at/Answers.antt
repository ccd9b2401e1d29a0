use Rattle.std.proofs.Common.{◌-◌, ◌∙◌, ℕ, List, set, ap, ap₂}
use Rattle.nichols_braid.specs.Braid.{act, scalar}
use Rattle.nichols_lift.proofs.Leading.{crossed_there, scalar_there}
use Rattle.nichols_lift.proofs.crossing.cross_at.Goals as goal

pub returns-clause-word : goal.returns-clause-word
returns-clause-word c =
    c.set-2.ensures
    ∙ ap₂ (λ (w : List ℕ) (a : ℕ). set w c.args.i a) (c.set.ensures ∙ ap (λ x. set c.args.word.now (c.args.i - 1) x) (c.act.ensures.value ∙ ap₂ (act c.args.braid.now) c.letter-left.ensures.value c.letter-right.ensures.value)) c.letter-left.ensures.value
    ∙ crossed_there c.args.braid.now c.args.i c.args.word.now c.requires.first c.requires.last

pub returns-clause-scalar : goal.returns-clause-scalar
returns-clause-scalar c =
    c.scalar.ensures.value ∙ ap₂ (scalar c.args.braid.now) c.letter-left.ensures.value c.letter-right.ensures.value ∙ scalar_there c.args.braid.now c.args.i c.args.word.now c.requires.first c.requires.last
