use Rattle.std.proofs.Common.{subst}
use Rattle.nichols_tensor.specs.Words.{HasDegree}
use Rattle.nichols_cover.proofs.tests.with_term.Goals as goal

pub returns-clause-degree : goal.returns-clause-degree
returns-clause-degree c = c.in_ok-both.ensures.degree 2 c.requires.degree (subst (λ m. HasDegree m c.in_ok-one.one) c.in_ok-word.ensures.0 c.in_ok-one.ensures.degree)

pub returns-clause-letters : goal.returns-clause-letters
returns-clause-letters c = c.in_ok-both.ensures.letters c.args.letters c.requires.letters (c.in_ok-one.ensures.letters c.args.letters c.in_ok-word.ensures.1)
