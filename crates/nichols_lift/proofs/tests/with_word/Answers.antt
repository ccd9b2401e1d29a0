use Rattle.std.proofs.Common.{rules, ◌≤◌, ℕ, [], ◌∷◌, length, subst, sym}
use Rattle.nichols_tensor.specs.Combination.{Combination}
use Rattle.nichols_tensor.specs.Words.{HasDegree}
use Rattle.nichols_tensor.proofs.Over.{all_of_both}
use Rattle.nichols_lift.specs.declared.TheConstants.{PLACE_LIMIT}
use Rattle.nichols_lift.specs.Lengths.{AllAtMost}
use Rattle.nichols_lift.proofs.tests.with_word.Goals as goal

short : (n : ℕ) (f : Combination) → HasDegree n f → n ≤ PLACE_LIMIT → AllAtMost PLACE_LIMIT f
short n [] h l = tt
short n (t ∷ f) h l = (subst (λ k. k ≤ PLACE_LIMIT) (sym h.0) l, short n f h.1 l)

pub returns-clause-lengths : goal.returns-clause-lengths
returns-clause-lengths c =
    all_of_both (λ w. length w ≤ PLACE_LIMIT) c.args.sum.now c.in_ok-single.single c.in_ok-longer.longer c.in_ok-longer.ensures.words c.requires.lengths (short _ c.in_ok-single.single c.in_ok-single.ensures.degree (search (rules, c.if-len-gt-PLACE_LIMIT.false)))

pub returns-clause-letters : goal.returns-clause-letters
returns-clause-letters c =
    c.in_ok-longer.ensures.letters c.args.braid.now.letters c.requires.letters (c.in_ok-single.ensures.letters c.args.braid.now.letters (search rules))
