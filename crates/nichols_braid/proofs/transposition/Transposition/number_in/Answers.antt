use Rattle.std.proofs.Common.{sym, ◌∙◌, ap, arith}
use Rattle.nichols_braid.proofs.Numbered.{number_found, number_beyond}
use Rattle.nichols_braid.proofs.transposition.Transposition.number_in.Goals as goal

pub returns-then-self-other-2 : goal.returns-then-self-other-2
returns-then-self-other-2 c =
    number_found c.args.all.now c.args.self c.index-all-i.result c.loop-i.i c.loop-i-test.true c.loop-i.invariant c.index-all-i.is
    (sym (ap (λ t. t.first) c.self.view_is) ∙ c.if-self-other.true ∙ ap (λ t. t.first) c.other.view_is)
    (sym (ap (λ t. t.second) c.self.view_is) ∙ c.if-self-other-2.true ∙ ap (λ t. t.second) c.other.view_is)

pub returns : goal.returns
returns c = number_beyond c.args.all.now c.args.self c.loop-i.i (omega arith) c.loop-i.invariant
