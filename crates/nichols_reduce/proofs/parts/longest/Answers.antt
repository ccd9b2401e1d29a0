use Rattle.std.proofs.Common.{◌<◌, length, refl, ◌∙◌, ap, arith}
use Rattle.nichols_tensor.specs.Combination.{Term}
use Rattle.nichols_tensor.specs.Parts.{longest}
use Rattle.nichols_reduce.proofs.LongestWords.{longest_next}
use Rattle.nichols_reduce.proofs.parts.longest.Goals as goal

pub loop-term-init : goal.loop-term-init
unfolding longest
loop-term-init c = refl

pub loop-term-preserved : goal.loop-term-preserved
loop-term-preserved c =
    let inside : c.loop-term.term-index < length c.args.terms.now = omega arith in
    c.max-most.ensures ∙ longest_next c.args.terms.now c.loop-term.term-index c.term-item.result c.loop-term.most c.len.result inside c.term-item.is c.loop-term.invariant (c.len.ensures.value ∙ ap (λ (t : Term). length t.word) c.term.view_is)
