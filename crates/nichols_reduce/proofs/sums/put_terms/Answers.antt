use Rattle.std.proofs.Common.{◌<◌, ◌≤◌, ◌++◌, ◌∙◌, sym, ap, length, arith}
use Rattle.std.proofs.lemmas.List.{append-nil}
use Rattle.nichols_field.specs.Field.{times}
use Rattle.nichols_tensor.specs.Combination.{scalar_multiple, without_zeros}
use Rattle.nichols_reduce.proofs.GrowingSums.{terms_more, term_kept, term_dropped, taken_whole}
use Rattle.nichols_reduce.proofs.sums.put_terms.Goals as goal
use Rattle.nichols_reduce.proofs.sums.put_terms.Goals.{then-coefficient-ne0+in_ok-push, else-coefficient-ne0}

pub loop-k-preserved : goal.loop-k-preserved
loop-k-preserved c =
    let inside : c.loop-k.k < length c.args.basis.now = omega arith in
    terms_more c.args.field c.args.by c.args.basis.now c.args.sums.now c.loop-k.k c.args.terms.now.items c.loop-k.terms.items c.if-coefficient-ne0.terms.items c.index-basis-k.result c.mul-coefficient.result c.requires.width inside c.index-basis-k.is
    (c.mul-coefficient.ensures.product ∙ ap (times c.args.field c.args.by) c.settle.ensures.value) c.loop-k.invariant
    (elim c.if-coefficient-ne0.branch [
      | then-coefficient-ne0+in_ok-push w ↦ ap (λ v. v.items) w.terms-is ∙ w.in_ok-push.ensures.items ∙ ap (λ g. c.loop-k.terms.items ++ g) (sym (term_kept c.index-basis-k.result c.mul-coefficient.result w.if-coefficient-ne0.true))
      | else-coefficient-ne0 w ↦ ap (λ v. v.items) w.terms-is ∙ sym (append-nil c.loop-k.terms.items) ∙ ap (λ g. c.loop-k.terms.items ++ g) (sym (term_dropped c.index-basis-k.result c.mul-coefficient.result w.if-coefficient-ne0.false))
    ])

pub returns : goal.returns
returns c =
    let past : length c.args.basis.now ≤ c.loop-k.k = omega arith in
    c.loop-k.invariant ∙ ap (λ f. c.args.terms.now.items ++ without_zeros (scalar_multiple c.args.field c.args.by f)) (taken_whole c.args.field c.args.basis.now c.args.sums.now c.loop-k.k c.requires.width past)
