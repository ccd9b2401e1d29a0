use Rattle.std.proofs.Common.{◌≡◌, ◌≤◌, ◌<◌, ◌+◌, ◌∙◌, ap, sym, subst, length, arith}
use Rattle.nichols_tensor.specs.Combination.{Term}
use Rattle.nichols_braid.specs.Braid.{IsBraid}
use Rattle.nichols_product.proofs.PartProducts.{HasTerms, terms_all, terms_more, terms_none, terms_skipped}
use Rattle.nichols_product.proofs.factors.add_part.Goals as goal
use Rattle.nichols_product.proofs.factors.add_part.Goals.{then-part-len+in_ok-add_term, else-part-len}

pub loop-term-init : goal.loop-term-init
loop-term-init c = terms_none c.args.levels.now.braid c.args.levels.now.last c.args.part.now c.args.factor.now c.args.parts.now.items c.requires.parts

pub loop-term-preserved : goal.loop-term-preserved
loop-term-preserved c =
    let is : IsBraid c.args.levels.now.braid = subst IsBraid c.braid.ensures c.field-field.ensures.braid in
    let inside : c.loop-term.term-index < length c.args.factor.now = omega arith in
    let size : length c.term-item.result.word ≡ c.len.result = ap (λ (t : Term). length t.word) (sym c.term.view_is) ∙ sym c.len.ensures.value in
    elim c.if-part-len.branch [
      | then-part-len+in_ok-add_term w ↦
          subst (λ ps. HasTerms c.args.levels.now.braid c.args.levels.now.last c.args.part.now c.args.factor.now (c.loop-term.term-index + 1) c.args.parts.now.items ps.items) (sym w.parts-is)
          (terms_more c.args.levels.now.braid is.field c.args.levels.now.last c.args.part.now c.args.factor.now c.loop-term.term-index c.term-item.result c.args.parts.now.items c.loop-term.parts.items w.add_term.new.parts.items inside c.term-item.is c.loop-term.invariant
          w.in_ok-add_term.ensures.parts w.in_ok-add_term.ensures.within w.in_ok-add_term.ensures.values)
      | else-part-len w ↦
          let long : c.args.levels.now.last < c.args.part.now.degree + length c.term-item.result.word = omega (arith, size, w.if-part-len.false, c.last-last.ensures.value) in
          terms_skipped c.args.levels.now.braid is c.args.levels.now.last c.args.part.now c.args.factor.now c.loop-term.term-index c.term-item.result c.args.parts.now.items c.loop-term.parts.items c.if-part-len.parts.items c.requires.letters c.requires.fits inside c.term-item.is long
          c.loop-term.invariant (ap (λ ps. ps.items) w.parts-is)
    ]

pub returns-clause-values : goal.returns-clause-values
returns-clause-values c =
    let is : IsBraid c.args.levels.now.braid = subst IsBraid c.braid.ensures c.field-field.ensures.braid in
    let past : length c.args.factor.now ≤ c.loop-term.term-index = omega arith in
    terms_all c.args.levels.now.braid is c.args.levels.now.last c.args.part.now c.args.factor.now c.loop-term.term-index c.args.parts.now.items c.loop-term.parts.items c.requires.letters past c.loop-term.invariant
