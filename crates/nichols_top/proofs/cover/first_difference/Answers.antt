use Rattle.std.proofs.Common.{◌≡◌, ◌<◌, length, true, false, refl, sym, ◌∙◌, arith}
use Rattle.std.proofs.lemmas.Bool.Decides.{nat_tests}
use Rattle.nichols_top.proofs.Covers.{differs, difference_start, difference_here, difference_later, no_difference}
use Rattle.nichols_top.proofs.cover.first_difference.Goals as goal

pub loop-dimension-init : goal.loop-dimension-init
loop-dimension-init c = record { degree = refl; rest = difference_start c.args.graded.now.braid c.args.dimensions.now }

pub returns-then-dimension : goal.returns-then-dimension
returns-then-dimension c =
    let less : c.loop-dimension.degree < length c.args.dimensions.now = omega (arith, c.loop-dimension.invariant.degree, c.loop-dimension-test.true) in
    let other : differs c.args.graded.now.braid c.args.dimensions.now c.loop-dimension.degree ≡ true = grind (arith, nat_tests, c.if-dimension.true, c.dimension.ensures.value, c.loop-dimension.invariant.degree) in
    sym (c.loop-dimension.invariant.rest ∙ difference_here c.args.graded.now.braid c.args.dimensions.now c.loop-dimension.degree less other)

pub loop-dimension-preserved : goal.loop-dimension-preserved
loop-dimension-preserved c =
    let less : c.loop-dimension.degree < length c.args.dimensions.now = omega (arith, c.loop-dimension.invariant.degree, c.loop-dimension-test.true) in
    let same : differs c.args.graded.now.braid c.args.dimensions.now c.loop-dimension.degree ≡ false = grind (arith, nat_tests, c.if-dimension.false, c.dimension.ensures.value, c.loop-dimension.invariant.degree) in
    record {
      degree = omega (arith, c.loop-dimension.invariant.degree);
      rest = c.loop-dimension.invariant.rest ∙ difference_later c.args.graded.now.braid c.args.dimensions.now c.loop-dimension.degree less same;
    }

pub returns : goal.returns
returns c = sym (c.loop-dimension.invariant.rest ∙ no_difference c.args.graded.now.braid c.args.dimensions.now c.loop-dimension.degree (omega (arith, c.loop-dimension.invariant.degree, c.loop-dimension-test.false)))
