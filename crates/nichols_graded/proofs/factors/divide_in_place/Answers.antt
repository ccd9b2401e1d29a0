use Rattle.std.proofs.Common.{◌∙◌, refl, sym, arith}
use Rattle.nichols_graded.proofs.Division.{division_stops, division_goes_on, division_ends}
use Rattle.nichols_graded.proofs.factors.divide_in_place.Goals as goal

pub returns-then-not-lower : goal.returns-then-not-lower
returns-then-not-lower c =
    let long = c.loop-i.auto.polynomial ∙ c.requires.long in
    let none = division_stops c.args.count c.args.k c.loop-i.i _ c.loop-i.polynomial c.requires.some c.loop-i-test.true long c.loop-i.invariant (sym c.if-not-lower.ensures.lowered) in
    rw none refl

pub loop-i-preserved : goal.loop-i-preserved
loop-i-preserved c =
    let long = c.loop-i.auto.polynomial ∙ c.requires.long in
    division_goes_on c.args.count c.args.k c.loop-i.i _ c.loop-i.polynomial c.lower.new.coefficients c.requires.some c.loop-i-test.true long c.loop-i.invariant (sym c.if-not-lower.ensures.lowered) (c.lower.ensures.rest c.if-not-lower.false)

pub returns : goal.returns
returns c =
    let within = c.loop-i-test.false in
    let end = c.loop-i.auto.i-end in
    division_ends c.args.count c.args.k c.loop-i.i _ c.loop-i.polynomial c.is_zero.result (omega (arith, within, end)) c.loop-i.invariant c.is_zero.ensures
