use Rattle.std.proofs.Common.{◌≡◌, ◌+◌, ◌≤◌, suc, length, ap, ◌∙◌, sym, subst, arith}
use Rattle.nichols_braid.specs.declared.TheConstants.{MOST_PRODUCTS}
use Rattle.nichols_braid.specs.Products.{products}
use Rattle.nichols_graded.proofs.DegreeStops.{stop_is}
use Rattle.nichols_graded.proofs.survey.stop_behind.Goals as goal

pub returns : goal.returns
returns c =
    let b = c.args.braid.now in
    let more = c.if-at-lists.false in
    let within = c.requires.open.within in
    let next = c.index-lists-at-2.result in
    let m : suc (c.args.first + c.args.at) ≡ c.args.first + (c.args.at + 1) = omega arith in
    let is : next ≡ products b (suc (c.args.first + c.args.at)) = c.index-lists-at-2.is ∙ c.requires.open.listed (c.args.at + 1) next (omega (arith, more)) ∙ ap (products b) (sym m) in
    let few : length next ≤ MOST_PRODUCTS = subst (λ xs. length xs ≤ MOST_PRODUCTS) (sym c.index-lists-at-2.is) (c.requires.open.narrow (c.args.at + 1) next (omega (arith, more))) in
    c.first_over.ensures ∙ stop_is b c.field-field.ensures.braid c.args.limits.0 c.args.limits.1 (c.args.first + c.args.at) next (omega (arith, within, more)) is few
