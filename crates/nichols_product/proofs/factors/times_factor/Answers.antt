use Rattle.std.proofs.Common.{sym, subst, ◌<◌, length, arith}
use Rattle.nichols_braid.specs.Braid.{IsBraid}
use Rattle.nichols_product.proofs.PartProducts.{HasProducts, products_more, products_none}
use Rattle.nichols_product.proofs.factors.times_factor.Goals as goal

pub loop-part-init : goal.loop-part-init
loop-part-init c =
    let is : IsBraid c.args.levels.now.braid = subst IsBraid c.braid.ensures c.field-field.ensures.braid in
    subst (HasProducts c.args.levels.now.braid c.args.levels.now.last c.args.parts.now c.args.factor.now 0) (sym c.new-longer.ensures.items) (products_none c.args.levels.now.braid is c.args.levels.now.last c.args.parts.now c.args.factor.now)

pub loop-part-preserved : goal.loop-part-preserved
loop-part-preserved c =
    let is : IsBraid c.args.levels.now.braid = subst IsBraid c.braid.ensures c.field-field.ensures.braid in
    let inside : c.loop-part.part-index < length c.args.parts.now = omega arith in
    products_more c.args.levels.now.braid is c.args.levels.now.last c.args.parts.now c.args.factor.now c.loop-part.part-index c.part-item.result c.loop-part.longer.items c.add_part.new.parts.items c.requires.letters inside c.part-item.is c.loop-part.invariant
    c.in_ok-add_part.ensures.parts c.in_ok-add_part.ensures.within c.in_ok-add_part.ensures.values
