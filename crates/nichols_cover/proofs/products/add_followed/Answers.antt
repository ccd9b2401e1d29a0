use Rattle.std.proofs.Common.{◌≡◌, ◌<◌, ◌∙◌, ◌+◌, ◌-◌, ◌*◌, ap, ap₂, arith, length, refl, subst, sym}
use Rattle.nichols_field.specs.Field.{times}
use Rattle.nichols_echelon.specs.Cells.{Cell}
use Rattle.nichols_cover.proofs.ProductSums.{followed_start, followed_more, followed_below, place_is}
use Rattle.nichols_cover.proofs.products.add_followed.Goals as goal

pub loop-cell-init : goal.loop-cell-init
loop-cell-init c = record { sums = followed_start c.args.field c.modulus-modulus.ensures.field c.args.letters c.args.y c.args.by c.args.sums.now; width = refl }

pub put-requires-clause-below : goal.put-requires-clause-below
put-requires-clause-below c =
    let same : c.cell.inside.column * c.from.result + c.from-in-loop-cell.result - 1 ≡ c.cell-item.result.column * c.args.letters + (c.args.y - 1) =
    ap₂ (λ a b. a + b - 1) (ap₂ (λ a b. a * b) (ap (λ (d : Cell). d.column) c.cell.view_is) c.from.ensures) c.from-in-loop-cell.ensures ∙ place_is (c.cell-item.result.column * c.args.letters) c.args.y c.requires.letter.0 in
    subst (λ m. m < length c.loop-cell.sums) (sym same)
    (subst (λ m. c.cell-item.result.column * c.args.letters + (c.args.y - 1) < m) (sym c.loop-cell.invariant.width)
    (followed_below c.args.letters c.args.y (length c.args.sums.now) c.args.cells.now c.loop-cell.cell-index c.cell-item.result c.requires.below (omega arith) c.cell-item.is))

pub loop-cell-preserved : goal.loop-cell-preserved
loop-cell-preserved c =
    let same : c.cell.inside.column * c.from.result + c.from-in-loop-cell.result - 1 ≡ c.cell-item.result.column * c.args.letters + (c.args.y - 1) =
    ap₂ (λ a b. a + b - 1) (ap₂ (λ a b. a * b) (ap (λ (d : Cell). d.column) c.cell.view_is) c.from.ensures) c.from-in-loop-cell.ensures ∙ place_is (c.cell-item.result.column * c.args.letters) c.args.y c.requires.letter.0 in
    record {
      sums = followed_more c.args.field c.modulus-modulus.ensures.field c.args.letters c.args.y c.args.by c.args.cells.now c.loop-cell.cell-index c.cell-item.result c.args.sums.now c.loop-cell.sums c.put.new.self
          (c.cell.inside.column * c.from.result + c.from-in-loop-cell.result - 1) c.mul.result (omega arith) c.cell-item.is same (c.mul.ensures.product ∙ ap (λ (d : Cell). times c.args.field c.args.by d.coefficient) c.cell.view_is) c.put.ensures.here
          c.put.ensures.elsewhere c.loop-cell.invariant.sums;
      width = c.put.ensures.width ∙ c.loop-cell.invariant.width;
    }
