use Rattle.std.proofs.Common.{◌<◌, ◌∙◌, ap, arith, length, subst, sym, List, refl}
use Rattle.nichols_field.specs.Field.{IsElement, plus, times}
use Rattle.nichols_echelon.specs.Cells.{AllBelow, AllElements, Cell, entry}
use Rattle.nichols_echelon.specs.Parts.{cells_behind}
use Rattle.nichols_echelon.specs.Sums.{sum_at}
use Rattle.std.proofs.Common.{get_or}
use Rattle.nichols_echelon.proofs.CellsBehind.{elements_behind}
use Rattle.nichols_echelon.proofs.JoinedRows.{added_more, added_none, cells_read, part_of_joined}
use Rattle.nichols_echelon.proofs.parts.add_parts.Goals as goal

pub loop-a-init : goal.loop-a-init
loop-a-init c = record { value = added_none c.args.field c.modulus-modulus.ensures.field c.args.by c.args.lists.now c.args.offsets.now c.args.k c.args.sums.now; width = refl }

pub add_behind-requires-clause-elements : goal.add_behind-requires-clause-elements
add_behind-requires-clause-elements c =
    subst (AllElements c.args.field) (sym (cells_read c.args.lists.now c.loop-a.a c.args.k c.index-lists-a.result c.row.result.now (omega (arith, c.loop-a-test.true)) c.index-lists-a.is c.row.ensures))
    (elements_behind c.args.field (get_or c.args.offsets.now c.loop-a.a 0) _ (part_of_joined (λ (d : Cell). IsElement c.args.field d.coefficient) c.args.lists.now c.args.offsets.now c.args.k (length c.args.lists.now) c.requires.elements c.loop-a.a (omega (arith, c.loop-a-test.true))))

pub add_behind-requires-clause-below : goal.add_behind-requires-clause-below
add_behind-requires-clause-below c =
    subst (λ n. AllBelow n (cells_behind (get_or c.args.offsets.now c.loop-a.a 0) c.row.result.now)) (sym c.loop-a.invariant.width)
    (subst (λ (cs : List Cell). AllBelow (length c.args.sums.now) (cells_behind (get_or c.args.offsets.now c.loop-a.a 0) cs)) (sym (cells_read c.args.lists.now c.loop-a.a c.args.k c.index-lists-a.result c.row.result.now (omega (arith, c.loop-a-test.true)) c.index-lists-a.is c.row.ensures))
    (part_of_joined (λ (d : Cell). d.column < length c.args.sums.now) c.args.lists.now c.args.offsets.now c.args.k (length c.args.lists.now) c.requires.below c.loop-a.a (omega (arith, c.loop-a-test.true))))

pub loop-a-preserved : goal.loop-a-preserved
loop-a-preserved c = record {
  value =
      added_more c.args.field c.modulus-modulus.ensures.field c.args.by c.args.lists.now c.args.offsets.now c.args.k c.loop-a.a c.args.sums.now c.loop-a.sums c.add_behind.new.self c.loop-a.invariant.value
      (λ place. c.add_behind.ensures.value place
      ∙ ap (λ (cs : List Cell). plus c.args.field (sum_at c.args.field c.loop-a.sums place) (times c.args.field c.args.by (entry c.args.field (cells_behind (get_or c.args.offsets.now c.loop-a.a 0) cs) place)))
      (cells_read c.args.lists.now c.loop-a.a c.args.k c.index-lists-a.result c.row.result.now (omega (arith, c.loop-a-test.true)) c.index-lists-a.is c.row.ensures));
  width = c.add_behind.ensures.width ∙ c.loop-a.invariant.width;
}
