use Rattle.std.proofs.Common.{◌∙◌, ap, length, subst, sym, List}
use Rattle.nichols_field.specs.Field.{plus, times}
use Rattle.nichols_echelon.specs.Cells.{AllBelow, AllElements, Cell, entry}
use Rattle.nichols_echelon.specs.Sums.{sum_at}
use Rattle.nichols_echelon.proofs.JoinedRows.{inside_parts, row_in_parts}
use Rattle.nichols_echelon.proofs.parts.Parts.add.Goals as goal

pub add_parts-requires-clause-parts : goal.add_parts-requires-clause-parts
add_parts-requires-clause-parts c = c.self.invariant c.args.k (inside_parts c.self.inside.lists.now c.self.inside.offsets.now c.self.inside.count c.args.k c.args.self.now c.self.view_is c.requires.inside)

pub add_parts-requires-clause-elements : goal.add_parts-requires-clause-elements
add_parts-requires-clause-elements c =
    subst (AllElements c.args.field) (sym (row_in_parts c.self.inside.lists.now c.self.inside.offsets.now c.self.inside.count c.args.k c.args.self.now c.self.view_is c.requires.inside)) c.requires.elements

pub add_parts-requires-clause-below : goal.add_parts-requires-clause-below
add_parts-requires-clause-below c =
    subst (AllBelow (length c.args.sums.now)) (sym (row_in_parts c.self.inside.lists.now c.self.inside.offsets.now c.self.inside.count c.args.k c.args.self.now c.self.view_is c.requires.inside)) c.requires.below

pub returns-clause-value : goal.returns-clause-value
returns-clause-value c place =
    c.add_parts.ensures.value place
    ∙ ap (λ (cs : List Cell). plus c.args.field (sum_at c.args.field c.args.sums.now place) (times c.args.field c.args.by (entry c.args.field cs place)))
    (row_in_parts c.self.inside.lists.now c.self.inside.offsets.now c.self.inside.count c.args.k c.args.self.now c.self.view_is c.requires.inside)
