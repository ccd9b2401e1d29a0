use Rattle.std.proofs.Common.{arith, refl, ◌≡◌, ◌<◌, ◌-◌, ℕ, [], Some, length, slice_index_or}
use Rattle.nichols_value.specs.Rule.{PlainRule, derivs_in}
use Rattle.nichols_value.specs.Kept.{forms_over_each}
use Rattle.nichols_value.specs.declared.rule.BlockRule.TheInside.{Inside}
use Rattle.nichols_value.specs.declared.rule.Upper.{Upper}
use Rattle.nichols_value.specs.contracts.rule.BlockRule.{the_invariant, the_view}
use Rattle.nichols_value.proofs.KeptRows.{IsRowOfEach, row_of_each}
use Rattle.nichols_value.proofs.rule.BlockRule.derivative_row.Goals as goal

-- the forms of the derivatives are those of the rows
forms_are : (inside : Inside) (upper : Upper) (now : PlainRule) (a : ℕ) → the_view inside ≡ now → inside.upper ≡ Some upper
    → derivs_in now a ≡ slice_index_or (forms_over_each inside.below.items upper.derivs.items) (a - 1) []
forms_are inside upper now a view is = rw (← view, is) refl

-- the row is among them
found : (inside : Inside) (upper : Upper) (now : PlainRule) (a k : ℕ) → the_view inside ≡ now → the_invariant inside → inside.upper ≡ Some upper
    → k < length (derivs_in now a) → IsRowOfEach inside.below.items upper.derivs.items (a - 1) k
found inside upper now a k view holds is place =
    let shape = rw is at holds.1 in
    row_of_each inside.below.items upper.derivs.items (a - 1) k shape.0.derivs_forms (rw (forms_are inside upper now a view is) at place)

pub row_of-requires-clause-most : goal.row_of-requires-clause-most
row_of-requires-clause-most c =
    let row = found c.self.inside c.in-Some.upper c.args.self.now c.args.a c.args.k c.self.view_is c.self.invariant c.in-Some.is c.requires.place in
    rw c.as_slice.ensures.value (omega (arith, row.letter))

pub row_of-requires-clause-place : goal.row_of-requires-clause-place
row_of-requires-clause-place c =
    let row = found c.self.inside c.in-Some.upper c.args.self.now c.args.a c.args.k c.self.view_is c.self.invariant c.in-Some.is c.requires.place in
    rw c.as_slice.ensures.value row.place

pub returns : goal.returns
returns c =
    let row = found c.self.inside c.in-Some.upper c.args.self.now c.args.a c.args.k c.self.view_is c.self.invariant c.in-Some.is c.requires.place in
    rw (c.row_of.ensures, c.as_slice.ensures.value, forms_are c.self.inside c.in-Some.upper c.args.self.now c.args.a c.self.view_is c.in-Some.is, ← c.self.view_is) row.cells
