use Rattle.std.proofs.Common.{◌<◌, ℕ, arith, ◌∙◌}
use Rattle.std.specs.Prelude.{Some}
use Rattle.nichols_field.specs.Field.{FieldValue, element_of_sum}
use Rattle.nichols_field.specs.Pairs.{Extension}
use Rattle.nichols_field.proofs.Table.{modulus_bounds}
use Rattle.nichols_field.proofs.Pending.{reduced_added, unreduced_added}
use Rattle.nichols_field.proofs.quadratic.Quadratic.with_product.Goals as goal

pub returns-then-p-le-MOST_UNREDUCED : goal.returns-then-p-le-MOST_UNREDUCED
returns-then-p-le-MOST_UNREDUCED c =
    let p : ℕ = c.self.inside.modulus in
    let t : Extension = record { a = c.self.inside.a; b = c.self.inside.b } in
    let k : FieldValue = record { modulus = p; extension = Some t } in
    let bounds : (1 < p) × (p < 65522) = modulus_bounds p c.self.invariant.0 in
    c.with_parts.ensures
    ∙ rw (c.requires.modulus, ← c.self.view_is) (unreduced_added p t (element_of_sum k c.args.pending) c.args.a c.args.b c.unreduced-low.result.0 c.unreduced-low.result.1 (omega (arith, bounds.0))
    (rw (c.requires.modulus, ← c.self.view_is) at c.unreduced-low.ensures.low) (rw (c.requires.modulus, ← c.self.view_is) at c.unreduced-low.ensures.high))

pub returns-else-p-le-MOST_UNREDUCED : goal.returns-else-p-le-MOST_UNREDUCED
returns-else-p-le-MOST_UNREDUCED c =
    let p : ℕ = c.self.inside.modulus in
    let t : Extension = record { a = c.self.inside.a; b = c.self.inside.b } in
    let k : FieldValue = record { modulus = p; extension = Some t } in
    let bounds : (1 < p) × (p < 65522) = modulus_bounds p c.self.invariant.0 in
    c.with_parts-else-p-le-MOST_UNREDUCED.ensures
    ∙ rw (c.from.ensures, c.from-else-p-le-MOST_UNREDUCED.ensures, c.requires.modulus, ← c.self.view_is) (reduced_added p t (element_of_sum k c.args.pending) c.args.a c.args.b c.unreduced-low.result.0 c.unreduced-low.result.1 (omega (arith, bounds.0))
    (rw (c.requires.modulus, ← c.self.view_is) at c.unreduced-low.ensures.low) (rw (c.requires.modulus, ← c.self.view_is) at c.unreduced-low.ensures.high))
