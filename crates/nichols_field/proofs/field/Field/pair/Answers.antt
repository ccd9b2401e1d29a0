use Rattle.std.proofs.Common.{◌≡◌, ◌/◌, ◌%◌, refl, subst}
use Rattle.nichols_field.specs.Field.{IsField, AreParts, parts_of}
use Rattle.nichols_field.specs.Pairs.{pair}
use Rattle.nichols_field.proofs.Parts.{are_parts}
use Rattle.nichols_field.proofs.field.Field.pair.Goals as goal

pub returns-in-None-clause-below : goal.returns-in-None-clause-below
unfolding parts_of
returns-in-None-clause-below c h =
    let same : parts_of c.args.self c.args.e ≡ pair c.args.e 0 = rw (← c.self.view_is, c.in-None.is) refl in
    subst (AreParts c.args.self) same (are_parts c.args.self c.args.e (subst IsField c.self.view_is c.self.invariant) h)

pub returns-in-Some-clause-below : goal.returns-in-Some-clause-below
unfolding parts_of
returns-in-Some-clause-below c h =
    let same : parts_of c.args.self c.args.e ≡ pair (c.args.e % c.self.inside.modulus) (c.args.e / c.self.inside.modulus) = rw (← c.self.view_is, c.in-Some.is) refl in
    subst (AreParts c.args.self) same (are_parts c.args.self c.args.e (subst IsField c.self.view_is c.self.invariant) h)
