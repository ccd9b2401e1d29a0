use Rattle.std.proofs.Common.{◌≡◌, ◌+◌, ◌*◌, sym, ap, subst}
use Rattle.nichols_field.specs.Field.{FieldValue, IsElement, element_of}
use Rattle.nichols_field.specs.Pairs.{pair}
use Rattle.nichols_field.proofs.Parts.{element_of_is_element}
use Rattle.nichols_field.proofs.field.Field.join.Goals as goal

pub returns-clause-element : goal.returns-clause-element
unfolding element_of
returns-clause-element c =
    let same : c.self.inside.modulus ≡ c.args.self.modulus = ap (λ (k : FieldValue). k.modulus) c.self.view_is in
    subst (λ n. IsElement c.args.self (c.args.u + n * c.args.v)) (sym same) (element_of_is_element c.args.self (pair c.args.u c.args.v) c.requires)
