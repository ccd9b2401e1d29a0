use Rattle.nichols_echelon.proofs.Kept.{minus_inverse}
use Rattle.nichols_echelon.proofs.echelon.minus_inverse.Goals as goal

pub returns-clause-inverse : goal.returns-clause-inverse
returns-clause-inverse c =
    minus_inverse c.args.field c.modulus-modulus.ensures.field c.args.coefficient c.inv.result c.neg.result c.inv.ensures.element c.inv.ensures.inverse c.neg.ensures.negative
