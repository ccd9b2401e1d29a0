use Rattle.nichols_graded.proofs.FactorLaws.{factors_multiply}
use Rattle.nichols_graded.proofs.laws.factors_multiply.Goals as goal

pub returns : goal.returns
returns c = factors_multiply
