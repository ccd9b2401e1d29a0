use Rattle.nichols_graded.proofs.FactorLaws.{factors_are_greatest}
use Rattle.nichols_graded.proofs.laws.factors_are_greatest.Goals as goal

pub returns : goal.returns
returns c = factors_are_greatest
