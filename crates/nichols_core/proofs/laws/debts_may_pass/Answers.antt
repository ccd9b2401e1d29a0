use Rattle.nichols_core.proofs.Debts.{debts_may_pass}
use Rattle.nichols_core.proofs.laws.debts_may_pass.Goals as goal

pub returns : goal.returns
returns c = debts_may_pass
