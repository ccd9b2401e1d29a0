use Rattle.nichols_core.proofs.Debts.{a_worker_may_take_over_debts}
use Rattle.nichols_core.proofs.laws.a_worker_may_take_over_debts.Goals as goal

pub returns : goal.returns
returns c = a_worker_may_take_over_debts
