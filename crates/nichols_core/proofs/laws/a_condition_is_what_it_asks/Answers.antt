use Rattle.nichols_core.proofs.Conditions.{a_condition_is_what_it_asks}
use Rattle.nichols_core.proofs.laws.a_condition_is_what_it_asks.Goals as goal

pub returns : goal.returns
returns c = a_condition_is_what_it_asks
