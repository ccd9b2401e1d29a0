use Rattle.nichols_shelf.proofs.OneState.{a_table_stands_for_one_state}
use Rattle.nichols_shelf.proofs.laws.a_table_stands_for_one_state.Goals as goal

pub returns : goal.returns
returns c = a_table_stands_for_one_state
