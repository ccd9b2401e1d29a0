use Rattle.nichols_shelf.proofs.ShelfLaws.{a_join_passes_debts}
use Rattle.nichols_shelf.proofs.laws.a_join_passes_debts.Goals as goal

pub returns : goal.returns
returns c = a_join_passes_debts
