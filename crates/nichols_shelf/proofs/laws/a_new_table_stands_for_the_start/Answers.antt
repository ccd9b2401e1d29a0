use Rattle.nichols_shelf.proofs.Opened.{a_new_table_stands_for_the_start}
use Rattle.nichols_shelf.proofs.laws.a_new_table_stands_for_the_start.Goals as goal

pub returns : goal.returns
returns c = a_new_table_stands_for_the_start
