use Rattle.nichols_check.proofs.RightUnrefused.{right_tables_are_unrefused}
use Rattle.nichols_check.proofs.laws.right_tables_are_unrefused.Goals as goal

pub returns : goal.returns
returns c = right_tables_are_unrefused
