use Rattle.nichols_check.proofs.RightTables.{passing_tables_are_right}
use Rattle.nichols_check.proofs.laws.passing_tables_are_right.Goals as goal

pub returns : goal.returns
returns c = passing_tables_are_right
