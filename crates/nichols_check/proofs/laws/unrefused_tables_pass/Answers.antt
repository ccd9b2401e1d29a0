use Rattle.nichols_check.proofs.Unrefused.{unrefused_tables_pass}
use Rattle.nichols_check.proofs.laws.unrefused_tables_pass.Goals as goal

pub returns : goal.returns
returns c = unrefused_tables_pass
