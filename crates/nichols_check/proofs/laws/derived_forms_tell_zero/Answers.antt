use Rattle.nichols_check.proofs.RightTables.{derived_forms_tell_zero}
use Rattle.nichols_check.proofs.laws.derived_forms_tell_zero.Goals as goal

pub returns : goal.returns
returns c = derived_forms_tell_zero
