use Rattle.nichols_core.proofs.RunsKept.{a_block_has_one_holder}
use Rattle.nichols_core.proofs.laws.a_block_has_one_holder.Goals as goal

pub returns : goal.returns
returns c = a_block_has_one_holder
