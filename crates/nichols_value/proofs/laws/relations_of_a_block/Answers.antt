use Rattle.nichols_value.proofs.ValueLaws.{relations_of_a_block}
use Rattle.nichols_value.proofs.laws.relations_of_a_block.Goals as goal

pub returns : goal.returns
returns c = relations_of_a_block
