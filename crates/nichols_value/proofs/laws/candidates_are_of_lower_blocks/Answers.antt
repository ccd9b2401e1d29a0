use Rattle.nichols_value.proofs.ValueLaws.{candidates_are_of_lower_blocks}
use Rattle.nichols_value.proofs.laws.candidates_are_of_lower_blocks.Goals as goal

pub returns : goal.returns
returns c = candidates_are_of_lower_blocks
