use Rattle.nichols_value.proofs.ValueLaws.{left_lower_blocks_are_by_first_letters}
use Rattle.nichols_value.proofs.laws.left_lower_blocks_are_by_first_letters.Goals as goal

pub returns : goal.returns
returns c = left_lower_blocks_are_by_first_letters
