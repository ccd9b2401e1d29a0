use Rattle.nichols_value.proofs.ValueLaws.{lower_blocks_are_by_last_letters}
use Rattle.nichols_value.proofs.laws.lower_blocks_are_by_last_letters.Goals as goal

pub returns : goal.returns
returns c = lower_blocks_are_by_last_letters
