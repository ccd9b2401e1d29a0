use Rattle.nichols_value.proofs.ValueLaws.{wide_blocks_are_over}
use Rattle.nichols_value.proofs.laws.wide_blocks_are_over.Goals as goal

pub returns : goal.returns
returns c = wide_blocks_are_over
