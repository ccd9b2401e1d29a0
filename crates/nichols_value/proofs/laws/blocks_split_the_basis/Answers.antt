use Rattle.nichols_value.proofs.ValueLaws.{blocks_split_the_basis}
use Rattle.nichols_value.proofs.laws.blocks_split_the_basis.Goals as goal

pub returns : goal.returns
returns c = blocks_split_the_basis
