use Rattle.nichols_shelf.proofs.ShelfLaws.{a_block_has_one_value}
use Rattle.nichols_shelf.proofs.laws.a_block_has_one_value.Goals as goal

pub returns : goal.returns
returns c = a_block_has_one_value
