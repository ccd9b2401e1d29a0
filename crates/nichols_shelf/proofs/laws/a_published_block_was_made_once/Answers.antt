use Rattle.nichols_shelf.proofs.ShelfLaws.{a_published_block_was_made_once}
use Rattle.nichols_shelf.proofs.laws.a_published_block_was_made_once.Goals as goal

pub returns : goal.returns
returns c = a_published_block_was_made_once
