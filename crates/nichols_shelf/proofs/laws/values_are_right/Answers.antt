use Rattle.nichols_shelf.proofs.ShelfLaws.{values_are_right}
use Rattle.nichols_shelf.proofs.laws.values_are_right.Goals as goal

pub returns : goal.returns
returns c = values_are_right
