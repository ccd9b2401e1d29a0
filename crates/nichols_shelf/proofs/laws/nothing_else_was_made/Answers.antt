use Rattle.nichols_shelf.proofs.ShelfLaws.{nothing_else_was_made}
use Rattle.nichols_shelf.proofs.laws.nothing_else_was_made.Goals as goal

pub returns : goal.returns
returns c = nothing_else_was_made
