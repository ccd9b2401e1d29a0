use Rattle.nichols_shelf.proofs.ShelfLaws.{a_laying_is_its_event}
use Rattle.nichols_shelf.proofs.laws.a_laying_is_its_event.Goals as goal

pub returns : goal.returns
returns c = a_laying_is_its_event
