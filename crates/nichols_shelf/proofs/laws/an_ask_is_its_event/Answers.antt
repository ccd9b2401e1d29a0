use Rattle.nichols_shelf.proofs.ShelfLaws.{an_ask_is_its_event}
use Rattle.nichols_shelf.proofs.laws.an_ask_is_its_event.Goals as goal

pub returns : goal.returns
returns c = an_ask_is_its_event
