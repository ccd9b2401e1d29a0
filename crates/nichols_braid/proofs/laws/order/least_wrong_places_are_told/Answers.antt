use Rattle.nichols_braid.proofs.OrderPlaces.{least_wrong_places_are_told}
use Rattle.nichols_braid.proofs.laws.order.least_wrong_places_are_told.Goals as goal

pub returns : goal.returns
returns c = least_wrong_places_are_told
