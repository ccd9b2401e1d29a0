use Rattle.nichols_braid.proofs.EndLaws.{an_end_is_reached}
use Rattle.nichols_braid.proofs.laws.an_end_is_reached.Goals as goal

pub returns : goal.returns
returns g c = an_end_is_reached _
