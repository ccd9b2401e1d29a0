use Rattle.nichols_braid.proofs.EndLaws.{finished_degrees}
use Rattle.nichols_braid.proofs.laws.finished_degrees.Goals as goal

pub returns : goal.returns
returns g c = finished_degrees _
