use Rattle.nichols_braid.proofs.PointsLaws.{points_are_braids}
use Rattle.nichols_braid.proofs.laws.points.points_are_braids.Goals as goal

pub returns : goal.returns
returns c = points_are_braids
