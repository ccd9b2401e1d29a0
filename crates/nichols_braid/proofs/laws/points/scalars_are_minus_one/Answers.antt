use Rattle.nichols_braid.proofs.PointsLaws.{scalars_are_minus_one}
use Rattle.nichols_braid.proofs.laws.points.scalars_are_minus_one.Goals as goal

pub returns : goal.returns
returns c = scalars_are_minus_one
