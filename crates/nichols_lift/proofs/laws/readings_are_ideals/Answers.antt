use Rattle.nichols_lift.proofs.LiftLaws.{readings_are_ideals}
use Rattle.nichols_lift.proofs.laws.readings_are_ideals.Goals as goal

pub returns : goal.returns
returns c = readings_are_ideals
