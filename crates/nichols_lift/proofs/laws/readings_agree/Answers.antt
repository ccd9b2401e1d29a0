use Rattle.nichols_lift.proofs.LiftLaws.{readings_agree}
use Rattle.nichols_lift.proofs.laws.readings_agree.Goals as goal

pub returns : goal.returns
returns c = readings_agree
