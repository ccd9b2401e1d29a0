use Rattle.nichols_lift.proofs.LiftLaws.{reduced_lists_agree}
use Rattle.nichols_lift.proofs.laws.reduced_lists_agree.Goals as goal

pub returns : goal.returns
returns c = reduced_lists_agree
