use Rattle.nichols_core.proofs.RunsKept.{each_parking_is_resumed_once}
use Rattle.nichols_core.proofs.laws.each_parking_is_resumed_once.Goals as goal

pub returns : goal.returns
returns c = each_parking_is_resumed_once
