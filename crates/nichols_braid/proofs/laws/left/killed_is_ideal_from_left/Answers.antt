use Rattle.nichols_braid.proofs.LeftLaws.{killed_is_ideal_from_left}
use Rattle.nichols_braid.proofs.laws.left.killed_is_ideal_from_left.Goals as goal

pub returns : goal.returns
returns c = killed_is_ideal_from_left
