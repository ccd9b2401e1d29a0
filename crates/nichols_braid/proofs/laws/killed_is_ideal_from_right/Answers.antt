use Rattle.nichols_braid.proofs.BraidLaws.{killed_is_ideal_from_right}
use Rattle.nichols_braid.proofs.laws.killed_is_ideal_from_right.Goals as goal

pub returns : goal.returns
returns c = killed_is_ideal_from_right
