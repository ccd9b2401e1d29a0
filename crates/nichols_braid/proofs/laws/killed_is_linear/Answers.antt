use Rattle.nichols_braid.proofs.BraidLaws.{killed_is_linear}
use Rattle.nichols_braid.proofs.laws.killed_is_linear.Goals as goal

pub returns : goal.returns
returns c = killed_is_linear
