use Rattle.nichols_cover.proofs.Dimensions.{cover_of_a_braid}
use Rattle.nichols_cover.proofs.laws.cover_of_a_braid.Goals as goal

pub returns : goal.returns
returns c = cover_of_a_braid
