use Rattle.nichols_braid.proofs.LeftLaws.{carried_derivations}
use Rattle.nichols_braid.proofs.laws.left.carried_derivations.Goals as goal

pub returns : goal.returns
returns c = carried_derivations
