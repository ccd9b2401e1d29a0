use Rattle.nichols_braid.proofs.Permutations.{permutations_hold_each_once}
use Rattle.nichols_braid.proofs.laws.permutations_hold_each_once.Goals as goal

pub returns : goal.returns
returns c = permutations_hold_each_once
