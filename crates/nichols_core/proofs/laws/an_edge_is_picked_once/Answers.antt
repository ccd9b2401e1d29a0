use Rattle.nichols_core.proofs.RunsKept.{an_edge_is_picked_once}
use Rattle.nichols_core.proofs.laws.an_edge_is_picked_once.Goals as goal

pub returns : goal.returns
returns c = an_edge_is_picked_once
