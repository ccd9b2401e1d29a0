use Rattle.nichols_core.proofs.EdgesFound.{an_edge_is_found_by_its_letter}
use Rattle.nichols_core.proofs.laws.an_edge_is_found_by_its_letter.Goals as goal

pub returns : goal.returns
returns c = an_edge_is_found_by_its_letter
