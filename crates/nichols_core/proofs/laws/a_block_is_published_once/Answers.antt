use Rattle.nichols_core.proofs.RunsKept.{a_block_is_published_once}
use Rattle.nichols_core.proofs.laws.a_block_is_published_once.Goals as goal

pub returns : goal.returns
returns c = a_block_is_published_once
