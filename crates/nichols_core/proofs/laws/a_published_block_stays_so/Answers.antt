use Rattle.nichols_core.proofs.RunsKept.{a_published_block_stays_so}
use Rattle.nichols_core.proofs.laws.a_published_block_stays_so.Goals as goal

pub returns : goal.returns
returns c = a_published_block_stays_so
