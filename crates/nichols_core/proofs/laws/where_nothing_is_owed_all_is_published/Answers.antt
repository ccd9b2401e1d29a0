use Rattle.nichols_core.proofs.RunsKept.{where_nothing_is_owed_all_is_published}
use Rattle.nichols_core.proofs.laws.where_nothing_is_owed_all_is_published.Goals as goal

pub returns : goal.returns
returns c = where_nothing_is_owed_all_is_published
