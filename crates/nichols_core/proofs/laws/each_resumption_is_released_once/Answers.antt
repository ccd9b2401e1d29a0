use Rattle.nichols_core.proofs.RunsKept.{each_resumption_is_released_once}
use Rattle.nichols_core.proofs.laws.each_resumption_is_released_once.Goals as goal

pub returns : goal.returns
returns c = each_resumption_is_released_once
