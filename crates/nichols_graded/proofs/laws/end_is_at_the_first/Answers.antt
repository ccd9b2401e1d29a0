use Rattle.nichols_graded.proofs.StopLaws.{end_is_at_the_first}
use Rattle.nichols_graded.proofs.laws.end_is_at_the_first.Goals as goal

pub returns : goal.returns
returns c = end_is_at_the_first
