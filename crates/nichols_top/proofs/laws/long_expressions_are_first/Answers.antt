use Rattle.nichols_top.proofs.LongLaws.{long_expressions_are_first}
use Rattle.nichols_top.proofs.laws.long_expressions_are_first.Goals as goal

pub returns : goal.returns
returns c = long_expressions_are_first
