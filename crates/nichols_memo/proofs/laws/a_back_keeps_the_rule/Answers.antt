use Rattle.nichols_memo.proofs.MemoLaws.{a_back_keeps_the_rule}
use Rattle.nichols_memo.proofs.laws.a_back_keeps_the_rule.Goals as goal

pub returns : goal.returns
returns c = a_back_keeps_the_rule
