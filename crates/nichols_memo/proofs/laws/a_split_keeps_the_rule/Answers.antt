use Rattle.nichols_memo.proofs.MemoLaws.{a_split_keeps_the_rule}
use Rattle.nichols_memo.proofs.laws.a_split_keeps_the_rule.Goals as goal

pub returns : goal.returns
returns c = a_split_keeps_the_rule
