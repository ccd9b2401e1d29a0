use Rattle.nichols_memo.proofs.MemoLaws.{a_new_memo_is_empty}
use Rattle.nichols_memo.proofs.laws.a_new_memo_is_empty.Goals as goal

pub returns : goal.returns
returns c = a_new_memo_is_empty
