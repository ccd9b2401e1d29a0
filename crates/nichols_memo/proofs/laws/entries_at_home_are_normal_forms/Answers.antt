use Rattle.nichols_memo.proofs.MemoLaws.{entries_at_home_are_normal_forms}
use Rattle.nichols_memo.proofs.laws.entries_at_home_are_normal_forms.Goals as goal

pub returns : goal.returns
returns c = entries_at_home_are_normal_forms
