use Rattle.nichols_memo.proofs.MemoLaws.{live_seats_hold_one_braid}
use Rattle.nichols_memo.proofs.laws.live_seats_hold_one_braid.Goals as goal

pub returns : goal.returns
returns c = live_seats_hold_one_braid
