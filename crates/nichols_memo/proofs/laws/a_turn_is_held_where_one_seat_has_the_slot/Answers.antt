use Rattle.nichols_memo.proofs.MemoLaws.{a_turn_is_held_where_one_seat_has_the_slot}
use Rattle.nichols_memo.proofs.laws.a_turn_is_held_where_one_seat_has_the_slot.Goals as goal

pub returns : goal.returns
returns c = a_turn_is_held_where_one_seat_has_the_slot
