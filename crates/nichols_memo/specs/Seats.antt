-- Memos and seats as their callers see them.
use Rattle.std.specs.Prelude.{◌≡◌, ℕ}
use Rattle.nichols_braid.specs.Braid.{BraidValue}
use Rattle.nichols_memo.specs.declared.view.View.{View}
use Rattle.nichols_memo.specs.declared.memo.Memo.{Memo}
use Rattle.nichols_memo.specs.declared.memo.MemoSeat.{MemoSeat}

-- the braid in which the forms of a memo are normal, and its number of slots
abbrev pub braid_of : Memo → BraidValue
braid_of m = m.board.shared.key

abbrev pub slots_of : Memo → ℕ
slots_of m = m.slots

-- what a seat shows, and how many hits it had
abbrev pub view_of : MemoSeat → View
view_of seat = seat.place.me.0

abbrev pub hits_of : MemoSeat → ℕ
hits_of seat = seat.hits

-- the seat is one of this memo
abbrev pub IsOf : Memo → MemoSeat → Type 0
IsOf m seat = (seat.place.table_id ≡ m.board.shared.table_id) × ((view_of seat).braid ≡ braid_of m)
