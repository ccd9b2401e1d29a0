use Rattle.std.proofs.Common.{arith}
use Rattle.nichols_memo.proofs.Kept.{joins}
use Rattle.nichols_memo.proofs.memo.Memo.join.Goals as goal

pub join_seat-requires : goal.join_seat-requires
join_seat-requires c = let m = c.args.self.now in (c.requires.seat.0, c.requires.other.0, c.args.other.slots, omega (arith, m.words, m.some), joins _ _ _ _ _ c.args.other.turn)
