use Rattle.std.proofs.Common.{arith}
use Rattle.nichols_memo.proofs.Kept.{splits}
use Rattle.nichols_memo.proofs.memo.Memo.split.Goals as goal

pub split_seat-place-requires : goal.split_seat-place-requires
split_seat-place-requires c = let m = c.args.self.now in (c.requires.seat.0, omega (arith, m.words, m.some), splits _ _ _ c.args.seat.now.live)
