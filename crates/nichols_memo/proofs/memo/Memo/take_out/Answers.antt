use Rattle.std.proofs.Common.{arith}
use Rattle.nichols_memo.proofs.Kept.{try_allowed}
use Rattle.nichols_memo.proofs.memo.Memo.take_out.Goals as goal

pub compare_exchange-requires : goal.compare_exchange-requires
compare_exchange-requires c =
    let m = c.args.self.now in
    let r = c.requires in
    (r.table, omega (arith, m.words, r.slot), try_allowed _ _ _ _ _ (omega (arith, m.places, r.slot)) r.live r.turn)
