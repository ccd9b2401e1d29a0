use Rattle.std.proofs.Common.{arith}
use Rattle.nichols_shelf.proofs.Split.{splits}
use Rattle.nichols_shelf.proofs.shelf.Shelf.split.Goals as goal

pub split_seat-place-requires : goal.split_seat-place-requires
split_seat-place-requires c =
    let s = c.args.self.now in
    let p = c.args.pass.now in
    let words = s.words in
    (c.requires.pass.0, omega arith, splits _ _ _ p.stored.live c.requires.zeroth)
