use Rattle.std.proofs.Common.{arith}
use Rattle.nichols_shelf.proofs.JoinedAll.{owes_nothing_at_end}
use Rattle.nichols_shelf.proofs.shelf.Shelf.join_all.Goals as goal

pub returns-clause-owes : goal.returns-clause-owes
returns-clause-owes c own none =
    let v = c.args.pass.now.place.me.0 in
    let i = c.loop-other.invariant in
    owes_nothing_at_end c.args.self.now v.joined v c.loop-other.pass.place.me.0 c.args.others.items c.loop-other.other-iterator.rest.items
    (let none_left = c.in-None.ensures.steps.0 in omega (arith, none_left)) i.view c.requires.pass.1 c.requires.numbered own none
