use Rattle.std.proofs.Common.{sym, arith}
use Rattle.nichols_core.specs.States.{mark_at}
use Rattle.nichols_core.proofs.Entries.{none_picked_within, one_picked_within}
use Rattle.nichols_core.proofs.around.none_picked.Goals as goal

pub returns-then-picked-i : goal.returns-then-picked-i
returns-then-picked-i c =
    let at = c.entries-first.result in
    sym (one_picked_within c.args.layout.now.edges c.args.block at.0 at.1 c.entries-first.ensures.bound c.entries-first.ensures.entries (mark_at c.args.picked.now)
    c.loop-i.i c.loop-i.auto.i c.loop-i-test.true c.if-picked-i.true)

pub returns : goal.returns
returns c =
    let at = c.entries-first.result in
    sym (none_picked_within c.args.layout.now.edges c.args.block at.0 at.1 c.entries-first.ensures.bound c.entries-first.ensures.entries (mark_at c.args.picked.now)
    (λ k late early. c.loop-i.invariant k late (omega arith)))
