use Rattle.std.proofs.Common.{◌+◌, refl}
use Rattle.nichols_steps.proofs.Paired.{may_lay}
use Rattle.nichols_steps.proofs.hand.Hand.lay.Goals as goal

pub lay-requires-clause-may : goal.lay-requires-clause-may
lay-requires-clause-may c =
    may_lay c.args.pairs.now c.args.self.now c.requires.pass c.args.pair c.requires.pair (c.args.pairs.now.count + c.args.pair) refl
    c.index.result.now c.index-else-not-index.result.now c.index.ensures c.if-not-index.false c.index-else-not-index.ensures c.if-index.false
