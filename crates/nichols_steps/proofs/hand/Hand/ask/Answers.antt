use Rattle.nichols_shelf.specs.Passes.{view_of}
use Rattle.nichols_steps.proofs.Paired.{may_ask, after_ask}
use Rattle.nichols_steps.proofs.hand.Hand.ask.Goals as goal

pub ask-asked-requires-clause-may : goal.ask-asked-requires-clause-may
ask-asked-requires-clause-may c =
    may_ask c.args.pairs.now c.args.self.now c.requires.pass c.args.pair c.requires.pair c.upper-upper.result c.upper-upper.ensures
    c.index.result.now c.index-else-not-index.result.now c.index.ensures c.if-not-index.false c.index-else-not-index.ensures c.if-index.false

pub invariant_of-self : goal.invariant_of-self
invariant_of-self c = record {
  mirrors = after_ask c.args.pairs.now c.args.self.now c.requires.pass c.args.pair c.requires.pair c.upper-upper.result c.upper-upper.ensures
      c.index.result.now c.index-knew.result.now c.is_published-published.result c.either.result c.ask-asked.result (view_of c.ask-asked.new.pass)
      c.index.ensures c.if-not-index.false c.index-knew.ensures c.ask-asked.ensures.step c.is_published-published.ensures c.either.ensures;
}
