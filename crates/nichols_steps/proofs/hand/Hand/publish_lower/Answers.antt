use Rattle.nichols_shelf.specs.Passes.{view_of}
use Rattle.nichols_steps.proofs.Paired.{after_lower}
use Rattle.nichols_steps.proofs.hand.Hand.publish_lower.Goals as goal

pub invariant_of-self : goal.invariant_of-self
invariant_of-self c = record {
  mirrors = after_lower c.args.pairs.now c.args.self.now c.requires.pass c.args.pair c.requires.pair c.upper-upper.result c.upper-upper.ensures
      c.index-was.result.now c.has_letter-parked.result c.either.result c.publish-bits.result (view_of c.publish-bits.new.pass)
      c.index-was.ensures c.publish-bits.ensures.step c.has_letter-parked.ensures c.either.ensures;
}
