use Rattle.nichols_shelf.specs.Passes.{view_of}
use Rattle.nichols_steps.proofs.Paired.{after_upper}
use Rattle.nichols_steps.proofs.hand.Hand.publish_upper.Goals as goal

pub invariant_of-self : goal.invariant_of-self
invariant_of-self c = record {
  mirrors = after_upper c.args.pairs.now c.args.self.now c.requires.pass c.args.pair c.requires.pair c.upper-upper.result c.upper-upper.ensures
      c.publish-none.result (view_of c.publish-none.new.pass) c.publish-none.ensures.step;
}
