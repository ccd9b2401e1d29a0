use Rattle.nichols_shelf.specs.Passes.{view_of}
use Rattle.nichols_steps.proofs.Paired.{after_release}
use Rattle.nichols_steps.proofs.hand.Hand.release.Goals as goal

pub invariant_of-self : goal.invariant_of-self
invariant_of-self c = record {
  mirrors = after_release c.args.pairs.now c.args.self.now c.requires.pass c.args.pair c.requires.pair c.upper-upper.result c.upper-upper.ensures
      (view_of c.release.new.pass) c.release.ensures.step;
}
