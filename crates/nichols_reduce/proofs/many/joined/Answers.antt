use Rattle.nichols_reduce.proofs.ManyForms.{left_more}
use Rattle.nichols_reduce.proofs.many.joined.Goals as goal

pub loop-part-preserved : goal.loop-part-preserved
loop-part-preserved c =
    left_more c.args.levels.now.braid c.args.levels.now.last c.args.combs.now c.loop-part.part-iterator.rest.items c.next.new.self.rest.items c.in-Some.part c.in_ok-part.part c.loop-part.answers.items c.append.new.self.items
    c.in-Some.ensures.steps.0 c.in_ok-part.was c.in_ok-append.ensures.items c.loop-part.invariant
