use Rattle.nichols_lift.proofs.Perms.{descents_start, descents_on, descent_found, descents_end}
use Rattle.nichols_lift.proofs.perm.descent_in.Goals as goal

pub loop-i-init : goal.loop-i-init
loop-i-init c = descents_start c.args.ends.now

pub returns-then-ends-i : goal.returns-then-ends-i
returns-then-ends-i c = descent_found c.args.ends.now c.loop-i.i c.loop-i.auto.i c.loop-i-test.true c.if-ends-i.true c.loop-i.invariant

pub loop-i-preserved : goal.loop-i-preserved
loop-i-preserved c = descents_on c.args.ends.now c.loop-i.i c.loop-i.auto.i c.loop-i-test.true c.if-ends-i.false c.loop-i.invariant

pub returns : goal.returns
returns c = descents_end c.args.ends.now c.loop-i.i c.loop-i.auto.i c.loop-i-test.false c.loop-i.invariant
