use Rattle.nichols_braid.proofs.OrderedPairs.{none_from_itself}
use Rattle.nichols_braid.proofs.transposition.push_above.Goals as goal

pub loop-b-init : goal.loop-b-init
loop-b-init c = none_from_itself c.args.a c.args.out.now.items
