use Rattle.nichols_braid.proofs.OrderForms.{relations_are_relabelled}
use Rattle.nichols_braid.proofs.laws.order.relations_are_relabelled.Goals as goal

pub returns : goal.returns
returns c = relations_are_relabelled
