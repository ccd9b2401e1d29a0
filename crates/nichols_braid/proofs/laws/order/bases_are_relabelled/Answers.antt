use Rattle.nichols_braid.proofs.OrderForms.{bases_are_relabelled as law}
use Rattle.nichols_braid.proofs.laws.order.bases_are_relabelled.Goals as goal

pub returns : goal.returns
returns c = law
