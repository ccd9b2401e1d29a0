use Rattle.nichols_braid.proofs.OrderForms.{normal_forms_are_relabelled as law}
use Rattle.nichols_braid.proofs.laws.order.normal_forms_are_relabelled.Goals as goal

pub returns : goal.returns
returns c = law
