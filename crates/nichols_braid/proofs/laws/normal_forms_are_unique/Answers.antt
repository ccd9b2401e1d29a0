use Rattle.nichols_braid.proofs.LeastLaws.{normal_forms_are_unique}
use Rattle.nichols_braid.proofs.laws.normal_forms_are_unique.Goals as goal

pub returns : goal.returns
returns c = normal_forms_are_unique
