use Rattle.nichols_expression.proofs.FaultLaws.{faults_have_places}
use Rattle.nichols_expression.proofs.laws.faults_have_places.Goals as goal

pub returns : goal.returns
returns c = faults_have_places
