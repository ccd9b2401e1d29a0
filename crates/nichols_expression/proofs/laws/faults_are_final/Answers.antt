use Rattle.nichols_expression.proofs.FaultLaws.{faults_are_final}
use Rattle.nichols_expression.proofs.laws.faults_are_final.Goals as goal

pub returns : goal.returns
returns c = faults_are_final
