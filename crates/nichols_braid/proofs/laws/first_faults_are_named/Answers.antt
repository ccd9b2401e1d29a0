use Rattle.nichols_braid.proofs.NamedFaults.{first_faults_are_named}
use Rattle.nichols_braid.proofs.laws.first_faults_are_named.Goals as goal

pub returns : goal.returns
returns c = first_faults_are_named
