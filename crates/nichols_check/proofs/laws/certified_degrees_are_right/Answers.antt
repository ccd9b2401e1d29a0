use Rattle.nichols_check.proofs.CertifiedDegrees.{certified_degrees_are_right}
use Rattle.nichols_check.proofs.laws.certified_degrees_are_right.Goals as goal

pub returns : goal.returns
returns c = certified_degrees_are_right
