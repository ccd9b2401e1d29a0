use Rattle.nichols_core.proofs.RunsKept.{every_run_meets_the_six_laws}
use Rattle.nichols_core.proofs.laws.every_run_meets_the_six_laws.Goals as goal

pub returns : goal.returns
returns c = every_run_meets_the_six_laws
