use Rattle.nichols_braid.proofs.AsGiven.{accepted_tables_are_braids}
use Rattle.nichols_braid.proofs.laws.accepted_tables_are_braids.Goals as goal

pub returns : goal.returns
returns c = accepted_tables_are_braids
