use Rattle.nichols_core.proofs.Changed.{an_event_changes_this_alone}
use Rattle.nichols_core.proofs.laws.an_event_changes_this_alone.Goals as goal

pub returns : goal.returns
returns c = an_event_changes_this_alone
