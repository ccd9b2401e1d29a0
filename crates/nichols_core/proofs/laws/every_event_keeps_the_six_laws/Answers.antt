use Rattle.nichols_core.proofs.Events.{every_event_keeps_the_six_laws}
use Rattle.nichols_core.proofs.laws.every_event_keeps_the_six_laws.Goals as goal

pub returns : goal.returns
returns c = every_event_keeps_the_six_laws
