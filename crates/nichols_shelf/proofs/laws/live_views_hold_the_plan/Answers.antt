use Rattle.nichols_shelf.proofs.OneState.{live_views_hold_the_plan}
use Rattle.nichols_shelf.proofs.laws.live_views_hold_the_plan.Goals as goal

pub returns : goal.returns
returns c = live_views_hold_the_plan
