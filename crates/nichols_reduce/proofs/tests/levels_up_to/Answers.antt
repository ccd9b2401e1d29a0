use Rattle.nichols_reduce.proofs.WholeLevels.{first_is_whole}
use Rattle.nichols_reduce.proofs.tests.levels_up_to.Goals as goal

pub loop-step-init : goal.loop-step-init
loop-step-init c = first_is_whole c.in_ok-levels.levels.braid c.in_ok-levels.levels.last c.in_ok-levels.ensures.last
