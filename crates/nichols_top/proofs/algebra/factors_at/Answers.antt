use Rattle.std.proofs.Common.{subst}
use Rattle.nichols_top.specs.Ended.{HasEnd}
use Rattle.nichols_top.proofs.EndLines.{closed_is_empty}
use Rattle.nichols_top.proofs.algebra.factors_at.Goals as goal

pub factors-requires : goal.factors-requires
factors-requires c = closed_is_empty c.args.graded.now c.levels-levels.ensures.graded (subst (HasEnd c.args.graded.now) c.in-None.is c.requires)
