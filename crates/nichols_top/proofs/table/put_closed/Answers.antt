use Rattle.std.proofs.Common.{subst}
use Rattle.nichols_top.specs.Ended.{HasEnd}
use Rattle.nichols_top.proofs.EndLines.{closed_is_empty}
use Rattle.nichols_top.proofs.table.put_closed.Goals as goal

pub put_products-requires : goal.put_products-requires
put_products-requires g c = record { closed = closed_is_empty c.args.ended.now.graded c.levels-levels.ensures.graded (subst (HasEnd c.args.ended.now.graded) c.in-None.is c.requires.reached) }
