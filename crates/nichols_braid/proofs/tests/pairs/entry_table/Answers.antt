use Rattle.std.proofs.lemmas.List.{map-append}
use Rattle.nichols_tensor.proofs.Over.{all-append}
use Rattle.nichols_braid.proofs.tests.pairs.entry_table.Goals as goal

pub loop-row-preserved : goal.loop-row-preserved
loop-row-preserved c = rw (c.in_ok-push.ensures.items, map-append _ c.loop-row.out.items _) (all-append _ _ _ c.loop-row.invariant (c.in_ok-entry_row.ensures, tt))
