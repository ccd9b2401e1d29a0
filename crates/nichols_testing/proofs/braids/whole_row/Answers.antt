use Rattle.nichols_tensor.proofs.Over.{all-append}
use Rattle.nichols_testing.proofs.braids.whole_row.Goals as goal

pub loop-v-preserved : goal.loop-v-preserved
loop-v-preserved c = rw c.in_ok-push.ensures.items (all-append _ c.loop-v.out.items _ c.loop-v.invariant (tt, tt))
