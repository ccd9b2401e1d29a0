use Rattle.std.proofs.Common.{◌≤◌, ◌-◌, length}
use Rattle.nichols_memo.specs.Seats.{IsOf}
use Rattle.nichols_reduce.specs.Shares.{AreShares}
use Rattle.nichols_reduce.proofs.many.shares.Given as goal

abbrev pub invariant-loop-start : goal.invariant-loop-start
invariant-loop-start l = record {
  seat : IsOf l.memo l.seat;
  within : l.start ≤ length l.combs;
  shares : AreShares l.memo 0 l.shares.items l.start;
}

abbrev pub decreases-loop-start : goal.decreases-loop-start
decreases-loop-start l = length l.combs - l.start
