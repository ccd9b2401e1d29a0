use Rattle.std.proofs.Common.{◌≡◌, ◌≤◌, ◌-◌, drop, map, take}
use Rattle.nichols_memo.specs.Seats.{IsOf}
use Rattle.nichols_reduce.specs.Normal.{normal_of}
use Rattle.nichols_reduce.proofs.many.answer.Given as goal

abbrev pub invariant-loop-k : goal.invariant-loop-k
invariant-loop-k l = record {
  seat : IsOf l.memo l.seat;
  from_start : l.start ≤ l.k;
  answers : l.answers.items ≡ map (normal_of l.levels.braid l.levels.last) (take (l.k - l.start) (drop l.start l.combs));
}
