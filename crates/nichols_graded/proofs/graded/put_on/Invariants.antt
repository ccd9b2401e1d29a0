use Rattle.std.proofs.Common.{◌≡◌, ◌+◌, drop}
use Rattle.nichols_graded.proofs.graded.put_on.Given as goal

abbrev pub invariant-loop : goal.invariant-loop
invariant-loop l = record {
  braid : l.levels.braid ≡ l.fn.levels.braid;
  last : l.levels.last ≡ l.fn.levels.last + l.counter;
  spare : l.levels.spare + l.counter ≡ l.fn.levels.spare;
  lists : l.lists.items ≡ drop l.counter l.fn.lists.items;
  values : l.values.items ≡ drop l.counter l.fn.values.items;
}
