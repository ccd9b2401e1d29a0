use Rattle.std.specs.List.{AllByRecursion}
use Rattle.nichols_braid.specs.GivenEntries.{IsEntryOf}
use Rattle.nichols_braid.proofs.tests.whole_row.Given as goal

abbrev pub invariant-loop-v : goal.invariant-loop-v
invariant-loop-v l = AllByRecursion (IsEntryOf l.fn._field) l.out.items
