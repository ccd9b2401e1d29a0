use Rattle.std.specs.Prelude.{map}
use Rattle.std.specs.List.{AllByRecursion}
use Rattle.nichols_braid.specs.GivenEntries.{IsEntryOf}
use Rattle.nichols_braid.proofs.tests.pairs.entry_table.Given as goal

abbrev pub invariant-loop-row : goal.invariant-loop-row
invariant-loop-row l = AllByRecursion (AllByRecursion (IsEntryOf l.field)) (map (λ row. row.items) l.out.items)
