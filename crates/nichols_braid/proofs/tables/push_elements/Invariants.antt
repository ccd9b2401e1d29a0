use Rattle.std.proofs.Common.{◌≡◌, ◌++◌, map, take}
use Rattle.nichols_braid.specs.GivenEntries.{given_element}
use Rattle.nichols_braid.proofs.tables.push_elements.Given as goal

abbrev pub invariant-loop-entry : goal.invariant-loop-entry
invariant-loop-entry l = l.out.items ≡ l.initial.out.items ++ map (given_element l.field) (take l.entry-index l.row)
