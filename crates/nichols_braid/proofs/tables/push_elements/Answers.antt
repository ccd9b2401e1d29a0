use Rattle.std.proofs.lemmas.List.Elements.{All-from_recursion}
use Rattle.nichols_braid.specs.GivenEntries.{IsEntryOf}
use Rattle.nichols_braid.specs.GivenTables.{no_entry}
use Rattle.nichols_braid.proofs.tables.push_elements.Goals as goal

pub given_element-requires : goal.given_element-requires
given_element-requires c = All-from_recursion (IsEntryOf c.args.field) c.args.row.now c.requires c.loop-entry.entry-index no_entry c.loop-entry-test.true
