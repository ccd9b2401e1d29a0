-- What the program holds of a document, before its field is known.
use Rattle.std.specs.Prelude.{◌≡◌, ℕ, Bool, true, List, map, option_map, ⊤}
use Rattle.std.specs.List.{AllByRecursion}
use Rattle.nichols_braid.specs.GivenScalars.{GivenScalars, constant, table, given_scalars}
use Rattle.nichols_braid.specs.declared.entry.Entry.{Entry}
use Rattle.nichols_braid.specs.declared.entry.Entry.TheVariants.{Whole, Pair}
use Rattle.nichols_input.specs.Document.{Given}
use Rattle.nichols_input.specs.declared.document.GivenTables.{GivenTables}

-- there are pairs only with an extension
abbrev pub IsEntryIf : Bool → Entry → Type 0
IsEntryIf extended (Whole v) = ⊤
IsEntryIf extended (Pair u v) = extended ≡ true

abbrev pub AreEntriesIf : Bool → GivenScalars → Type 0
AreEntriesIf extended (constant e) = IsEntryIf extended e
AreEntriesIf extended (table rows) = AllByRecursion (AllByRecursion (IsEntryIf extended)) rows

-- what is given, with these texts
abbrev pub given_in : GivenTables → List (List ℕ) → Given
given_in g texts = record {
  modulus = g.modulus;
  extension = g.extension;
  rows = map (λ row. row.items) g.rack.items;
  scalars = given_scalars g.scalars;
  order = option_map (λ v. v.items) g.order;
  texts = texts;
}
