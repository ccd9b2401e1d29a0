-- The scalars that a braid is made from, as contracts see them.
use Rattle.std.specs.Prelude.{List, map}
use Rattle.std.specs.List.{AllByRecursion}
use Rattle.nichols_field.specs.Field.{FieldValue}
use Rattle.nichols_braid.specs.GivenEntries.{IsEntryOf}
use Rattle.nichols_braid.specs.declared.entry.Entry.{Entry}
use Rattle.nichols_braid.specs.declared.tables.Scalars.{Scalars}
use Rattle.nichols_braid.specs.declared.tables.Scalars.TheVariants.{Constant, Table}

-- one scalar for every place, or rows of them
pub data GivenScalars : Type 0 where
  constant : Entry → GivenScalars
  table : List (List Entry) → GivenScalars

-- the scalars that a value of `Scalars` gives
abbrev pub given_scalars : Scalars → GivenScalars
given_scalars (Constant v) = constant v
given_scalars (Table rows) = table (map (λ row. row.items) rows.items)

-- each entry stands for an element
abbrev pub AreEntriesOf : FieldValue → GivenScalars → Type 0
AreEntriesOf field (constant e) = IsEntryOf field e
AreEntriesOf field (table rows) = AllByRecursion (AllByRecursion (IsEntryOf field)) rows
