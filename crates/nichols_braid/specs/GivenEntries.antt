-- What the entries of scalars stand for.
use Rattle.std.specs.Prelude.{ℕ, IsTrue, ⊤}
use Rattle.nichols_field.specs.Field.{FieldValue, is_extended, residue, joined}
use Rattle.nichols_braid.specs.declared.entry.Entry.{Entry}
use Rattle.nichols_braid.specs.declared.entry.Entry.TheVariants.{Whole, Pair}

-- the element that an entry stands for
unfoldable pub given_element : FieldValue → Entry → ℕ
given_element field (Whole v) = residue field v
given_element field (Pair u v) = joined field u v

-- a pair stands for an element only where the field has an extension
abbrev pub IsEntryOf : FieldValue → Entry → Type 0
IsEntryOf field (Whole v) = ⊤
IsEntryOf field (Pair u v) = IsTrue (is_extended field)
