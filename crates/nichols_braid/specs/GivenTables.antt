-- The tables that a braid is made from: integers as they are given, and the letters and scalars that they stand for.
use Rattle.std.specs.Prelude.{ℕ, ◌-◌, ◌*◌, List, [], length, map, replicate, slice_index_or, ℤ, pos, negsuc}
use Rattle.std.specs.List.{flat_map}
use Rattle.nichols_field.specs.Field.{FieldValue}
use Rattle.nichols_braid.specs.Braid.{BraidValue}
use Rattle.nichols_braid.specs.GivenEntries.{given_element}
use Rattle.nichols_braid.specs.GivenScalars.{GivenScalars, constant, table}
use Rattle.nichols_braid.specs.Tables.{RackEntries, with_scalars}
use Rattle.nichols_braid.specs.declared.entry.Entry.{Entry}
use Rattle.nichols_braid.specs.declared.entry.Entry.TheVariants.{Whole}

-- row i; rows and columns count from 1
abbrev pub row_at : {X : Type 0} → List (List X) → ℕ → List X
row_at rows i = slice_index_or rows (i - 1) []

-- the integer in column j of a row
abbrev pub integer_in : List ℤ → ℕ → ℤ
integer_in row j = slice_index_or row (j - 1) (pos 0)

-- the integer in row i and column j
abbrev pub integer_at : List (List ℤ) → ℕ → ℕ → ℤ
integer_at rows i j = integer_in (row_at rows i) j

-- what is read outside a row of scalars
abbrev pub no_entry : Entry
no_entry = Whole (pos 0)

-- the entry given for the scalar `q(i, j)`
abbrev pub given_entry : GivenScalars → ℕ → ℕ → Entry
given_entry (constant e) i j = e
given_entry (table rows) i j = slice_index_or (row_at rows i) (j - 1) no_entry

-- an integer as a letter: itself, or 0, which is no letter, where it is below 0
abbrev pub letter_of : ℤ → ℕ
letter_of (pos v) = v
letter_of (negsuc v) = 0

-- the rack's table of the rows, with a letter for each row
abbrev pub given_rack : List (List ℤ) → RackEntries
given_rack rows = record { letters = length rows; entries = flat_map (map letter_of) rows }

-- the elements of the scalars: one at every place of n letters, or those of the rows
abbrev pub given_cocycle : FieldValue → ℕ → GivenScalars → List ℕ
given_cocycle field n (constant e) = replicate (n * n) (given_element field e)
given_cocycle field n (table rows) = flat_map (map (given_element field)) rows

-- the tables of rows and scalars
abbrev pub given_tables : FieldValue → List (List ℤ) → GivenScalars → BraidValue
given_tables field rows scalars = with_scalars field (given_rack rows) (given_cocycle field (length rows) scalars)
