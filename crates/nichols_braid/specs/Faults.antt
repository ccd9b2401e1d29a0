-- Why rows and scalars aren't a braid: eight kinds of fault, each looked for at all of its places in order; and the braid
-- that they are, where there is no fault.
use Rattle.std.specs.Prelude.{ℕ, suc, ◌&&◌, Bool, false, List, [], ◌∷◌, length, Option, None, Some, Result, Ok, Err, ℤ, pos, negsuc, if◌then◌else◌, nat_eq, nat_lt, nat_le}
use Rattle.std.specs.Option.{option_or, option_map}
use Rattle.nichols_field.specs.Field.{FieldValue, times, parts_of}
use Rattle.nichols_field.specs.Pairs.{Pair}
use Rattle.nichols_tensor.specs.declared.TheConstants.{LETTER_LIMIT}
use Rattle.nichols_tensor.specs.Words.{up_to}
use Rattle.nichols_braid.specs.Braid.{BraidValue, act, scalar}
use Rattle.nichols_braid.specs.Tables.{RackEntries, image}
use Rattle.nichols_braid.specs.GivenScalars.{GivenScalars, constant, table}
use Rattle.nichols_braid.specs.GivenTables.{row_at, integer_in, given_rack, given_tables}

-- what is wrong with rows and scalars; letters, rows and columns count from 1
pub data TableFault : Type 0 where
  letters : (n : ℕ) → TableFault
  rack_shape : (row : ℕ) → TableFault
  rack_entry : (row column : ℕ) (v : ℤ) → TableFault
  not_bijective : (i j k v : ℕ) → TableFault
  not_distributive : (i j k left right : ℕ) → TableFault
  cocycle_shape : (row : ℕ) → TableFault
  cocycle_zero : (i j : ℕ) → TableFault
  not_cocycle : (i j k : ℕ) (left right : Pair) → TableFault

-- ---- searches

-- the first answer along a list
abbrev pub first_answer : {X : Type 0} → (ℕ → Option X) → List ℕ → Option X
first_answer f [] = None
first_answer f (x ∷ xs) = option_or (f x) (first_answer f xs)

-- the first answer at two of n letters, in lexicographic order
abbrev pub first_pair : {X : Type 0} → ℕ → (ℕ → ℕ → Option X) → Option X
first_pair n f = first_answer (λ i. first_answer (f i) (up_to n)) (up_to n)

-- the first answer at three of n letters, in lexicographic order
abbrev pub first_triple : {X : Type 0} → ℕ → (ℕ → ℕ → ℕ → Option X) → Option X
first_triple n f = first_answer (λ i. first_pair n (f i)) (up_to n)

-- the first fault that there is, of faults in order
abbrev pub first_fault : List (Option TableFault) → Option TableFault
first_fault [] = None
first_fault (fault ∷ faults) = option_or fault (first_fault faults)

-- ---- the rows

-- there are 1 to LETTER_LIMIT rows, or else their number is a fault
unfoldable pub letters_fault : List (List ℤ) → Option TableFault
letters_fault rows = if nat_le 1 (length rows) && nat_le (length rows) LETTER_LIMIT then None else Some (letters (length rows))

-- whether row r is as in n rows of n entries: there, with n entries, where r is at most n, and not there above
abbrev pub row_fits : {X : Type 0} → ℕ → List (List X) → ℕ → Bool
row_fits n rows r = if nat_le r n then nat_le r (length rows) && nat_eq (length (row_at rows r)) n else nat_lt (length rows) r

-- the least number of a row that is missing or has not n entries, or n + 1, where a row is surplus
unfoldable pub wrong_row : {X : Type 0} → ℕ → List (List X) → Option ℕ
wrong_row n rows = first_answer (λ r. if row_fits n rows r then None else Some r) (up_to (suc n))

-- the first row that has not as many entries as there are rows
unfoldable pub rack_shape_fault : List (List ℤ) → Option TableFault
rack_shape_fault rows = option_map rack_shape (wrong_row (length rows) rows)

-- whether an integer is one of n letters
abbrev pub is_letter : ℕ → ℤ → Bool
is_letter n (pos v) = nat_le 1 v && nat_le v n
is_letter n (negsuc v) = false

-- the entry in column j of row i, where it isn't one of n letters
abbrev pub entry_fault_at : ℕ → List ℤ → ℕ → ℕ → Option TableFault
entry_fault_at n row i j = if is_letter n (integer_in row j) then None else Some (rack_entry i j (integer_in row j))

-- the first entry that is no letter
unfoldable pub rack_entry_fault : List (List ℤ) → Option TableFault
rack_entry_fault rows = first_pair (length rows) (λ i. entry_fault_at (length rows) (row_at rows i) i)

-- the first fault of the rows
abbrev pub rows_fault : List (List ℤ) → Option TableFault
rows_fault rows = first_fault (letters_fault rows ∷ rack_shape_fault rows ∷ rack_entry_fault rows ∷ [])

-- ---- the rack

-- letters j before k with one image under i
abbrev pub bijection_fault_at : RackEntries → ℕ → ℕ → ℕ → Option TableFault
bijection_fault_at rack i j k = if nat_lt j k && nat_eq (image rack i j) (image rack i k) then Some (not_bijective i j k (image rack i j)) else None

-- the first letters i, j before k with `i ▷ j = i ▷ k`
unfoldable pub bijection_fault : RackEntries → Option TableFault
bijection_fault rack = first_triple rack.letters (bijection_fault_at rack)

-- `i ▷ (j ▷ k)` and `(i ▷ j) ▷ (i ▷ k)`, where they aren't one letter
abbrev pub distributivity_fault_at : RackEntries → ℕ → ℕ → ℕ → Option TableFault
distributivity_fault_at rack i j k =
    let left : ℕ = image rack i (image rack j k) in
    let right : ℕ = image rack (image rack i j) (image rack i k) in
    if nat_eq left right then None else Some (not_distributive i j k left right)

-- the first letters i, j, k with `i ▷ (j ▷ k)` other than `(i ▷ j) ▷ (i ▷ k)`
unfoldable pub distributivity_fault : RackEntries → Option TableFault
distributivity_fault rack = first_triple rack.letters (distributivity_fault_at rack)

-- ---- the scalars

-- the first row that is missing, surplus or has not n entries; one scalar for every place has no rows
unfoldable pub cocycle_shape_fault : ℕ → GivenScalars → Option TableFault
cocycle_shape_fault n (constant e) = None
cocycle_shape_fault n (table rows) = option_map cocycle_shape (wrong_row n rows)

-- the place i, j, where its scalar is 0
abbrev pub zero_fault_at : BraidValue → ℕ → ℕ → Option TableFault
zero_fault_at braid i j = if nat_eq (scalar braid i j) 0 then Some (cocycle_zero i j) else None

-- the first scalar that is 0
unfoldable pub zero_fault : BraidValue → Option TableFault
zero_fault braid = first_pair braid.letters (zero_fault_at braid)

-- the numbers of `q(i, j ▷ k) q(j, k)` and of `q(i ▷ j, i ▷ k) q(i, k)`, where they aren't one element
abbrev pub cocycle_fault_at : BraidValue → ℕ → ℕ → ℕ → Option TableFault
cocycle_fault_at braid i j k =
    let left : ℕ = times braid.field (scalar braid i (act braid j k)) (scalar braid j k) in
    let right : ℕ = times braid.field (scalar braid (act braid i j) (act braid i k)) (scalar braid i k) in
    if nat_eq left right then None else Some (not_cocycle i j k (parts_of braid.field left) (parts_of braid.field right))

-- the first letters i, j, k with `q(i, j ▷ k) q(j, k)` other than `q(i ▷ j, i ▷ k) q(i, k)`
unfoldable pub cocycle_fault : BraidValue → Option TableFault
cocycle_fault braid = first_triple braid.letters (cocycle_fault_at braid)

-- ---- the braid

-- the first fault of rows and scalars
unfoldable pub table_fault : FieldValue → List (List ℤ) → GivenScalars → Option TableFault
table_fault field rows scalars =
    first_fault (
    letters_fault rows
    ∷ rack_shape_fault rows
    ∷ rack_entry_fault rows
    ∷ bijection_fault (given_rack rows)
    ∷ distributivity_fault (given_rack rows)
    ∷ cocycle_shape_fault (length rows) scalars
    ∷ zero_fault (given_tables field rows scalars)
    ∷ cocycle_fault (given_tables field rows scalars)
    ∷ []
    )

-- the braid with these tables, where they have no fault
abbrev pub unless_fault : Option TableFault → BraidValue → Result BraidValue TableFault
unless_fault None braid = Ok braid
unless_fault (Some fault) braid = Err fault

-- the braid that rows and scalars are, or their first fault
unfoldable pub braid_of : FieldValue → List (List ℤ) → GivenScalars → Result BraidValue TableFault
braid_of field rows scalars = unless_fault (table_fault field rows scalars) (given_tables field rows scalars)
