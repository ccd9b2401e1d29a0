-- What the laws of the tables say: what is accepted is exactly the braids as they are given, and of the others the first fault
-- is named.
use Rattle.std.specs.Prelude.{◌≡◌, ◌≢◌, ℕ, suc, ◌<◌, ◌⊎◌, List, [], ◌∷◌, length, ℤ, pos, Ok, Err, ⊤}
use Rattle.std.specs.List.{AllByRecursion}
use Rattle.std.specs.Ordering.{nat_cmp}
use Rattle.std.specs.Cmp.Lexicographic.{slice_cmp}
use Rattle.std.specs.declared.cmp.Ordering.TheVariants.{Less}
use Rattle.nichols_field.specs.Field.{FieldValue, IsField, times, parts_of}
use Rattle.nichols_tensor.specs.declared.TheConstants.{LETTER_LIMIT}
use Rattle.nichols_tensor.specs.Words.{IsLetterOf}
use Rattle.nichols_braid.specs.Braid.{BraidValue, IsBraid, IsLetter, act, scalar}
use Rattle.nichols_braid.specs.GivenEntries.{given_element}
use Rattle.nichols_braid.specs.GivenScalars.{GivenScalars, constant, table, AreEntriesOf}
use Rattle.nichols_braid.specs.GivenTables.{row_at, integer_at, given_entry, given_tables}
use Rattle.nichols_braid.specs.Faults.{TableFault, letters, rack_shape, rack_entry, not_bijective, not_distributive, cocycle_shape, cocycle_zero, not_cocycle, braid_of}

-- ---- what is accepted

-- n rows with n entries each
abbrev pub IsSquare : {X : Type 0} → ℕ → List (List X) → Type 0
IsSquare n rows = (length rows ≡ n) × AllByRecursion (λ row. length row ≡ n) rows

-- one scalar for every place, or n rows with n entries each
abbrev pub HasPlaces : ℕ → GivenScalars → Type 0
HasPlaces n (constant e) = ⊤
HasPlaces n (table rows) = IsSquare n rows

-- a braid over the field with a letter for each row, which has the given letters and scalars at their places
pub record IsAsGiven (field : FieldValue) (rows : List (List ℤ)) (given : GivenScalars) (braid : BraidValue) : Type 0 where
  pub lawful : IsBraid braid
  pub over : braid.field ≡ field
  pub letters : IsSquare braid.letters rows
  pub scalars : HasPlaces braid.letters given
  pub rack : (i j : ℕ) → IsLetter braid i → IsLetter braid j → pos (act braid i j) ≡ integer_at rows i j
  pub cocycle : (i j : ℕ) → IsLetter braid i → IsLetter braid j → scalar braid i j ≡ given_element field (given_entry given i j)

-- what is accepted is a braid, over the given field, with the given letters and scalars
abbrev pub AcceptedTablesAreBraids : Type 0
AcceptedTablesAreBraids =
    (field : FieldValue) → IsField field → (rows : List (List ℤ)) (given : GivenScalars) → AreEntriesOf field given → (braid : BraidValue) → braid_of field rows given ≡ Ok braid → IsAsGiven field rows given braid

-- a braid over the field that is as given is what is accepted
abbrev pub BraidsAreAccepted : Type 0
BraidsAreAccepted =
    (field : FieldValue) → IsField field → (rows : List (List ℤ)) (given : GivenScalars) (braid : BraidValue) → IsAsGiven field rows given braid → braid_of field rows given ≡ Ok braid

-- ---- what is named

-- row r is missing from n rows of n entries or has not n entries, or it is surplus, after them
abbrev pub IsWrongRow : {X : Type 0} → ℕ → List (List X) → ℕ → Type 0
IsWrongRow n rows r = (IsLetterOf n r × ((length rows < r) ⊎ (length (row_at rows r) ≢ n))) ⊎ ((r ≡ suc n) × (n < length rows))

-- row r of scalars is wrong so; one scalar for every place has no rows
abbrev pub IsWrongScalarRow : ℕ → GivenScalars → ℕ → Type 0
IsWrongScalarRow n (constant e) r = ⊥
IsWrongScalarRow n (table rows) r = IsWrongRow n rows r

-- what a fault says is so
abbrev pub Holds : FieldValue → List (List ℤ) → GivenScalars → TableFault → Type 0
Holds field rows given (letters n) = (length rows ≡ n) × ((n ≡ 0) ⊎ (LETTER_LIMIT < n))
Holds field rows given (rack_shape r) = IsLetterOf (length rows) r × (length (row_at rows r) ≢ length rows)
Holds field rows given (rack_entry i j v) =
    IsLetterOf (length rows) i × IsLetterOf (length rows) j × (integer_at rows i j ≡ v) × ((a : ℕ) → IsLetterOf (length rows) a → pos a ≢ v)
Holds field rows given (not_bijective i j k v) =
    let braid : BraidValue = given_tables field rows given in
    IsLetter braid i × IsLetter braid j × IsLetter braid k × (j < k) × (act braid i j ≡ v) × (act braid i k ≡ v)
Holds field rows given (not_distributive i j k left right) =
    let braid : BraidValue = given_tables field rows given in
    IsLetter braid i × IsLetter braid j × IsLetter braid k × (act braid i (act braid j k) ≡ left) × (act braid (act braid i j) (act braid i k) ≡ right) × (left ≢ right)
Holds field rows given (cocycle_shape r) = IsWrongScalarRow (length rows) given r
Holds field rows given (cocycle_zero i j) =
    let braid : BraidValue = given_tables field rows given in
    IsLetter braid i × IsLetter braid j × (scalar braid i j ≡ 0)
Holds field rows given (not_cocycle i j k left right) =
    let braid : BraidValue = given_tables field rows given in
    IsLetter braid i × IsLetter braid j × IsLetter braid k
    × (parts_of field (times field (scalar braid i (act braid j k)) (scalar braid j k)) ≡ left)
    × (parts_of field (times field (scalar braid (act braid i j) (act braid i k)) (scalar braid i k)) ≡ right)
    × (left ≢ right)

-- the kinds of fault in the order in which they are looked for
abbrev pub kind_of : TableFault → ℕ
kind_of (letters n) = 1
kind_of (rack_shape r) = 2
kind_of (rack_entry i j v) = 3
kind_of (not_bijective i j k v) = 4
kind_of (not_distributive i j k left right) = 5
kind_of (cocycle_shape r) = 6
kind_of (cocycle_zero i j) = 7
kind_of (not_cocycle i j k left right) = 8

-- the place of a fault
abbrev pub place_of : TableFault → List ℕ
place_of (letters n) = []
place_of (rack_shape r) = r ∷ []
place_of (rack_entry i j v) = i ∷ j ∷ []
place_of (not_bijective i j k v) = i ∷ j ∷ k ∷ []
place_of (not_distributive i j k left right) = i ∷ j ∷ k ∷ []
place_of (cocycle_shape r) = r ∷ []
place_of (cocycle_zero i j) = i ∷ j ∷ []
place_of (not_cocycle i j k left right) = i ∷ j ∷ k ∷ []

-- a fault is of an earlier kind than another, or of its kind and at an earlier place in lexicographic order
abbrev pub IsEarlier : TableFault → TableFault → Type 0
IsEarlier fault other = slice_cmp nat_cmp (kind_of fault ∷ place_of fault) (kind_of other ∷ place_of other) ≡ Less

-- what is named is so, and nothing that is so is earlier
abbrev pub FirstFaultsAreNamed : Type 0
FirstFaultsAreNamed =
    (field : FieldValue) (rows : List (List ℤ)) (given : GivenScalars) (fault : TableFault) → braid_of field rows given ≡ Err fault →
    Holds field rows given fault × ((other : TableFault) → Holds field rows given other → IsEarlier other fault → ⊥)
