-- Tables of a braid while their laws are tested.
use Rattle.std.specs.Prelude.{◌≡◌, ℕ, ◌*◌, ◌≤◌, List, length}
use Rattle.std.specs.List.{AllByRecursion}
use Rattle.nichols_field.specs.Field.{FieldValue, IsElement}
use Rattle.nichols_tensor.specs.declared.TheConstants.{LETTER_LIMIT}
use Rattle.nichols_tensor.specs.Words.{IsLetterOf}
use Rattle.nichols_braid.specs.Braid.{BraidValue, entry}

-- a number of letters, with the entries of a table of letters by letters, its rows one after the other
pub record RackEntries : Type 0 where
  pub letters : ℕ
  pub entries : List ℕ

-- the letter `i ▷ j` of a table
abbrev pub image : RackEntries → ℕ → ℕ → ℕ
image rack i j = entry rack.letters rack.entries i j

-- a rack's table with scalars
abbrev pub with_scalars : FieldValue → RackEntries → List ℕ → BraidValue
with_scalars field rack scalars = record { field = field; letters = rack.letters; rack = rack.entries; cocycle = scalars }

-- 1 to LETTER_LIMIT letters, and each entry is one of them
pub record IsRackTable (rack : RackEntries) : Type 0 where
  pub least : 1 ≤ rack.letters
  pub most : rack.letters ≤ LETTER_LIMIT
  pub size : length rack.entries ≡ rack.letters * rack.letters
  pub entries : AllByRecursion (IsLetterOf rack.letters) rack.entries

-- each entry is an element of the field
pub record IsCocycleTable (field : FieldValue) (n : ℕ) (entries : List ℕ) : Type 0 where
  pub size : length entries ≡ n * n
  pub elements : AllByRecursion (IsElement field) entries
