-- Braids: a rack with a 2-cocycle (Andruskiewitsch and Graña, "From racks to pointed Hopf algebras").
use Rattle.std.specs.Prelude.{◌≡◌, ◌≢◌, ℕ, ◌+◌, ◌-◌, ◌*◌, ◌≤◌, List, length, slice_index}
use Rattle.nichols_field.specs.Field.{FieldValue, IsField, IsElement, times}
use Rattle.nichols_tensor.specs.declared.TheConstants.{LETTER_LIMIT}
use Rattle.nichols_tensor.specs.Words.{IsLetterOf}

-- a braid as contracts see it: its field, its number n of letters, and the tables of the rack and of the cocycle,
-- each with its rows one after the other
pub record BraidValue : Type 0 where
  pub field : FieldValue
  pub letters : ℕ
  pub rack : List ℕ
  pub cocycle : List ℕ

-- the entry of row i and column j of a table with rows of n entries; rows and columns count from 1
unfoldable pub entry : ℕ → List ℕ → ℕ → ℕ → ℕ
entry n table i j = slice_index table ((i - 1) * n + (j - 1))

-- the letter `i ▷ j`
abbrev pub act : BraidValue → ℕ → ℕ → ℕ
act braid i j = entry braid.letters braid.rack i j

-- the scalar `q(i, j)`
abbrev pub scalar : BraidValue → ℕ → ℕ → ℕ
scalar braid i j = entry braid.letters braid.cocycle i j

-- the number is a letter of the braid
abbrev pub IsLetter : BraidValue → ℕ → Type 0
IsLetter braid a = IsLetterOf braid.letters a

-- each map `j ↦ i ▷ j` is a bijection of the letters, and `i ▷ (j ▷ k) = (i ▷ j) ▷ (i ▷ k)`
pub record IsRack (braid : BraidValue) : Type 0 where
  pub closed : (i j : ℕ) → IsLetter braid i → IsLetter braid j → IsLetter braid (act braid i j)
  pub injective : (i j k : ℕ) → IsLetter braid i → IsLetter braid j → IsLetter braid k → act braid i j ≡ act braid i k → j ≡ k
  pub distributive : (i j k : ℕ) → IsLetter braid i → IsLetter braid j → IsLetter braid k → act braid i (act braid j k) ≡ act braid (act braid i j) (act braid i k)

-- the scalars are elements other than 0, and `q(i, j ▷ k) q(j, k) = q(i ▷ j, i ▷ k) q(i, k)`
pub record IsCocycle (braid : BraidValue) : Type 0 where
  pub element : (i j : ℕ) → IsLetter braid i → IsLetter braid j → IsElement braid.field (scalar braid i j)
  pub nonzero : (i j : ℕ) → IsLetter braid i → IsLetter braid j → scalar braid i j ≢ 0
  pub law : (i j k : ℕ) → IsLetter braid i → IsLetter braid j → IsLetter braid k →
      times braid.field (scalar braid i (act braid j k)) (scalar braid j k) ≡ times braid.field (scalar braid (act braid i j) (act braid i k)) (scalar braid i k)

-- a rack of 1 to LETTER_LIMIT letters with a 2-cocycle
pub record IsBraid (braid : BraidValue) : Type 0 where
  pub field : IsField braid.field
  pub least : 1 ≤ braid.letters
  pub most : braid.letters ≤ LETTER_LIMIT
  pub rack_size : length braid.rack ≡ braid.letters * braid.letters
  pub cocycle_size : length braid.cocycle ≡ braid.letters * braid.letters
  pub rack : IsRack braid
  pub cocycle : IsCocycle braid
