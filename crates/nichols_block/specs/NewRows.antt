-- The rows of the new words of a block: the cells of the normal forms of a word's derivatives by each letter, one behind the other.
use Rattle.std.specs.Prelude.{◌≡◌, ◌<◌, ◌+◌, ◌^◌, ℕ, zero, suc, List, [], ◌++◌, length, slice_index, slice_index_or}
use Rattle.nichols_braid.specs.Braid.{BraidValue}
use Rattle.nichols_echelon.specs.Cells.{Cell}
use Rattle.nichols_echelon.specs.Combination.{row_at}
use Rattle.nichols_echelon.specs.Parts.{cells_behind}
use Rattle.nichols_echelon.specs.Rows.{RowsValue}
use Rattle.nichols_value.specs.Block.{lower_basis}
use Rattle.nichols_block.specs.Rows.{rows_by}
use Rattle.nichols_block.specs.Words.{block_new_words}

-- the number of the words of the lower blocks by the letters up to a
unfoldable pub columns_to : BraidValue → ℕ → List ℕ → ℕ → ℕ
columns_to braid m g zero = 0
columns_to braid m g (suc a) = columns_to braid m g a + length (lower_basis braid m g (suc a))

-- the k-th rows by the letters up to a, one behind the other
unfoldable pub joined_row : BraidValue → ℕ → List ℕ → List RowsValue → ℕ → ℕ → List Cell
joined_row braid m g lists k zero = []
joined_row braid m g lists k (suc a) = joined_row braid m g lists k a ++ cells_behind (columns_to braid m g a) (slice_index_or (rows_by lists (suc a)).rows k [])

-- one row for each new word, from the rows by letter
pub record AreNewRows (braid : BraidValue) (m : ℕ) (g : List ℕ) (lists : List RowsValue) (rows : List (List Cell)) : Type 0 where
  pub count : length rows ≡ length (block_new_words braid m g)
  pub each : (k : ℕ) → k < length rows → row_at rows k ≡ joined_row braid m g lists k braid.letters

-- by letter, the number of columns before it; and all columns have numbers of 32 bits
pub record AreOffsets (braid : BraidValue) (m : ℕ) (g : List ℕ) (offsets : List ℕ) : Type 0 where
  pub letters : length offsets ≡ braid.letters
  pub each : (a : ℕ) → a < braid.letters → slice_index offsets a ≡ columns_to braid m g a
  pub short : columns_to braid m g braid.letters < 2 ^ 32
