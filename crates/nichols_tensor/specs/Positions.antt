-- Words of a list by their positions.
use Rattle.std.specs.Prelude.{ℕ, List, [], slice_index_or}

-- the word at a position, from 0
abbrev pub word_at : List (List ℕ) → ℕ → List ℕ
word_at ws i = slice_index_or ws i []
