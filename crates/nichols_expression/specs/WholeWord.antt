-- The word that a whole text is.
use Rattle.std.specs.Prelude.{ℕ, List, Option, None, Some, Ok, Err, option_map, if◌then◌else◌}
use Rattle.nichols_braid.specs.Order.{rank_of, renamed_word}
use Rattle.nichols_expression.specs.Reader.{Step, is_empty, word_at}

-- what a word's reading gives, where it goes to the end of the text
abbrev pub read_whole : Step (List ℕ) → Option (List ℕ)
read_whole (Ok r) = if is_empty r.left then Some r.value else None
read_whole (Err e) = None

-- the word, in ranks, that a text is over n letters: exactly the printed word, with nothing before or behind it
unfoldable pub word_of : ℕ → List ℕ → List ℕ → Option (List ℕ)
word_of n order text = option_map (renamed_word (rank_of order)) (read_whole (word_at n text))
