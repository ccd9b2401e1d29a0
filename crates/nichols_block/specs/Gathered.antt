-- Listed words that are sorted, each taken once.
use Rattle.std.specs.Prelude.{ℕ, List, [], ◌∷◌}
use Rattle.std.specs.Option.{option_or}
use Rattle.nichols_tensor.specs.Gathered.{gathered_by}
use Rattle.nichols_block.specs.declared.words.Listed.{Listed}

abbrev pub word_in : Listed → List ℕ
word_in l = l.word

-- what is known of a word by either of two entries
abbrev pub together : Listed → Listed → Listed
together last l = record { word = last.word; right = option_or last.right l.right; left = option_or last.left l.left }

-- an entry and those after it, with neighbours of one word taken together
abbrev pub gathered_from : Listed → List Listed → List Listed
gathered_from = gathered_by word_in together

unfoldable pub gathered_all : List Listed → List Listed
gathered_all [] = []
gathered_all (l ∷ ls) = gathered_from l ls
