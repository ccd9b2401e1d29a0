-- Entries that are sorted by word, with neighbours of one word made one entry.
use Rattle.std.specs.Prelude.{ℕ, Bool, cond, List, [], ◌∷◌}
use Rattle.std.specs.Ordering.{eq_by_cmp}
use Rattle.nichols_tensor.specs.WordOrder.{word_cmp}

-- whether two words are one, by their order
abbrev pub are_one : List ℕ → List ℕ → Bool
are_one = eq_by_cmp word_cmp

-- an entry and those after it, by the word of each and by what two entries of one word are together
unfoldable pub gathered_by : {X : Type 0} → (X → List ℕ) → (X → X → X) → X → List X → List X
gathered_by word together last [] = last ∷ []
gathered_by word together last (x ∷ xs) = cond (are_one (word x) (word last)) (gathered_by word together (together last x) xs) (last ∷ gathered_by word together x xs)
