-- New words: those whose words of one letter less, at both ends, are least.
use Rattle.std.specs.Prelude.{ℕ, Bool, true, ◌&&◌, List, [], ◌∷◌, filter, length, take}
use Rattle.nichols_tensor.specs.Words.{words}
use Rattle.nichols_braid.specs.Braid.{BraidValue}
use Rattle.nichols_braid.specs.Kernel.{Vanishing}
use Rattle.nichols_braid.specs.Least.{is_least}

-- whether a word is empty, or is least both without its last letter and without its first one
unfoldable pub is_new : Vanishing → BraidValue → List ℕ → Bool
is_new vanishes braid [] = true
is_new vanishes braid (a ∷ w) = is_least vanishes braid (take (length w) (a ∷ w)) && is_least vanishes braid w

-- the new words of degree m, rising; in degree 0 the empty word, and in degree 1 each letter
unfoldable pub new_words : Vanishing → BraidValue → ℕ → List (List ℕ)
new_words vanishes braid m = filter (is_new vanishes braid) (words braid.letters m)
