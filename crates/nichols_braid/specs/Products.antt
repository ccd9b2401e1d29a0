-- The products of the words of one length, the rows of each, and leading letters.
use Rattle.std.specs.Prelude.{ℕ, not, List, [], ◌∷◌, map, filter, find, length, unwrap_or}
use Rattle.nichols_tensor.specs.Combination.{same_letters}
use Rattle.nichols_tensor.specs.Words.{up_to, words}
use Rattle.nichols_braid.specs.Braid.{BraidValue}
use Rattle.nichols_braid.specs.Kernel.{Vanishing}
use Rattle.nichols_braid.specs.Least.{candidates}
use Rattle.nichols_braid.specs.Product.{product_of, has_product}

-- the entries of a list, each once, in the order of their first places
unfoldable pub each_once : List (List ℕ) → List (List ℕ)
each_once [] = []
each_once (g ∷ gs) = g ∷ filter (λ h. not (same_letters h g)) (each_once gs)

-- the products of the words of m letters, each once, in the order of the first word that has it
unfoldable pub products : BraidValue → ℕ → List (List ℕ)
products braid m = each_once (map (product_of braid) (words braid.letters m))

-- the number of candidates of degree m with product g
unfoldable pub rows : Vanishing → BraidValue → ℕ → List ℕ → ℕ
rows vanishes braid m g = length (filter (has_product braid g) (candidates vanishes braid m))

-- the first letter with the same map as a
unfoldable pub leading : BraidValue → ℕ → ℕ
leading braid a = unwrap_or (find (λ b. has_product braid (product_of braid (a ∷ [])) (b ∷ [])) (up_to braid.letters)) 0
