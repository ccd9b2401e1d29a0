-- Permutations of places, by their end places: entry j says where the letter at place j ends. Their positive lifts.
use Rattle.std.specs.Prelude.{ℕ, zero, suc, ◌+◌, ◌*◌, ◌<◌, ◌≤◌, List, [], ◌∷◌, length, Option, None, Some, if◌then◌else◌, nat_lt}
use Rattle.std.specs.Option.{option_map, option_map_or}
use Rattle.nichols_tensor.specs.Combination.{Term}
use Rattle.nichols_braid.specs.Braid.{BraidValue}
use Rattle.nichols_braid.specs.Crossing.{crossed_term}

-- the entries at place i and the next, exchanged
abbrev pub exchanged_at : ℕ → List ℕ → List ℕ
exchanged_at (suc zero) (a ∷ b ∷ ends) = b ∷ a ∷ ends
exchanged_at (suc (suc i)) (a ∷ ends) = a ∷ exchanged_at (suc i) ends
exchanged_at _ ends = ends

-- the entry at place i is greater than the next one
abbrev pub IsDescentAt : ℕ → List ℕ → Type 0
IsDescentAt (suc zero) (a ∷ b ∷ ends) = b < a
IsDescentAt (suc (suc i)) (a ∷ ends) = IsDescentAt (suc i) ends
IsDescentAt _ ends = ⊥

-- no entry is greater than the next one
abbrev pub IsSorted : List ℕ → Type 0
IsSorted [] = Unit {0}
IsSorted (a ∷ []) = Unit {0}
IsSorted (a ∷ b ∷ ends) = (a ≤ b) × IsSorted (b ∷ ends)

-- the list of places is descending for these end places: each place in turn swaps an entry with a lesser one to its right,
-- and the last list is sorted
-- (such a list is a reduced expression of the permutation in the exchanges of neighbours; that the crossings of each lead to the
-- same lift is Matsumoto's theorem)
abbrev pub IsDescending : List ℕ → List ℕ → Type 0
IsDescending ends [] = IsSorted ends
IsDescending ends (i ∷ places) = IsDescentAt i ends × IsDescending (exchanged_at i ends) places

-- the least place whose entry is greater than the next one
abbrev pub first_descent : List ℕ → Option ℕ
first_descent [] = None
first_descent (a ∷ []) = None
first_descent (a ∷ b ∷ ends) = if nat_lt b a then Some 1 else option_map (λ i. i + 1) (first_descent (b ∷ ends))

-- the least descents one after the other, at most this many
abbrev pub least_descents : ℕ → List ℕ → List ℕ
least_descents zero ends = []
least_descents (suc n) ends = option_map_or (λ i. i ∷ least_descents n (exchanged_at i ends)) (first_descent ends) []

-- the descending list that always takes the least place
abbrev pub bubble : List ℕ → List ℕ
bubble ends = least_descents (length ends * length ends) ends

-- the braiding's positive lift of a permutation, at a word: the word and the scalar
unfoldable pub lift : BraidValue → List ℕ → List ℕ → Term
lift braid ends w = crossed_term braid (bubble ends) (record { word = w; coefficient = 1 })
