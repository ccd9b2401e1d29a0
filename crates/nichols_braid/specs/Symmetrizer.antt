-- The quantum symmetrizer: the sum of the lifts of all permutations of the places
-- (Heckenberger and Schneider, "Hopf Algebras and Root Systems").
use Rattle.std.specs.Prelude.{ℕ, zero, suc, ◌-◌, List, [], ◌∷◌, length, map, insert}
use Rattle.std.specs.List.{flat_map}
use Rattle.nichols_tensor.specs.Combination.{Combination, linear_map}
use Rattle.nichols_tensor.specs.Words.{up_to}
use Rattle.nichols_braid.specs.Braid.{BraidValue}
use Rattle.nichols_braid.specs.Lift.{lift}

-- the permutations of m places by their end places: those of the places before, with m put in at each place
unfoldable pub permutations : ℕ → List (List ℕ)
permutations zero = [] ∷ []
permutations (suc m) = flat_map (λ j. map (λ ends. insert ends (j - 1) (suc m)) (permutations m)) (up_to (suc m))

-- the lifts of all permutations of its places, at a word
unfoldable pub lifts : BraidValue → List ℕ → Combination
lifts braid w = map (λ ends. lift braid ends w) (permutations (length w))

-- the image under the quantum symmetrizer of the degree of each word
abbrev pub symmetrizer_image : BraidValue → Combination → Combination
symmetrizer_image braid f = linear_map braid.field (lifts braid) f
