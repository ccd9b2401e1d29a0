-- Least words, bases, normal forms, candidates and relations. Each is read in a test of which combinations are zero in the
-- algebra: that of the quantum symmetrizer, or that of the skew derivations.
use Rattle.std.specs.Prelude.{ℕ, zero, suc, Bool, not, List, [], ◌∷◌, map, filter, find, length, unwrap_or}
use Rattle.std.specs.List.{list_any}
use Rattle.nichols_tensor.specs.Combination.{Combination, single, minus, without_zeros}
use Rattle.nichols_tensor.specs.Words.{with_letters, words, words_before, combinations}
use Rattle.nichols_tensor.specs.Relation.{PlainRelation}
use Rattle.nichols_braid.specs.Braid.{BraidValue}
use Rattle.nichols_braid.specs.Kernel.{Vanishing}

-- whether f and g, of degree m, are one in the algebra
unfoldable pub are_congruent : Vanishing → BraidValue → ℕ → Combination → Combination → Bool
are_congruent vanishes braid m f g = vanishes braid m (minus braid.field f g)

-- whether a word is congruent to no combination of the words of its length before it
unfoldable pub is_least : Vanishing → BraidValue → List ℕ → Bool
is_least vanishes braid w =
    not (list_any (are_congruent vanishes braid (length w) (single w)) (combinations braid.field (words_before braid.letters w)))

-- the least words of degree m, rising; the dimension of degree m is their number
unfoldable pub basis : Vanishing → BraidValue → ℕ → List (List ℕ)
basis vanishes braid m = filter (is_least vanishes braid) (words braid.letters m)

-- the combination of least words of degree m that f is congruent to
unfoldable pub normal_form : Vanishing → BraidValue → ℕ → Combination → Combination
normal_form vanishes braid m f =
    without_zeros (unwrap_or (find (are_congruent vanishes braid m f) (combinations braid.field (basis vanishes braid m))) [])

-- the least words of the degree before, each with a letter behind; in degree 0 the empty word
unfoldable pub candidates : Vanishing → BraidValue → ℕ → List (List ℕ)
candidates vanishes braid zero = [] ∷ []
candidates vanishes braid (suc m) = with_letters braid.letters (basis vanishes braid m)

-- the relations of degree m, with rising candidates
unfoldable pub relations : Vanishing → BraidValue → ℕ → List PlainRelation
relations vanishes braid m =
    map (λ w. record { candidate = w; form = normal_form vanishes braid m (single w) })
    (filter (λ w. not (is_least vanishes braid w)) (candidates vanishes braid m))
