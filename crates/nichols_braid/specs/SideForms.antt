-- The normal form of a word with one letter more, from that of the word.
use Rattle.std.specs.Prelude.{ℕ, suc, List, [], ◌∷◌, ◌++◌}
use Rattle.nichols_tensor.specs.Combination.{Combination, single, linear_map}
use Rattle.nichols_braid.specs.Braid.{BraidValue}
use Rattle.nichols_braid.specs.Kernel.{Vanishing}
use Rattle.nichols_braid.specs.Least.{normal_form}

-- from the left, for a word w of degree m: c times the normal form of `a u`, for each term `c u` of the normal form of w
abbrev pub left_form : Vanishing → BraidValue → ℕ → ℕ → List ℕ → Combination
left_form vanishes braid m a w = linear_map braid.field (λ u. normal_form vanishes braid (suc m) (single (a ∷ u))) (normal_form vanishes braid m (single w))

-- from the right: c times the normal form of `u b`
abbrev pub right_form : Vanishing → BraidValue → ℕ → List ℕ → ℕ → Combination
right_form vanishes braid m w b = linear_map braid.field (λ u. normal_form vanishes braid (suc m) (single (u ++ b ∷ []))) (normal_form vanishes braid m (single w))
