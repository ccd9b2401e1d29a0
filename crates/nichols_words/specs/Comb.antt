-- Coefficients of combinations.
use Rattle.std.specs.Prelude.{ℕ, List, [], ◌∷◌, if◌then◌else◌}
use Rattle.nichols_tensor.specs.Combination.{Combination, same_letters}

-- the coefficient of the first term with the word, or 0 where there is none
abbrev pub coefficient_at : Combination → List ℕ → ℕ
coefficient_at [] w = 0
coefficient_at (t ∷ f) w = if same_letters t.word w then t.coefficient else coefficient_at f w
