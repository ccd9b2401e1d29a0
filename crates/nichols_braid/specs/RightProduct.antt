-- Products with a letter from the right.
use Rattle.std.specs.Prelude.{ℕ, [], ◌∷◌, ◌++◌, map}
use Rattle.nichols_tensor.specs.Combination.{Combination}

-- f x_b: the letter b put behind each word
abbrev pub times_letter : Combination → ℕ → Combination
times_letter f b = map (λ t. record { word = t.word ++ b ∷ []; coefficient = t.coefficient }) f
