-- Products with a letter from the left, and a letter carried past words from the left.
use Rattle.std.specs.Prelude.{ℕ, List, [], ◌∷◌, map}
use Rattle.nichols_tensor.specs.Combination.{Combination, linear_map}
use Rattle.nichols_braid.specs.Braid.{BraidValue, act}
use Rattle.nichols_braid.specs.Derivation.{scalars_met}

-- x_b f: the letter b put before each word
abbrev pub letter_times : ℕ → Combination → Combination
letter_times b f = map (λ t. record { word = b ∷ t.word; coefficient = t.coefficient }) f

-- a word that a is carried past, each letter x becoming `a ▷ x`, with the product of the scalars that a meets
abbrev pub carried_word : BraidValue → ℕ → List ℕ → Combination
carried_word braid a w = record { word = map (act braid a) w; coefficient = scalars_met braid a w } ∷ []

-- θ_a f: a carried past each word
abbrev pub carried_past : BraidValue → ℕ → Combination → Combination
carried_past braid a f = linear_map braid.field (carried_word braid a) f
