-- Skew derivations (Heckenberger and Schneider, "Hopf Algebras and Root Systems").
use Rattle.std.specs.Prelude.{ℕ, List, [], ◌∷◌, ◌++◌, map, if◌then◌else◌, nat_eq}
use Rattle.nichols_field.specs.Field.{times}
use Rattle.nichols_tensor.specs.Combination.{Combination, linear_map}
use Rattle.nichols_braid.specs.Braid.{BraidValue, act, scalar}

-- the product of the scalars that a meets as it passes a word
abbrev pub scalars_met : BraidValue → ℕ → List ℕ → ℕ
scalars_met braid a [] = 1
scalars_met braid a (x ∷ w) = times braid.field (scalar braid a x) (scalars_met braid a w)

-- the skew derivation by a of a word: each a in turn passes all letters behind it, and is dropped
unfoldable pub derived_word : BraidValue → ℕ → List ℕ → Combination
derived_word braid a [] = []
derived_word braid a (x ∷ w) =
    (if nat_eq a x then record { word = map (act braid a) w; coefficient = scalars_met braid a w } ∷ [] else [])
    ++ map (λ t. record { word = x ∷ t.word; coefficient = t.coefficient }) (derived_word braid a w)

-- the skew derivation by a
abbrev pub skew_derivative : BraidValue → ℕ → Combination → Combination
skew_derivative braid a f = linear_map braid.field (derived_word braid a) f
