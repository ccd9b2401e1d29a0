-- Crossings: the braiding `c(x_a x_b) = q(a, b) x_{a ▷ b} x_a` at two neighbours of a word.
use Rattle.std.specs.Prelude.{ℕ, zero, suc, List, [], ◌∷◌}
use Rattle.nichols_field.specs.Field.{times}
use Rattle.nichols_tensor.specs.Combination.{Term}
use Rattle.nichols_braid.specs.Braid.{BraidValue, act, scalar}

-- the crossing at place i, from 1: the letters a, b there become `a ▷ b`, a, and all others stay
abbrev pub cross : BraidValue → ℕ → List ℕ → List ℕ
cross braid (suc zero) (a ∷ b ∷ w) = act braid a b ∷ a ∷ w
cross braid (suc (suc i)) (a ∷ w) = a ∷ cross braid (suc i) w
cross braid _ w = w

-- its scalar, `q(a, b)`
abbrev pub cross_scalar : BraidValue → ℕ → List ℕ → ℕ
cross_scalar braid (suc zero) (a ∷ b ∷ w) = scalar braid a b
cross_scalar braid (suc (suc i)) (a ∷ w) = cross_scalar braid (suc i) w
cross_scalar braid _ w = 1

-- the crossings at these places in turn, with the product of the scalars met
abbrev pub crossed_term : BraidValue → List ℕ → Term → Term
crossed_term braid [] t = t
crossed_term braid (i ∷ places) t =
    crossed_term braid places (record { word = cross braid i t.word; coefficient = times braid.field t.coefficient (cross_scalar braid i t.word) })
