-- What the laws of products from the left say.
use Rattle.std.specs.Prelude.{◌≡◌, ℕ, suc, [], ◌++◌, if◌then◌else◌, nat_eq}
use Rattle.nichols_tensor.specs.Combination.{Combination, HasSameValues, scalar_multiple}
use Rattle.nichols_tensor.specs.Words.{IsOver}
use Rattle.nichols_braid.specs.Braid.{BraidValue, IsBraid, IsLetter, act, scalar}
use Rattle.nichols_braid.specs.Derivation.{skew_derivative}
use Rattle.nichols_braid.specs.Kernel.{IsKilled, is_killed}
use Rattle.nichols_braid.specs.LeftIdealTest.{IsLeftIdealTest}
use Rattle.nichols_braid.specs.LeftProduct.{letter_times, carried_past}

-- each letter's map is onto: each letter is `a ▷ c` for some letter c
abbrev pub MapsAreOnto : Type 0
MapsAreOnto = (braid : BraidValue) → IsBraid braid → (a d : ℕ) → IsLetter braid a → IsLetter braid d → (c : ℕ) × IsLetter braid c × (act braid a c ≡ d)

-- the skew derivation from the left end: `∂_a(x_b f) = [a = b] θ_a f + x_b ∂_a f`, where `[a = b]` is 1 or 0
abbrev pub LeftDerivationRule : Type 0
LeftDerivationRule =
    (braid : BraidValue) → IsBraid braid → (a b : ℕ) (f : Combination) →
    HasSameValues braid.field (skew_derivative braid a (letter_times b f)) ((if nat_eq a b then carried_past braid a f else []) ++ letter_times b (skew_derivative braid a f))

-- the skew derivation of what a letter was carried past: `∂_{a ▷ c} θ_a f = q(a, c) θ_a ∂_c f`, for f over the letters
abbrev pub CarriedDerivations : Type 0
CarriedDerivations =
    (braid : BraidValue) → IsBraid braid → (a c : ℕ) → IsLetter braid a → IsLetter braid c → (f : Combination) → IsOver braid.letters f →
    HasSameValues braid.field (skew_derivative braid (act braid a c) (carried_past braid a f)) (scalar_multiple braid.field (scalar braid a c) (carried_past braid a (skew_derivative braid c f)))

-- where f of degree m over the letters is killed by the derivations, so is `x_b f`, for each letter b
abbrev pub KilledIsLeftIdeal : Type 0
KilledIsLeftIdeal =
    (braid : BraidValue) → IsBraid braid → (m : ℕ) (f : Combination) (b : ℕ) → IsOver braid.letters f → IsLetter braid b → IsKilled braid m f → IsKilled braid (suc m) (letter_times b f)

-- what is killed is, degree by degree, a linear subspace, kept by a letter from the left
abbrev pub KilledIsIdealFromLeft : Type 0
KilledIsIdealFromLeft = (braid : BraidValue) → IsBraid braid → IsLeftIdealTest braid (is_killed braid)
