-- What the laws of forms say: that of a candidate, and that of its derivatives, as the relations of a degree give them.
use Rattle.std.specs.Prelude.{◌≡◌, ℕ, suc, List, [], ◌∷◌, ◌++◌}
use Rattle.std.specs.List.{Contains}
use Rattle.nichols_field.specs.Field.{IsField}
use Rattle.nichols_tensor.specs.Combination.{single}
use Rattle.nichols_tensor.specs.InOrder.{in_order}
use Rattle.nichols_braid.specs.Braid.{BraidValue, IsBraid, IsLetter}
use Rattle.nichols_braid.specs.Kernel.{Vanishing}
use Rattle.nichols_braid.specs.Least.{basis, normal_form, candidates, relations}
use Rattle.nichols_braid.specs.LinearTest.{IsLinearTest}
use Rattle.nichols_braid.specs.RightIdealTest.{IsRightIdealTest}
use Rattle.nichols_braid.specs.Forms.{form_in, derived_from, derived_form}

-- the form of a candidate in the relations of its degree is its normal form
abbrev pub CandidateFormsAreListed : Type 0
CandidateFormsAreListed =
    (vanishes : Vanishing) (braid : BraidValue) → IsField braid.field → (m : ℕ) → IsLinearTest braid.field (vanishes braid m) →
    (w : List ℕ) → Contains (candidates vanishes braid m) w → form_in (relations vanishes braid m) w ≡ normal_form vanishes braid m (single w)

-- the normal form of the derivative by a of a candidate `u x_b` is, in order, what the relations of u's degree and the normal
-- form of u's own derivative give
abbrev pub DerivativesOfCandidates : Type 0
DerivativesOfCandidates =
    (vanishes : Vanishing) (braid : BraidValue) → IsBraid braid → IsRightIdealTest braid (vanishes braid) →
    (m : ℕ) (u : List ℕ) (a b : ℕ) → Contains (basis vanishes braid m) u → IsLetter braid a → IsLetter braid b →
    derived_form vanishes braid (suc m) (u ++ b ∷ []) a ≡ in_order braid.field (derived_from braid (relations vanishes braid m) u (derived_form vanishes braid m u a) a b)
