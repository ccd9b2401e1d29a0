-- Sums of terms in any order.
use Rattle.std.proofs.Common.{◌≢◌, ℕ, List, Contains, ◌∙◌, ◌⊎◌, inl, inr}
use Rattle.nichols_field.specs.Field.{FieldValue, IsField}
use Rattle.nichols_tensor.specs.Combination.{Combination, HasSameValues, value_at, words_of, AllElements, AllAmong}
use Rattle.nichols_tensor.specs.WordOrder.{IsOrdered}
use Rattle.nichols_tensor.proofs.Ordered.{is_in_or_not, zero_at_others, among_nonzero}

-- a combination in the shape in which it is kept has no words but those of each combination with its values
pub among_same : (k : FieldValue) → IsField k → (r f : Combination) → AllElements k r → IsOrdered r → HasSameValues k r f → AllAmong r (words_of f)
among_same k is r f elements shape same = among_nonzero k is r (words_of f) elements shape (λ w some. at w some (is_in_or_not w (words_of f)))
  where
    at : (w : List ℕ) → value_at k r w ≢ 0 → Contains (words_of f) w ⊎ (Contains (words_of f) w → ⊥) → Contains (words_of f) w
    at w some (inl here) = here
    at w some (inr none) = absurd (some (same w ∙ zero_at_others k is f w none))
