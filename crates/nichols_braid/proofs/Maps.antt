-- The product with a letter from the right as a linear map.
use Rattle.std.proofs.Common.{◌≡◌, ℕ, [], ◌∷◌, ◌++◌, refl, sym, ◌∙◌, ap}
use Rattle.std.proofs.lemmas.List.{map-append}
use Rattle.nichols_field.specs.Field.{FieldValue, IsField, times, negative}
use Rattle.nichols_tensor.specs.Combination.{Combination, HasSameValues, IsZero, single, scalar_multiple, linear_map, minus}
use Rattle.nichols_tensor.proofs.Linear.{extended_is_zero, same_images}
use Rattle.nichols_tensor.proofs.Maps.{reworded_is_extended}
use Rattle.nichols_braid.specs.RightProduct.{times_letter}
pub use Rattle.nichols_tensor.proofs.Maps.{same_weight_on, everywhere, weight-plus, extended_same_on, extended_same, linear_map-sum, linear_map-multiple, linear_map-linear_map, same_commuted, plus_times_one, extended_identity}

pub times_letter_is_extended : (k : FieldValue) → IsField k → (f : Combination) (b : ℕ) → HasSameValues k (times_letter f b) (linear_map k (λ v. single (v ++ b ∷ [])) f)
times_letter_is_extended k is f b = reworded_is_extended k is (λ v. v ++ b ∷ []) f

pub times_letter_same : (k : FieldValue) → IsField k → (f g : Combination) (b : ℕ) → HasSameValues k f g → HasSameValues k (times_letter f b) (times_letter g b)
times_letter_same k is f g b h w =
    times_letter_is_extended k is f b w ∙ same_images k is (λ v. single (v ++ b ∷ [])) f g h w ∙ sym (times_letter_is_extended k is g b w)

pub times_letter_is_zero : (k : FieldValue) → IsField k → (f : Combination) (b : ℕ) → IsZero k f → IsZero k (times_letter f b)
times_letter_is_zero k is f b h w = times_letter_is_extended k is f b w ∙ extended_is_zero k is (λ v. single (v ++ b ∷ [])) f h w

pub times_letter-append : (f g : Combination) (b : ℕ) → times_letter (f ++ g) b ≡ times_letter f b ++ times_letter g b
times_letter-append f g b = map-append (λ t. record { word = t.word ++ b ∷ []; coefficient = t.coefficient }) f g

pub times_letter-scalar_multiple : (k : FieldValue) (c : ℕ) (f : Combination) (b : ℕ) → times_letter (scalar_multiple k c f) b ≡ scalar_multiple k c (times_letter f b)
times_letter-scalar_multiple k c [] b = refl
times_letter-scalar_multiple k c (t ∷ f) b = ap (λ r. record { word = t.word ++ b ∷ []; coefficient = times k c t.coefficient } ∷ r) (times_letter-scalar_multiple k c f b)

pub times_letter-minus : (k : FieldValue) (f g : Combination) (b : ℕ) → times_letter (minus k f g) b ≡ minus k (times_letter f b) (times_letter g b)
times_letter-minus k f g b = times_letter-append f (scalar_multiple k (negative k 1) g) b ∙ ap (λ h. times_letter f b ++ h) (times_letter-scalar_multiple k (negative k 1) g b)
