-- Linear maps: they keep sums, multiples and zero, and see the values of a combination alone.
use Rattle.std.proofs.Common.{◌≡◌, ℕ, List, [], ◌∷◌, ◌++◌, refl, sym, ◌∙◌, ap, append_assoc}
use Rattle.nichols_field.specs.Field.{FieldValue, IsField, plus, times, negative}
use Rattle.nichols_field.proofs.FieldLaws.{plus_zero}
use Rattle.nichols_field.proofs.FieldAlgebra.{one_times, difference_of_same, same_from_difference}
use Rattle.nichols_tensor.specs.Combination.{Combination, value_at, HasSameValues, IsZero, single, scalar_multiple, minus, linear_map}
use Rattle.nichols_tensor.proofs.Values.{value_is_element, value_at-append, value_at-scalar_multiple, value_at-minus, weight, weight_is_element, weight-append, weight-scalar_multiple, value_at-linear_map, weightless}

-- a combination that is zero is sent to zero
pub extended_is_zero : (k : FieldValue) → IsField k → (image : List ℕ → Combination) (f : Combination) → IsZero k f → IsZero k (linear_map k image f)
extended_is_zero k is image f h w = value_at-linear_map k is image f w ∙ weightless k is (λ v. value_at k (image v) w) f h

pub minus_is_zero : (k : FieldValue) → IsField k → (f g : Combination) → HasSameValues k f g → IsZero k (minus k f g)
minus_is_zero k is f g same w =
    value_at-minus k is f g w ∙ ap (λ n. plus k n (times k (negative k 1) (value_at k g w))) (same w) ∙ difference_of_same k (value_at k g w) is

pub same_from_minus : (k : FieldValue) → IsField k → (f g : Combination) → IsZero k (minus k f g) → HasSameValues k f g
same_from_minus k is f g h w = same_from_difference k (value_at k f w) (value_at k g w) is (value_is_element k is f w) (value_is_element k is g w) (sym (value_at-minus k is f g w) ∙ h w)

-- numbers that combinations with the same values have
pub same_weights : (k : FieldValue) → IsField k → (φ : List ℕ → ℕ) (f g : Combination) → HasSameValues k f g → weight k φ f ≡ weight k φ g
same_weights k is φ f g same =
    same_from_difference k (weight k φ f) (weight k φ g) is (weight_is_element k is φ f) (weight_is_element k is φ g)
    (ap (plus k (weight k φ f)) (sym (weight-scalar_multiple k is φ (negative k 1) g)) ∙ sym (weight-append k is φ f (scalar_multiple k (negative k 1) g)) ∙ weightless k is φ (minus k f g) (minus_is_zero k is f g same))

-- combinations with the same values have images with the same values
pub same_images : (k : FieldValue) → IsField k → (image : List ℕ → Combination) (f g : Combination) → HasSameValues k f g → HasSameValues k (linear_map k image f) (linear_map k image g)
same_images k is image f g same w =
    value_at-linear_map k is image f w ∙ same_weights k is (λ v. value_at k (image v) w) f g same ∙ sym (value_at-linear_map k is image g w)

pub linear_map-append : (k : FieldValue) (image : List ℕ → Combination) (f g : Combination) → linear_map k image (f ++ g) ≡ linear_map k image f ++ linear_map k image g
linear_map-append k image [] g = refl
linear_map-append k image (t ∷ f) g =
    ap (λ r. scalar_multiple k t.coefficient (image t.word) ++ r) (linear_map-append k image f g) ∙ sym (append_assoc (scalar_multiple k t.coefficient (image t.word)) (linear_map k image f) (linear_map k image g))

pub linear_map-scalar_multiple : (k : FieldValue) → IsField k → (image : List ℕ → Combination) (c : ℕ) (f : Combination) → HasSameValues k (linear_map k image (scalar_multiple k c f)) (scalar_multiple k c (linear_map k image f))
linear_map-scalar_multiple k is image c f w =
    value_at-linear_map k is image (scalar_multiple k c f) w ∙ weight-scalar_multiple k is (λ v. value_at k (image v) w) c f
    ∙ ap (times k c) (sym (value_at-linear_map k is image f w)) ∙ sym (value_at-scalar_multiple k is c (linear_map k image f) w)

pub linear_map-single : (k : FieldValue) → IsField k → (image : List ℕ → Combination) (v : List ℕ) → HasSameValues k (linear_map k image (single v)) (image v)
linear_map-single k is image v w =
    value_at-append k is (scalar_multiple k 1 (image v)) [] w ∙ plus_zero k (value_at k (scalar_multiple k 1 (image v)) w) (value_is_element k is (scalar_multiple k 1 (image v)) w)
    ∙ value_at-scalar_multiple k is 1 (image v) w ∙ one_times k (value_at k (image v) w) (value_is_element k is (image v) w)

pub same_append : (k : FieldValue) → IsField k → (f g f' g' : Combination) → HasSameValues k f f' → HasSameValues k g g' → HasSameValues k (f ++ g) (f' ++ g')
same_append k is f g f' g' p q w =
    value_at-append k is f g w ∙ ap (λ n. plus k n (value_at k g w)) (p w) ∙ ap (plus k (value_at k f' w)) (q w) ∙ sym (value_at-append k is f' g' w)

pub same_scaled : (k : FieldValue) → IsField k → (c : ℕ) (f g : Combination) → HasSameValues k f g → HasSameValues k (scalar_multiple k c f) (scalar_multiple k c g)
same_scaled k is c f g p w = value_at-scalar_multiple k is c f w ∙ ap (times k c) (p w) ∙ sym (value_at-scalar_multiple k is c g w)
