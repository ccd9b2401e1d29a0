-- What the derivations kill is a left ideal.
use Rattle.std.proofs.Common.{◌≡◌, ℕ, zero, suc, Bool, true, false, List, [], ◌∷◌, ◌++◌, refl, sym, ◌∙◌, ap, ap₂, subst, nat_eq}
use Rattle.std.specs.Prelude.{if◌then◌else◌}
use Rattle.nichols_field.specs.Field.{FieldValue, IsField}
use Rattle.nichols_tensor.specs.Combination.{Combination, value_at, HasSameValues, scalar_multiple, linear_map}
use Rattle.nichols_tensor.specs.Words.{IsOver}
use Rattle.nichols_tensor.proofs.Linear.{extended_is_zero}
use Rattle.nichols_braid.specs.Braid.{BraidValue, IsLetter, IsRack, IsCocycle, act, scalar}
use Rattle.nichols_braid.specs.Derivation.{derived_word, skew_derivative}
use Rattle.nichols_braid.specs.Kernel.{IsKilled, is_killed}
use Rattle.nichols_braid.specs.LeftProduct.{letter_times, carried_word, carried_past}
use Rattle.nichols_braid.specs.LeftIdealTest.{IsLeftIdealTest}
use Rattle.nichols_braid.proofs.Carried.{skew_derivative-carried_past}
use Rattle.nichols_braid.proofs.Degrees.{derived_over}
use Rattle.nichols_braid.proofs.Killed.{killed_same, killed-append, killed-scalar_multiple, killed_chosen, is_killed_sound, is_killed_complete, is_killed_is_linear}
use Rattle.nichols_braid.proofs.LeftProducts.{letter_times-append, letter_times-scalar_multiple}
use Rattle.nichols_braid.proofs.Maps.{linear_map-sum}
use Rattle.nichols_braid.proofs.Onto.{each_is_acted}

-- ---- the skew derivation from the left end of a word

-- the derivative of `x_b f`, word by word
derived_is_extended : (braid : BraidValue) (a b : ℕ) (f : Combination) → skew_derivative braid a (letter_times b f) ≡ linear_map braid.field (λ v. derived_word braid a (b ∷ v)) f
derived_is_extended braid a b [] = refl
derived_is_extended braid a b (t ∷ f) = ap (λ r. scalar_multiple braid.field t.coefficient (derived_word braid a (b ∷ t.word)) ++ r) (derived_is_extended braid a b f)

linear_map-chosen : (k : FieldValue) (image : List ℕ → Combination) (c : Bool) (f : Combination) → linear_map k (λ v. if c then image v else []) f ≡ (if c then linear_map k image f else [])
linear_map-chosen k image true f = refl
linear_map-chosen k image false [] = refl
linear_map-chosen k image false (t ∷ f) = linear_map-chosen k image false f

linear_map-letter_times : (k : FieldValue) (b : ℕ) (image : List ℕ → Combination) (f : Combination) → linear_map k (λ v. letter_times b (image v)) f ≡ letter_times b (linear_map k image f)
linear_map-letter_times k b image [] = refl
linear_map-letter_times k b image (t ∷ f) =
    ap₂ (λ g r. g ++ r) (sym (letter_times-scalar_multiple k b t.coefficient (image t.word))) (linear_map-letter_times k b image f) ∙ sym (letter_times-append b (scalar_multiple k t.coefficient (image t.word)) (linear_map k image f))

-- `∂_a(x_b f) = [a = b] θ_a f + x_b ∂_a f`
pub skew_derivative-letter_times : (braid : BraidValue) → IsField braid.field → (a b : ℕ) (f : Combination) →
    HasSameValues braid.field (skew_derivative braid a (letter_times b f)) ((if nat_eq a b then carried_past braid a f else []) ++ letter_times b (skew_derivative braid a f))
unfolding derived_word
skew_derivative-letter_times braid is a b f w =
    let k : FieldValue = braid.field in
    ap (λ g. value_at k g w) (derived_is_extended braid a b f)
    ∙ linear_map-sum k is (λ v. if nat_eq a b then carried_word braid a v else []) (λ v. letter_times b (derived_word braid a v)) f w
    ∙ ap₂ (λ g h. value_at k (g ++ h) w) (linear_map-chosen k (carried_word braid a) (nat_eq a b) f) (linear_map-letter_times k b (derived_word braid a) f)

-- ---- what is killed

-- with f over the letters also `θ_a f`: each letter is `a ▷ c` for some c
pub killed-carried_past : (braid : BraidValue) → IsField braid.field → IsRack braid → IsCocycle braid → (m a : ℕ) → IsLetter braid a → (f : Combination) → IsOver braid.letters f → IsKilled braid m f → IsKilled braid m (carried_past braid a f)
killed-carried_past braid is rack cocycle zero a la f over h = extended_is_zero braid.field is (carried_word braid a) f h
killed-carried_past braid is rack cocycle (suc m) a la f over h = λ d ld.
    let (c, lc, e) = each_is_acted braid rack a la d ld in
    let later : Combination = carried_past braid a (skew_derivative braid c f) in
    subst (λ x. IsKilled braid m (skew_derivative braid x (carried_past braid a f))) e
    (killed_same braid is m (scalar_multiple braid.field (scalar braid a c) later) (skew_derivative braid (act braid a c) (carried_past braid a f)) (λ w. sym (skew_derivative-carried_past braid is rack cocycle a c la lc f over w))
    (killed-scalar_multiple braid is m (scalar braid a c) later
    (killed-carried_past braid is rack cocycle m a la (skew_derivative braid c f) (derived_over braid rack c lc f over) (h c lc))))

-- with f over the letters also `x_b f`
pub killed-letter_times : (braid : BraidValue) → IsField braid.field → IsRack braid → IsCocycle braid → (m : ℕ) (f : Combination) (b : ℕ) → IsOver braid.letters f → IsKilled braid m f → IsKilled braid (suc m) (letter_times b f)
killed-letter_times braid is rack cocycle zero f b over h = λ a la w. ap (λ g. value_at braid.field g w) (derived_is_extended braid a b f) ∙ extended_is_zero braid.field is (λ v. derived_word braid a (b ∷ v)) f h w
killed-letter_times braid is rack cocycle (suc m) f b over h = λ a la.
    let here : Combination = carried_past braid a f in
    let behind : Combination = letter_times b (skew_derivative braid a f) in
    killed_same braid is (suc m) ((if nat_eq a b then here else []) ++ behind) (skew_derivative braid a (letter_times b f)) (λ w. sym (skew_derivative-letter_times braid is a b f w))
    (killed-append braid is (suc m) (if nat_eq a b then here else []) behind
    (killed_chosen braid is (suc m) (nat_eq a b) here (killed-carried_past braid is rack cocycle (suc m) a la f over h))
    (killed-letter_times braid is rack cocycle m (skew_derivative braid a f) b (derived_over braid rack a la f over) (h a la)))

pub is_killed_is_left_ideal : (braid : BraidValue) → IsField braid.field → IsRack braid → IsCocycle braid → IsLeftIdealTest braid (is_killed braid)
is_killed_is_left_ideal braid is rack cocycle = record {
  linear = is_killed_is_linear braid is;
  left = λ m f b degree over letter h. is_killed_complete braid (suc m) (letter_times b f) (killed-letter_times braid is rack cocycle m f b over (is_killed_sound braid is m f h));
}
