-- What the derivations kill: it is a linear subspace, and a right ideal; and the test of it.
use Rattle.std.proofs.Common.{◌≡◌, ℕ, zero, suc, Bool, true, false, [], ◌++◌, refl, sym, ◌∙◌, ap, nat_eq}
use Rattle.std.specs.Prelude.{if◌then◌else◌}
use Rattle.nichols_field.specs.Field.{FieldValue, IsField, plus, times}
use Rattle.nichols_field.proofs.FieldLaws.{plus_zero, times_zero, zero_is_element}
use Rattle.nichols_tensor.specs.Combination.{Combination, value_at, HasSameValues, IsZero, scalar_multiple}
use Rattle.nichols_tensor.specs.Words.{up_to}
use Rattle.nichols_tensor.proofs.Entries.{each_of, of_each}
use Rattle.nichols_tensor.proofs.Values.{value_at-append, value_at-scalar_multiple}
use Rattle.nichols_tensor.proofs.Zero.{is_zero_sound, is_zero_complete}
use Rattle.nichols_tensor.proofs.Linear.{same_images, linear_map-append, linear_map-scalar_multiple, extended_is_zero}
use Rattle.nichols_tensor.proofs.Letters.{in_up_to, from_up_to}
use Rattle.nichols_braid.specs.Braid.{BraidValue, IsLetter, IsRack, act, scalar}
use Rattle.nichols_braid.specs.Derivation.{derived_word, skew_derivative}
use Rattle.nichols_braid.specs.Symmetrizer.{lifts, symmetrizer_image}
use Rattle.nichols_braid.specs.Kernel.{IsKilled, IsInKernel, is_killed, is_in_kernel}
use Rattle.nichols_braid.specs.RightProduct.{times_letter}
use Rattle.nichols_braid.specs.LinearTest.{IsLinearTest}
use Rattle.nichols_braid.proofs.Maps.{times_letter_is_zero}
use Rattle.nichols_braid.proofs.Rule.{skew_derivative-times_letter}

zero-append : (k : FieldValue) → IsField k → (f g : Combination) → IsZero k f → IsZero k g → IsZero k (f ++ g)
zero-append k is f g h l w = value_at-append k is f g w ∙ ap (λ n. plus k n (value_at k g w)) (h w) ∙ ap (plus k 0) (l w) ∙ plus_zero k 0 (zero_is_element k is)

zero-scalar_multiple : (k : FieldValue) → IsField k → (c : ℕ) (f : Combination) → IsZero k f → IsZero k (scalar_multiple k c f)
zero-scalar_multiple k is c f h w = value_at-scalar_multiple k is c f w ∙ ap (times k c) (h w) ∙ times_zero k c is

pub killed_same : (braid : BraidValue) → IsField braid.field → (m : ℕ) (f g : Combination) → HasSameValues braid.field f g → IsKilled braid m f → IsKilled braid m g
killed_same braid is zero f g same h = λ w. sym (same w) ∙ h w
killed_same braid is (suc m) f g same h = λ a l.
    killed_same braid is m (skew_derivative braid a f) (skew_derivative braid a g) (same_images braid.field is (derived_word braid a) f g same) (h a l)

pub killed_zero : (braid : BraidValue) → IsField braid.field → (m : ℕ) (f : Combination) → IsZero braid.field f → IsKilled braid m f
killed_zero braid is zero f h = h
killed_zero braid is (suc m) f h = λ a l. killed_zero braid is m (skew_derivative braid a f) (extended_is_zero braid.field is (derived_word braid a) f h)

pub killed-append : (braid : BraidValue) → IsField braid.field → (m : ℕ) (f g : Combination) → IsKilled braid m f → IsKilled braid m g → IsKilled braid m (f ++ g)
killed-append braid is zero f g h l = zero-append braid.field is f g h l
killed-append braid is (suc m) f g h l = λ a letter.
    killed_same braid is m (skew_derivative braid a f ++ skew_derivative braid a g) (skew_derivative braid a (f ++ g)) (λ w. ap (λ x. value_at braid.field x w) (sym (linear_map-append braid.field (derived_word braid a) f g)))
    (killed-append braid is m (skew_derivative braid a f) (skew_derivative braid a g) (h a letter) (l a letter))

pub killed-scalar_multiple : (braid : BraidValue) → IsField braid.field → (m c : ℕ) (f : Combination) → IsKilled braid m f → IsKilled braid m (scalar_multiple braid.field c f)
killed-scalar_multiple braid is zero c f h = zero-scalar_multiple braid.field is c f h
killed-scalar_multiple braid is (suc m) c f h = λ a l.
    killed_same braid is m (scalar_multiple braid.field c (skew_derivative braid a f)) (skew_derivative braid a (scalar_multiple braid.field c f)) (λ w. sym (linear_map-scalar_multiple braid.field is (derived_word braid a) c f w))
    (killed-scalar_multiple braid is m c (skew_derivative braid a f) (h a l))

-- ---- the right ideal

pub killed_chosen : (braid : BraidValue) → IsField braid.field → (m : ℕ) (c : Bool) (f : Combination) → IsKilled braid m f → IsKilled braid m (if c then f else [])
killed_chosen braid is m true f h = h
killed_chosen braid is m false f h = killed_zero braid is m [] (λ w. refl)

pub killed-times_letter : (braid : BraidValue) → IsField braid.field → IsRack braid → (m : ℕ) (f : Combination) (b : ℕ) → IsLetter braid b → IsKilled braid m f → IsKilled braid (suc m) (times_letter f b)
killed-times_letter braid is rack zero f b l h = killed_zero braid is 1 (times_letter f b) (times_letter_is_zero braid.field is f b h)
killed-times_letter braid is rack (suc m) f b l h = λ a la.
    let later : Combination = scalar_multiple braid.field (scalar braid a b) (times_letter (skew_derivative braid a f) (act braid a b)) in
    killed_same braid is (suc m) ((if nat_eq a b then f else []) ++ later) (skew_derivative braid a (times_letter f b)) (λ w. sym (skew_derivative-times_letter braid is a b f w))
    (killed-append braid is (suc m) (if nat_eq a b then f else []) later (killed_chosen braid is (suc m) (nat_eq a b) f h)
    (killed-scalar_multiple braid is (suc m) (scalar braid a b) (times_letter (skew_derivative braid a f) (act braid a b))
    (killed-times_letter braid is rack m (skew_derivative braid a f) (act braid a b) (rack.closed a b la l) (h a la))))

-- ---- the test

pub is_killed_sound : (braid : BraidValue) → IsField braid.field → (m : ℕ) (f : Combination) → is_killed braid m f ≡ true → IsKilled braid m f
unfolding is_killed
is_killed_sound braid is zero f h = is_zero_sound braid.field is f h
is_killed_sound braid is (suc m) f h = λ a l.
    is_killed_sound braid is m (skew_derivative braid a f) (of_each (λ b. is_killed braid m (skew_derivative braid b f)) a (up_to braid.letters) h (in_up_to braid.letters a l))

pub is_killed_complete : (braid : BraidValue) (m : ℕ) (f : Combination) → IsKilled braid m f → is_killed braid m f ≡ true
unfolding is_killed
is_killed_complete braid zero f h = is_zero_complete braid.field f h
is_killed_complete braid (suc m) f h =
    each_of (λ b. is_killed braid m (skew_derivative braid b f)) (up_to braid.letters) (λ b i. is_killed_complete braid m (skew_derivative braid b f) (h b (from_up_to braid.letters b i)))

pub is_in_kernel_sound : (braid : BraidValue) → IsField braid.field → (m : ℕ) (f : Combination) → is_in_kernel braid m f ≡ true → IsInKernel braid f
unfolding is_in_kernel
is_in_kernel_sound braid is m f h = is_zero_sound braid.field is (symmetrizer_image braid f) h

pub is_in_kernel_complete : (braid : BraidValue) (m : ℕ) (f : Combination) → IsInKernel braid f → is_in_kernel braid m f ≡ true
unfolding is_in_kernel
is_in_kernel_complete braid m f h = is_zero_complete braid.field (symmetrizer_image braid f) h

-- ---- both tests are linear

pub is_killed_is_linear : (braid : BraidValue) → IsField braid.field → (m : ℕ) → IsLinearTest braid.field (is_killed braid m)
is_killed_is_linear braid is m = record {
  sees_values = λ f g same h. is_killed_complete braid m g (killed_same braid is m f g same (is_killed_sound braid is m f h));
  holds_of_zero = is_killed_complete braid m [] (killed_zero braid is m [] (λ w. refl));
  keeps_sums = λ f g h l. is_killed_complete braid m (f ++ g) (killed-append braid is m f g (is_killed_sound braid is m f h) (is_killed_sound braid is m g l));
  keeps_multiples = λ c f h. is_killed_complete braid m (scalar_multiple braid.field c f) (killed-scalar_multiple braid is m c f (is_killed_sound braid is m f h));
}

pub kernel_same : (braid : BraidValue) → IsField braid.field → (f g : Combination) → HasSameValues braid.field f g → IsInKernel braid f → IsInKernel braid g
kernel_same braid is f g same h w = sym (same_images braid.field is (lifts braid) f g same w) ∙ h w

pub kernel-append : (braid : BraidValue) → IsField braid.field → (f g : Combination) → IsInKernel braid f → IsInKernel braid g → IsInKernel braid (f ++ g)
kernel-append braid is f g h l w =
    ap (λ x. value_at braid.field x w) (linear_map-append braid.field (lifts braid) f g) ∙ zero-append braid.field is (symmetrizer_image braid f) (symmetrizer_image braid g) h l w

kernel-scalar_multiple : (braid : BraidValue) → IsField braid.field → (c : ℕ) (f : Combination) → IsInKernel braid f → IsInKernel braid (scalar_multiple braid.field c f)
kernel-scalar_multiple braid is c f h w = linear_map-scalar_multiple braid.field is (lifts braid) c f w ∙ zero-scalar_multiple braid.field is c (symmetrizer_image braid f) h w

pub is_in_kernel_is_linear : (braid : BraidValue) → IsField braid.field → (m : ℕ) → IsLinearTest braid.field (is_in_kernel braid m)
is_in_kernel_is_linear braid is m = record {
  sees_values = λ f g same h. is_in_kernel_complete braid m g (kernel_same braid is f g same (is_in_kernel_sound braid is m f h));
  holds_of_zero = is_in_kernel_complete braid m [] (λ w. refl);
  keeps_sums = λ f g h l. is_in_kernel_complete braid m (f ++ g) (kernel-append braid is f g (is_in_kernel_sound braid is m f h) (is_in_kernel_sound braid is m g l));
  keeps_multiples = λ c f h. is_in_kernel_complete braid m (scalar_multiple braid.field c f) (kernel-scalar_multiple braid is c f (is_in_kernel_sound braid is m f h));
}
