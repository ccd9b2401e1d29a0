-- Combinations whose words have several lengths, part by part: what a test says of all parts, and the kernel.
use Rattle.std.proofs.Common.{◌≡◌, ℕ, zero, suc, ◌<◌, Bool, true, false, cond, nat_eq, List, [], ◌∷◌, ◌++◌, length, map, refl, sym, ◌∙◌, ap, ap₂, arith, inl, inr}
use Rattle.std.specs.Prelude.{◌↔◌}
use Rattle.std.specs.List.{AllByRecursion, list_all, range_with_len}
use Rattle.std.proofs.lemmas.Bool.{cases_lt}
use Rattle.std.proofs.lemmas.Bool.Decides.{nat_tests, Decides-eqb}
use Rattle.nichols_field.specs.Field.{FieldValue, IsField, negative}
use Rattle.nichols_tensor.specs.Combination.{Term, Combination, value_at, minus, scalar_multiple}
use Rattle.nichols_tensor.specs.Parts.{part, part_of_degree, longest, degrees_of}
use Rattle.nichols_tensor.proofs.Entries.{each_of, of_each}
use Rattle.nichols_tensor.proofs.Parts.{part-append, part-scalar_multiple, part-linear_map}
use Rattle.nichols_tensor.proofs.Values.{value_at-part}
use Rattle.nichols_braid.specs.Braid.{BraidValue}
use Rattle.nichols_braid.specs.Crossing.{cross, crossed_term}
use Rattle.nichols_braid.specs.Lift.{lift, bubble}
use Rattle.nichols_braid.specs.Symmetrizer.{permutations, lifts, symmetrizer_image}
use Rattle.nichols_braid.specs.Kernel.{Vanishing, IsInKernel, is_in_kernel, is_killed}
use Rattle.nichols_braid.specs.LinearTest.{IsLinearTest}
use Rattle.nichols_braid.specs.WholeKernel.{vanishes_by_parts}
use Rattle.nichols_braid.specs.WholeLaws.{KernelByParts}
use Rattle.nichols_braid.proofs.BraidLaws.{killed_is_linear, kernel_is_linear, killed_is_decided, kernel_is_decided}
use Rattle.nichols_braid.proofs.EndLaws.{in_numbers}

-- ---- a test of each part

-- no word is longer than the longest
pub part_beyond : (m : ℕ) (f : Combination) → longest f < m → part_of_degree m f ≡ []
unfolding longest
part_beyond m [] less = refl
part_beyond m (t ∷ f) less =
    let shorter : length t.word < m = omega arith in
    ap₂ (λ b r. cond b (t ∷ r) r) (let h : nat_eq (length t.word) m ≡ false = grind (arith, nat_tests) in h) (part_beyond m f (omega arith))

parts_pass : (test : ℕ → Combination → Bool) → ((m : ℕ) → test m [] ≡ true) → (f : Combination) → list_all (λ m. test m (part_of_degree m f)) (degrees_of f) ≡ true → (m : ℕ) → test m (part_of_degree m f) ≡ true
unfolding degrees_of
parts_pass test nothing f all m =
    elim (cases_lt (longest f) m) [
      | inl beyond ↦ ap (test m) (part_beyond m f beyond) ∙ nothing m
      | inr within ↦ of_each (λ m. test m (part_of_degree m f)) m (range_with_len 0 (suc (longest f))) all (in_numbers 0 (suc (longest f)) m (omega arith) (omega arith))
    ]

-- what holds of all parts holds of the part of each degree
pub by_parts : (vanishes : Vanishing) (braid : BraidValue) → ((m : ℕ) → IsLinearTest braid.field (vanishes braid m)) → (f : Combination) → (vanishes_by_parts vanishes braid f ≡ true) ↔ ((m : ℕ) → vanishes braid m (part_of_degree m f) ≡ true)
unfolding vanishes_by_parts
by_parts vanishes braid l f = (
  parts_pass (vanishes braid) (λ m. (l m).holds_of_zero) f,
  λ h. each_of (λ m. vanishes braid m (part_of_degree m f)) (degrees_of f) (λ m i. h m),
)

pub part-minus : (k : FieldValue) (test : List ℕ → Bool) (f g : Combination) → part test (minus k f g) ≡ minus k (part test f) (part test g)
part-minus k test f g = part-append test f (scalar_multiple k (negative k 1) g) ∙ ap (λ h. part test f ++ h) (part-scalar_multiple k test (negative k 1) g)

-- at the words of its own degree a part has the values of the whole
pub value_in_part : (k : FieldValue) → IsField k → (f : Combination) (w : List ℕ) → value_at k (part_of_degree (length w) f) w ≡ value_at k f w
value_in_part k is f w = value_at-part k is (λ v. nat_eq (length v) (length w)) f w ∙ ap (λ b. cond b (value_at k f w) 0) ((Decides-eqb (length w) (length w)).1 refl)

-- ---- the symmetrizer keeps lengths

pub cross_length : (braid : BraidValue) (i : ℕ) (w : List ℕ) → length (cross braid i w) ≡ length w
cross_length braid zero w = refl
cross_length braid (suc zero) [] = refl
cross_length braid (suc zero) (a ∷ []) = refl
cross_length braid (suc zero) (a ∷ b ∷ w) = refl
cross_length braid (suc (suc i)) [] = refl
cross_length braid (suc (suc i)) (a ∷ w) = ap suc (cross_length braid (suc i) w)

crossed_length : (braid : BraidValue) (places : List ℕ) (t : Term) → length (crossed_term braid places t).word ≡ length t.word
crossed_length braid [] t = refl
crossed_length braid (i ∷ places) t = crossed_length braid places _ ∙ cross_length braid i t.word

lifts_have_length : (braid : BraidValue) (w : List ℕ) → AllByRecursion (λ t. length t.word ≡ length w) (lifts braid w)
unfolding lifts lift
lifts_have_length braid w = each (permutations (length w))
  where
    each : (all : List (List ℕ)) → AllByRecursion (λ t. length t.word ≡ length w) (map (λ ends. lift braid ends w) all)
    each [] = tt
    each (ends ∷ all) = (crossed_length braid (bubble ends) (record { word = w; coefficient = 1 }), each all)

-- the part of an image is the image of the part
image-part : (braid : BraidValue) (m : ℕ) (f : Combination) → part_of_degree m (symmetrizer_image braid f) ≡ symmetrizer_image braid (part_of_degree m f)
image-part braid m f = part-linear_map braid.field (lifts braid) of_degree of_degree (λ w. each w (lifts braid w) (lifts_have_length braid w)) f
  where
    of_degree : List ℕ → Bool
    of_degree w = nat_eq (length w) m

    each : (w : List ℕ) (g : Combination) → AllByRecursion (λ t. length t.word ≡ length w) g → AllByRecursion (λ t. of_degree t.word ≡ of_degree w) g
    each w [] h = tt
    each w (t ∷ g) h = (ap (λ n. nat_eq n m) h.0, each w g h.1)

-- ---- the kernel

parts_in_kernel : (braid : BraidValue) → IsField braid.field → (f : Combination) → IsInKernel braid f → (m : ℕ) → IsInKernel braid (part_of_degree m f)
parts_in_kernel braid is f h m w =
    ap (λ g. value_at braid.field g w) (sym (image-part braid m f))
    ∙ value_at-part braid.field is (λ v. nat_eq (length v) m) (symmetrizer_image braid f) w
    ∙ at (nat_eq (length w) m) (h w)
  where
    at : (b : Bool) → value_at braid.field (symmetrizer_image braid f) w ≡ 0 → cond b (value_at braid.field (symmetrizer_image braid f) w) 0 ≡ 0
    at true e = e
    at false e = refl

whole_in_kernel : (braid : BraidValue) → IsField braid.field → (f : Combination) → ((m : ℕ) → IsInKernel braid (part_of_degree m f)) → IsInKernel braid f
whole_in_kernel braid is f h w =
    sym (value_in_part braid.field is (symmetrizer_image braid f) w) ∙ ap (λ g. value_at braid.field g w) (image-part braid (length w) f) ∙ h (length w) w

pub kernel_by_parts : KernelByParts
kernel_by_parts braid is f = record {
  kernel = (parts_in_kernel braid is.field f, whole_in_kernel braid is.field f);
  kernel_test = (
    λ h. whole_in_kernel braid is.field f (λ m. (kernel_is_decided braid is m (part_of_degree m f)).0 ((by_parts is_in_kernel braid (kernel_is_linear braid is) f).0 h m)),
    λ h. (by_parts is_in_kernel braid (kernel_is_linear braid is) f).1 (λ m. (kernel_is_decided braid is m (part_of_degree m f)).1 (parts_in_kernel braid is.field f h m)),
  );
  killed_test = (
    λ h m. (killed_is_decided braid is m (part_of_degree m f)).0 ((by_parts is_killed braid (killed_is_linear braid is) f).0 h m),
    λ h. (by_parts is_killed braid (killed_is_linear braid is) f).1 (λ m. (killed_is_decided braid is m (part_of_degree m f)).1 (h m)),
  );
}
