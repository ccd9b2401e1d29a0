-- The kernel of the symmetrizer is what all chains of derivations kill.
use Rattle.std.proofs.Common.{◌≡◌, ℕ, zero, suc, ◌≤◌, Bool, true, false, cond, ◌&&◌, List, [], ◌∷◌, ◌++◌, length, refl, sym, ◌∙◌, ap, ap₂, arith, nat_eq}
use Rattle.std.proofs.Math.Bool.{and_assoc}
use Rattle.std.specs.List.{flat_map, AllByRecursion, Contains}
use Rattle.std.proofs.lemmas.Bool.Decides.{Decides-eqb}
use Rattle.nichols_field.specs.Field.{FieldValue, IsField, plus}
use Rattle.nichols_field.proofs.FieldLaws.{plus_zero, zero_is_element}
use Rattle.nichols_tensor.specs.Combination.{Combination, value_at, HasSameValues, single, same_letters}
use Rattle.nichols_tensor.specs.Words.{up_to, IsOver, HasDegree}
use Rattle.nichols_tensor.proofs.Values.{value_is_element}
use Rattle.nichols_tensor.proofs.Letters.{from_up_to}
use Rattle.nichols_tensor.proofs.Tests.{same_answer}
use Rattle.nichols_braid.specs.Braid.{BraidValue, IsBraid, IsLetter}
use Rattle.nichols_braid.specs.Lift.{lift}
use Rattle.nichols_braid.specs.Symmetrizer.{permutations, lifts, symmetrizer_image}
use Rattle.nichols_braid.specs.Derivation.{skew_derivative}
use Rattle.nichols_braid.specs.Kernel.{IsInKernel, IsKilled, is_in_kernel, is_killed}
use Rattle.nichols_braid.specs.RightProduct.{times_letter}
use Rattle.nichols_braid.proofs.Maps.{extended_same_on, extended_identity, times_letter_is_zero}
use Rattle.nichols_braid.proofs.Killed.{killed-times_letter, is_killed_sound, is_killed_complete, is_in_kernel_sound, is_in_kernel_complete}
use Rattle.nichols_lift.proofs.Totals.{total_same, total_zero, one_letter, value_at-flat_map}
use Rattle.nichols_lift.proofs.Factorisation.{factors}
use Rattle.nichols_braid.proofs.Degrees.{derived_degree, derived_over, times_letter_degree, times_letter_over}

-- ---- words with different last letters differ

no_more : (t : Bool) (b a : ℕ) → (t && false) ≡ (false && nat_eq b a)
no_more true b a = refl
no_more false b a = refl

one_more : (t : Bool) → (t && true) ≡ (true && t)
one_more true = refl
one_more false = refl

longer : (v : List ℕ) (a : ℕ) → same_letters [] (v ++ a ∷ []) ≡ false
longer [] a = refl
longer (y ∷ v) a = refl

shorter : (v : List ℕ) (a : ℕ) → same_letters (v ++ a ∷ []) [] ≡ false
shorter [] a = refl
shorter (y ∷ v) a = refl

pushed_letters : (u v : List ℕ) (b a : ℕ) → same_letters (u ++ b ∷ []) (v ++ a ∷ []) ≡ (same_letters u v && nat_eq b a)
pushed_letters [] [] b a = one_more (nat_eq b a)
pushed_letters [] (y ∷ v) b a = ap (λ t. nat_eq b y && t) (longer v a) ∙ no_more (nat_eq b y) b a
pushed_letters (x ∷ u) [] b a = ap (λ t. nat_eq x a && t) (shorter u b) ∙ no_more (nat_eq x a) b a
pushed_letters (x ∷ u) (y ∷ v) b a = ap (λ t. nat_eq x y && t) (pushed_letters u v b a) ∙ sym (and_assoc (nat_eq x y) (same_letters u v) (nat_eq b a))

value_at-times_letter : (k : FieldValue) → IsField k → (f : Combination) (b : ℕ) (v : List ℕ) (a : ℕ) → value_at k (times_letter f b) (v ++ a ∷ []) ≡ cond (nat_eq b a) (value_at k f v) 0
value_at-times_letter k is [] b v a = at (nat_eq b a)
  where
    at : (t : Bool) → ◌≡◌ {A = ℕ} 0 (cond t 0 0)
    at true = refl
    at false = refl
value_at-times_letter k is (t ∷ f) b v a =
    ap₂ (λ c n. plus k (cond c t.coefficient 0) n) (pushed_letters t.word v b a) (value_at-times_letter k is f b v a)
    ∙ at (same_letters t.word v) (nat_eq b a) t.coefficient (value_at k f v)
  where
    at : (c d : Bool) (x n : ℕ) → plus k (cond (c && d) x 0) (cond d n 0) ≡ cond d (plus k (cond c x 0) n) 0
    at true true x n = refl
    at true false x n = plus_zero k 0 (zero_is_element k is)
    at false true x n = refl
    at false false x n = plus_zero k 0 (zero_is_element k is)

-- the sum over the letters at a word whose last letter is a shows the part of a
at_last : (k : FieldValue) → IsField k → (n : ℕ) (part : ℕ → Combination) (a : ℕ) → (1 ≤ a) × (a ≤ n) → (v : List ℕ) →
    value_at k (flat_map (λ b. times_letter (part b) b) (up_to n)) (v ++ a ∷ []) ≡ value_at k (part a) v
at_last k is n part a l v =
    value_at-flat_map k is (λ b. times_letter (part b) b) (up_to n) (v ++ a ∷ [])
    ∙ total_same k (λ b. value_at k (times_letter (part b) b) (v ++ a ∷ [])) (λ b. cond (nat_eq b a) (value_at k (part a) v) 0) (up_to n)
    (λ b i. value_at-times_letter k is (part b) b v a ∙ chosen (nat_eq b a) b (λ e. (Decides-eqb b a).0 e))
    ∙ one_letter k is n a (value_at k (part a) v) l (value_is_element k is (part a) v)
  where
    chosen : (t : Bool) (b : ℕ) → (t ≡ true → b ≡ a) → cond t (value_at k (part b) v) 0 ≡ cond t (value_at k (part a) v) 0
    chosen true b h = ap (λ c. value_at k (part c) v) (h refl)
    chosen false b h = refl

-- ---- degree 0

pub lifts_of_empty : (braid : BraidValue) → lifts braid [] ≡ single []
unfolding lifts permutations lift
lifts_of_empty braid = refl

pub symmetrized_0 : (braid : BraidValue) → IsField braid.field → (f : Combination) → HasDegree 0 f → HasSameValues braid.field (symmetrizer_image braid f) f
symmetrized_0 braid is f degree w = extended_same_on braid.field is (lifts braid) single f (each f degree) w ∙ extended_identity braid.field is f w
  where
    empty : (v : List ℕ) → length v ≡ 0 → HasSameValues braid.field (lifts braid v) (single v)
    empty [] size w = ap (λ g. value_at braid.field g w) (lifts_of_empty braid)
    empty (x ∷ v) size w = absurd (omega arith)

    each : (g : Combination) → HasDegree 0 g → AllByRecursion (λ t. HasSameValues braid.field (lifts braid t.word) (single t.word)) g
    each [] h = tt
    each (t ∷ g) h = (empty t.word h.0, each g h.1)

-- ---- every degree

pub killed_in_kernel : (braid : BraidValue) → IsBraid braid → (m : ℕ) (f : Combination) → HasDegree m f → IsOver braid.letters f → IsInKernel braid f → IsKilled braid m f
killed_in_kernel braid is zero f degree over h = λ w. sym (symmetrized_0 braid is.field f degree w) ∙ h w
killed_in_kernel braid is (suc m) f degree over h = λ a l.
    killed_in_kernel braid is m (skew_derivative braid a f) (derived_degree braid a m f degree) (derived_over braid is.rack a l f over)
    (λ v. sym (at_last braid.field is.field braid.letters (λ b. symmetrizer_image braid (skew_derivative braid b f)) a l v) ∙ sym (factors braid is m f degree over (v ++ a ∷ [])) ∙ h (v ++ a ∷ []))

pub in_kernel_killed : (braid : BraidValue) → IsBraid braid → (m : ℕ) (f : Combination) → HasDegree m f → IsOver braid.letters f → IsKilled braid m f → IsInKernel braid f
in_kernel_killed braid is zero f degree over h = λ w. symmetrized_0 braid is.field f degree w ∙ h w
in_kernel_killed braid is (suc m) f degree over h =
    let gone : (a : ℕ) → Contains (up_to braid.letters) a → IsInKernel braid (skew_derivative braid a f) =
    λ a i. in_kernel_killed braid is m (skew_derivative braid a f) (derived_degree braid a m f degree) (derived_over braid is.rack a (from_up_to braid.letters a i) f over) (h a (from_up_to braid.letters a i)) in
    λ w.
    factors braid is m f degree over w
    ∙ value_at-flat_map braid.field is.field (λ a. times_letter (symmetrizer_image braid (skew_derivative braid a f)) a) (up_to braid.letters) w
    ∙ total_zero braid.field is.field (λ a. value_at braid.field (times_letter (symmetrizer_image braid (skew_derivative braid a f)) a) w) (up_to braid.letters)
    (λ a i. times_letter_is_zero braid.field is.field (symmetrizer_image braid (skew_derivative braid a f)) a (gone a i) w)

-- the two tests agree
pub tests_agree : (braid : BraidValue) → IsBraid braid → (m : ℕ) (f : Combination) → HasDegree m f → IsOver braid.letters f → is_in_kernel braid m f ≡ is_killed braid m f
tests_agree braid is m f degree over =
    same_answer (is_in_kernel braid m f) (is_killed braid m f)
    (λ h. is_killed_complete braid m f (killed_in_kernel braid is m f degree over (is_in_kernel_sound braid is.field m f h)))
    (λ h. is_in_kernel_complete braid m f (in_kernel_killed braid is m f degree over (is_killed_sound braid is.field m f h)))

-- the kernel is a right ideal
pub in_kernel-times_letter : (braid : BraidValue) → IsBraid braid → (m : ℕ) (f : Combination) (b : ℕ) → HasDegree m f → IsOver braid.letters f → IsLetter braid b → IsInKernel braid f → IsInKernel braid (times_letter f b)
in_kernel-times_letter braid is m f b degree over letter h =
    in_kernel_killed braid is (suc m) (times_letter f b) (times_letter_degree m f b degree) (times_letter_over braid.letters f b letter over)
    (killed-times_letter braid is.field is.rack m f b letter (killed_in_kernel braid is m f degree over h))
