-- The entries of images under the quantum symmetrizer tell which combinations are in its kernel.
use Rattle.std.proofs.Common.{◌≡◌, ℕ, Bool, true, false, cond, List, [], ◌∷◌, length, refl, sym, ◌∙◌, ap, ap₂, subst, nat_eq, ◌⊎◌, inl, inr}
use Rattle.std.proofs.lemmas.Bool.{eqb-true, eq-eqb}
use Rattle.std.specs.List.{AllByRecursion, Contains}
use Rattle.std.specs.Cmp.Lexicographic.{same_text}
use Rattle.nichols_field.specs.Field.{FieldValue, IsField, IsElement, plus, times}
use Rattle.nichols_field.proofs.FieldLaws.{times_one, times_zero}
use Rattle.nichols_tensor.specs.Combination.{Combination, HasSameValues, IsZero, AllElements, value_at, same_letters, words_of, single}
use Rattle.nichols_tensor.specs.Words.{IsWordOver, IsOver, HasDegree}
use Rattle.nichols_tensor.proofs.Values.{weight, weight_is_element, weightless, same_itself, weight-linear_map}
use Rattle.nichols_tensor.proofs.Linear.{same_weights, linear_map-single}
use Rattle.nichols_tensor.proofs.Building.{elements-linear_map}
use Rattle.nichols_tensor.proofs.Over.{all_at, all_among, all_of_words}
use Rattle.nichols_tensor.proofs.Ordered.{is_in_or_not, zero_at_others}
use Rattle.nichols_tensor.proofs.Tests.{same_answer, all_of_entries}
use Rattle.nichols_braid.specs.Braid.{BraidValue, IsBraid}
use Rattle.nichols_braid.specs.Symmetrizer.{lifts, symmetrizer_image}
use Rattle.nichols_braid.specs.Kernel.{is_in_kernel}
use Rattle.nichols_braid.proofs.Maps.{same_weight_on, everywhere}
use Rattle.nichols_braid.proofs.Killed.{is_in_kernel_sound, is_in_kernel_complete}
use Rattle.nichols_rows.proofs.Rows.{AreFunctionals}
use Rattle.nichols_echelon.specs.Cells.{entry}
use Rattle.nichols_braid.proofs.KeptProducts.{cross_over}
use Rattle.nichols_lift.proofs.Parts.{symmetrized_words}
use Rattle.nichols_plain.specs.Columns.{number_of, row_of, image_entry}
use Rattle.nichols_plain.proofs.Numbers.{same_number}
use Rattle.nichols_braid.proofs.WholeKernel.{cross_length}

-- 1 at the words with this number
abbrev pub at_column : ℕ → ℕ → List ℕ → ℕ
at_column n c v = cond (nat_eq (number_of n v) c) 1 0

chosen_one : (k : FieldValue) → IsField k → (b : Bool) (c : ℕ) → IsElement k c → cond b c 0 ≡ times k c (cond b 1 0)
chosen_one k is true c e = sym (times_one k c e)
chosen_one k is false c e = sym (times_zero k c is)

-- the entry at a column is a linear map of the values
pub entry_is_weight : (k : FieldValue) → IsField k → (n c : ℕ) (f : Combination) → AllElements k f → entry k (row_of n f) c ≡ weight k (at_column n c) f
unfolding entry weight
entry_is_weight k is n c [] e = refl
entry_is_weight k is n c (t ∷ f) e = ap₂ (plus k) (chosen_one k is (nat_eq (number_of n t.word) c) t.coefficient e.0) (entry_is_weight k is n c f e.1)

pub entry_of_same : (k : FieldValue) → IsField k → (n c : ℕ) (f g : Combination) → AllElements k f → AllElements k g → HasSameValues k f g → entry k (row_of n f) c ≡ entry k (row_of n g) c
entry_of_same k is n c f g e h same = entry_is_weight k is n c f e ∙ same_weights k is (at_column n c) f g same ∙ sym (entry_is_weight k is n c g h)

pub image_elements : (braid : BraidValue) → IsField braid.field → (f : Combination) → AllElements braid.field (symmetrizer_image braid f)
image_elements braid is f = elements-linear_map braid.field is (lifts braid) f

image_entry_is : (braid : BraidValue) → IsField braid.field → (c : ℕ) (w : List ℕ) → image_entry braid c w ≡ weight braid.field (at_column braid.letters c) (lifts braid w)
unfolding image_entry
image_entry_is braid is c w =
    entry_is_weight braid.field is braid.letters c (symmetrizer_image braid (single w)) (image_elements braid is (single w))
    ∙ same_weights braid.field is (at_column braid.letters c) (symmetrizer_image braid (single w)) (lifts braid w) (linear_map-single braid.field is (lifts braid) w)

weight_of_entries : (braid : BraidValue) → IsField braid.field → (c : ℕ) (f : Combination) → weight braid.field (image_entry braid c) f ≡ weight braid.field (at_column braid.letters c) (symmetrizer_image braid f)
weight_of_entries braid is c f =
    let k : FieldValue = braid.field in
    same_weight_on k (image_entry braid c) (λ w. weight k (at_column braid.letters c) (lifts braid w)) f
    (everywhere (λ t. image_entry braid c t.word ≡ weight k (at_column braid.letters c) (lifts braid t.word)) f (λ t. image_entry_is braid is c t.word))
    ∙ sym (weight-linear_map k is (at_column braid.letters c) (lifts braid) f)

-- ---- the value at a word is the entry at its column

abbrev IsWordOf : ℕ → ℕ → List ℕ → Type 0
IsWordOf n m w = (length w ≡ m) × IsWordOver n w

value_is_entry : (k : FieldValue) → IsField k → (n m : ℕ) (f : Combination) (v : List ℕ) → AllElements k f → AllByRecursion (λ t. IsWordOf n m t.word) f → IsWordOf n m v → value_at k f v ≡ weight k (at_column n (number_of n v)) f
unfolding weight
value_is_entry k is n m [] v e h here = refl
value_is_entry k is n m (t ∷ f) v e h here =
    let tests : same_letters t.word v ≡ nat_eq (number_of n t.word) (number_of n v) =
    same_answer (same_letters t.word v) (nat_eq (number_of n t.word) (number_of n v)) (λ s. eq-eqb (number_of n t.word) (number_of n v) (ap (number_of n) (same_text t.word v (sym s))))
    (λ s. ap (same_letters t.word) (sym (same_number n t.word v (h.0.0 ∙ sym here.0) h.0.1 here.1 (eqb-true (number_of n t.word) (number_of n v) s))) ∙ same_itself t.word) in
    ap₂ (plus k) (ap (λ b. cond b t.coefficient 0) tests ∙ chosen_one k is (nat_eq (number_of n t.word) (number_of n v)) t.coefficient e.0) (value_is_entry k is n m f v e.1 h.1 here)

both : (n m : ℕ) (f : Combination) → HasDegree m f → IsOver n f → AllByRecursion (λ t. IsWordOf n m t.word) f
both n m [] d o = tt
both n m (t ∷ f) d o = ((d.0, o.0), both n m f d.1 o.1)

zero_by_entries : (k : FieldValue) → IsField k → (n m : ℕ) (f : Combination) → AllElements k f → HasDegree m f → IsOver n f → ((c : ℕ) → weight k (at_column n c) f ≡ 0) → IsZero k f
zero_by_entries k is n m f e d o h v = at (is_in_or_not v (words_of f))
  where
    at : Contains (words_of f) v ⊎ (Contains (words_of f) v → ⊥) → value_at k f v ≡ 0
    at (inl here) = value_is_entry k is n m f v e (both n m f d o) (all_at (IsWordOf n m) (words_of f) v (all_of_words (IsWordOf n m) f (both n m f d o)) here) ∙ h (number_of n v)
    at (inr none) = zero_at_others k is f v none

-- ---- the family

pub image_entries_tell : (braid : BraidValue) → IsBraid braid → (m : ℕ) (ws : List (List ℕ)) → ((w : List ℕ) → Contains ws w → length w ≡ m) → ((w : List ℕ) → Contains ws w → IsWordOver braid.letters w) →
    AreFunctionals braid.field (is_in_kernel braid m) ws (image_entry braid)
image_entries_tell braid is m ws degree over = record {
  elements = λ c w i. subst (IsElement k) (sym (image_entry_is braid is.field c w)) (weight_is_element k is.field (at_column braid.letters c) (lifts braid w));
  sound = λ f among e h c. weight_of_entries braid is.field c f ∙ weightless k is.field (at_column braid.letters c) (symmetrizer_image braid f) (is_in_kernel_sound braid is.field m f h);
  complete = λ f among e h.
      is_in_kernel_complete braid m f
      (zero_by_entries k is.field braid.letters m (symmetrizer_image braid f) (image_elements braid is.field f)
      (symmetrized_words (λ w. length w ≡ m) braid (λ i w p. cross_length braid i w ∙ p) f (all_among (λ w. length w ≡ m) f ws among (each (λ w. length w ≡ m) ws degree)))
      (symmetrized_words (IsWordOver braid.letters) braid (λ i w p. cross_over braid is.rack i w p) f (all_among (IsWordOver braid.letters) f ws among (each (IsWordOver braid.letters) ws over)))
      (λ c. sym (weight_of_entries braid is.field c f) ∙ h c));
}
  where
    k : FieldValue
    k = braid.field

    each : (P : List ℕ → Type 0) (vs : List (List ℕ)) → ((w : List ℕ) → Contains vs w → P w) → AllByRecursion P vs
    each P vs h = all_of_entries P vs h
