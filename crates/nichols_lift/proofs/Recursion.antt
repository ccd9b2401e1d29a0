-- The image under the quantum symmetrizer, put together letter by letter.
use Rattle.std.proofs.Common.{◌≡◌, ℕ, suc, ◌+◌, ◌-◌, ◌<◌, ◌≤◌, List, [], ◌∷◌, ◌++◌, length, sym, ◌∙◌, ap, ap₂, subst, arith, add-one}
use Rattle.std.specs.List.{AllByRecursion}
use Rattle.std.proofs.lemmas.List.{append-nil}
use Rattle.nichols_field.specs.Field.{FieldValue, IsField, IsElement, plus}
use Rattle.nichols_field.proofs.FieldLaws.{plus_zero, plus_assoc}
use Rattle.nichols_tensor.specs.declared.TheConstants.{WORD_LIMIT}
use Rattle.nichols_tensor.specs.Combination.{Combination, HasSameValues, value_at, AllElements, IsZero}
use Rattle.nichols_tensor.specs.Words.{IsOver, HasDegree, up_to}
use Rattle.nichols_tensor.proofs.Entries.{contains_none}
use Rattle.nichols_tensor.proofs.Values.{value_is_element, value_at-append}
use Rattle.nichols_tensor.proofs.Building.{elements-append}
use Rattle.nichols_tensor.proofs.Linear.{same_images, extended_is_zero}
use Rattle.nichols_braid.specs.Braid.{BraidValue, IsBraid}
use Rattle.nichols_braid.specs.Symmetrizer.{lifts, symmetrizer_image}
use Rattle.nichols_braid.specs.Derivation.{skew_derivative}
use Rattle.nichols_braid.specs.RightProduct.{times_letter}
use Rattle.nichols_braid.proofs.Maps.{times_letter_same, times_letter_is_zero}
use Rattle.nichols_lift.specs.declared.TheConstants.{PLACE_LIMIT}
use Rattle.nichols_lift.specs.Lengths.{AllAtMost}
use Rattle.nichols_lift.proofs.Totals.{total, total_zero, total-append, alone}
use Rattle.nichols_lift.proofs.Kernel.{symmetrized_0}
use Rattle.nichols_lift.proofs.Parts.{constant, letter_part, image_is}

-- what was put out has the values of the constant term of f and of the parts of the first n letters
pub record IsSummed (braid : BraidValue) (f : Combination) (n : ℕ) (out : Combination) : Type 0 where
  pub value : (v : List ℕ) → value_at braid.field out v ≡ plus braid.field (value_at braid.field (constant (value_at braid.field f [])) v) (total braid.field (λ a. value_at braid.field (letter_part braid f a) v) (up_to n))
  pub elements : AllElements braid.field out

no_letters : (k : FieldValue) → IsField k → (φ : ℕ → ℕ) → total k φ [] ≡ 0
no_letters k is φ = total_zero k is φ [] (λ j i. absurd (contains_none j i))

pub summed_start : (braid : BraidValue) → IsField braid.field → (f : Combination) (c : ℕ) → value_at braid.field f [] ≡ c → IsSummed braid f 0 (constant c)
summed_start braid is f c e = record {
  value = λ v.
      ap (λ n. value_at k (constant n) v) (sym e) ∙ sym (plus_zero k (value_at k (constant (value_at k f [])) v) (value_is_element k is (constant (value_at k f [])) v))
      ∙ ap (plus k (value_at k (constant (value_at k f [])) v)) (sym (no_letters k is (λ a. value_at k (letter_part braid f a) v)));
  elements = (subst (IsElement k) e (value_is_element k is f []), tt);
}
  where
    k : FieldValue
    k = braid.field

-- one letter more
more_letters : (k : FieldValue) → IsField k → (φ : ℕ → ℕ) (n : ℕ) → total k φ (up_to (suc n)) ≡ plus k (total k φ (up_to n)) (plus k (φ (suc n)) 0)
more_letters k is φ n = total-append k is φ (up_to n) (suc n ∷ []) ∙ ap (plus k (total k φ (up_to n))) (alone k φ (suc n))

summed_more : (braid : BraidValue) → IsField braid.field → (f : Combination) (n : ℕ) (out part : Combination) → IsSummed braid f n out → AllElements braid.field part → HasSameValues braid.field part (letter_part braid f (suc n)) → IsSummed braid f (suc n) (out ++ part)
summed_more braid is f n out part h elements same = record {
  value = λ v.
      let φ : ℕ → ℕ = λ a. value_at k (letter_part braid f a) v in
      let first : ℕ = value_at k (constant (value_at k f [])) v in
      value_at-append k is out part v ∙ ap₂ (plus k) (h.value v) (same v)
      ∙ plus_assoc k first (total k φ (up_to n)) (φ (suc n))
      ∙ ap (λ m. plus k first (plus k (total k φ (up_to n)) m)) (sym (plus_zero k (φ (suc n)) (value_is_element k is (letter_part braid f (suc n)) v)))
      ∙ ap (plus k first) (sym (more_letters k is φ n));
  elements = elements-append k out part h.elements elements;
}
  where
    k : FieldValue
    k = braid.field

elements-times_letter : (k : FieldValue) (f : Combination) (b : ℕ) → AllElements k f → AllElements k (times_letter f b)
elements-times_letter k [] b h = tt
elements-times_letter k (t ∷ f) b h = (h.0, elements-times_letter k f b h.1)

-- a letter with a derivative, and the image of that
pub summed-part : (braid : BraidValue) → IsField braid.field → (f : Combination) (n letter m : ℕ) (out derivative part next : Combination) → IsSummed braid f n out → letter ≡ n + 1 → m ≡ n + 1 →
    HasSameValues braid.field derivative (skew_derivative braid letter f) → HasSameValues braid.field part (symmetrizer_image braid derivative) → AllElements braid.field part → next ≡ out ++ times_letter part letter → IsSummed braid f m next
summed-part braid is f n letter m out derivative part next h at count derivative_is part_is elements next_is =
    let k : FieldValue = braid.field in
    let same : HasSameValues k part (symmetrizer_image braid (skew_derivative braid (suc n) f)) = λ v. part_is v ∙ same_images k is (lifts braid) derivative (skew_derivative braid letter f) derivative_is v ∙ ap (λ a. value_at k (symmetrizer_image braid (skew_derivative braid a f)) v) (at ∙ add-one n) in
    subst (λ i. IsSummed braid f i next) (sym (count ∙ add-one n))
    (subst (IsSummed braid f (suc n)) (sym (next_is ∙ ap (λ a. out ++ times_letter part a) (at ∙ add-one n)))
    (summed_more braid is f n out (times_letter part (suc n)) h (elements-times_letter k part (suc n) elements) (times_letter_same k is part (symmetrizer_image braid (skew_derivative braid (suc n) f)) (suc n) same)))

-- a letter whose derivative is zero
pub summed-skip : (braid : BraidValue) → IsField braid.field → (f : Combination) (n letter m : ℕ) (out derivative : Combination) → IsSummed braid f n out → letter ≡ n + 1 → m ≡ n + 1 →
    HasSameValues braid.field derivative (skew_derivative braid letter f) → derivative ≡ [] → IsSummed braid f m out
summed-skip braid is f n letter m out derivative h at count derivative_is none =
    let k : FieldValue = braid.field in
    let gone : IsZero k (skew_derivative braid (suc n) f) = λ v. ap (λ a. value_at k (skew_derivative braid a f) v) (sym (at ∙ add-one n)) ∙ sym (derivative_is v) ∙ ap (λ g. value_at k g v) none in
    let zero_part : IsZero k (letter_part braid f (suc n)) = times_letter_is_zero k is (symmetrizer_image braid (skew_derivative braid (suc n) f)) (suc n) (extended_is_zero k is (lifts braid) (skew_derivative braid (suc n) f) gone) in
    subst (λ i. IsSummed braid f i out) (sym (count ∙ add-one n))
    (subst (IsSummed braid f (suc n)) (append-nil out) (summed_more braid is f n out [] h tt (λ v. sym (zero_part v))))

pub summed_all : (braid : BraidValue) → IsBraid braid → (f : Combination) → IsOver braid.letters f → (n : ℕ) (out r : Combination) → n ≡ braid.letters → IsSummed braid f n out → HasSameValues braid.field r out → HasSameValues braid.field r (symmetrizer_image braid f)
summed_all braid is f over n out r count h same v =
    same v ∙ h.value v ∙ ap (λ m. plus braid.field (value_at braid.field (constant (value_at braid.field f [])) v) (total braid.field (λ a. value_at braid.field (letter_part braid f a) v) (up_to m))) count ∙ sym (image_is braid is f over v)

-- words of no letters
pub image_of_constants : (braid : BraidValue) → IsField braid.field → (f r : Combination) (limit : ℕ) → limit ≡ 0 → AllAtMost limit f → r ≡ f → HasSameValues braid.field r (symmetrizer_image braid f)
image_of_constants braid is f r limit none short same v = ap (λ g. value_at braid.field g v) same ∙ sym (symmetrized_0 braid is f (each f short) v)
  where
    each : (g : Combination) → AllAtMost limit g → HasDegree 0 g
    each [] h = tt
    each (t ∷ g) h = (let few : length t.word ≤ limit = h.0 in omega arith, each g h.1)

pub with_room : (f : Combination) (limit : ℕ) → limit ≤ PLACE_LIMIT → AllAtMost (limit - 1) f → AllByRecursion (λ t. length t.word < WORD_LIMIT) f
with_room [] limit few h = tt
with_room (t ∷ f) limit few h = (let short : length t.word ≤ limit - 1 = h.0 in omega arith, with_room f limit few h.1)
