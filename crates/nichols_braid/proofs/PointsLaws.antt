-- The laws of the transpositions of points, each as its statement has it.
use Rattle.std.proofs.Common.{◌≡◌, ℕ, ◌<◌, ◌≤◌, refl, sym, ◌∙◌, ap, subst, arith, ◌⊎◌, inl, inr}
use Rattle.std.specs.Prelude.{pos}
use Rattle.std.proofs.lemmas.Bool.{cases_order}
use Rattle.nichols_field.specs.Field.{modulus_of, negative, prime_field}
use Rattle.nichols_field.proofs.OnNumerals.{field_on_numerals}
use Rattle.nichols_tensor.specs.Words.{IsLetterOf}
use Rattle.nichols_braid.specs.Braid.{act}
use Rattle.nichols_braid.specs.Points.{points_braid}
use Rattle.nichols_braid.specs.PointsLaws.{IsTransposition, letter_for, LettersAreTranspositions, HasImagesOf, ActIsConjugation, ScalarsAreMinusOne, PointsAreBraids}
use Rattle.nichols_braid.specs.Transpositions.{Transposition, image_under, conjugate, transpositions}
use Rattle.nichols_braid.proofs.Numbered.{numbers_rise}
use Rattle.nichols_braid.proofs.OrderedPairs.{in_transpositions, transpositions_rise}
use Rattle.nichols_braid.proofs.PointsBraid.{count, letters_are, of_letter, letter_for_transposition, of_letter_for, letter_for_of, of_letter_is, of_act, scalar_is, points_field, is_braid_of_points}
use Rattle.nichols_braid.proofs.Transposed.{conjugate_is_product, conjugate_has_images}

letter_here : (k a : ℕ) → IsLetterOf (points_braid k).letters a → IsLetterOf (count k) a
letter_here k a l = subst (λ n. IsLetterOf n a) (letters_are k) l

pub letters_are_transpositions : LettersAreTranspositions
letters_are_transpositions k = record {
  letter = λ t h. subst (λ n. IsLetterOf n (letter_for k t)) (sym (letters_are k)) (letter_for_transposition k t h);
  each = λ i l. (of_letter k i, of_letter_is k i (letter_here k i l), letter_for_of k i (letter_here k i l));
  rising = λ s t h l before. numbers_rise (transpositions k) (transpositions_rise k) s t (in_transpositions k s h) (in_transpositions k t l) before;
}

-- the transposition that a letter for u has
act_is_conjugate : (k : ℕ) (s t u : Transposition) → IsTransposition k s → IsTransposition k t → IsTransposition k u → act (points_braid k) (letter_for k s) (letter_for k t) ≡ letter_for k u → conjugate s t ≡ u
act_is_conjugate k s t u h l m e =
    sym (ap (λ v. conjugate v t) (of_letter_for k s h))
    ∙ sym (ap (conjugate (of_letter k (letter_for k s))) (of_letter_for k t l))
    ∙ sym (of_act k (letter_for k s) (letter_for k t) (letter_for_transposition k s h) (letter_for_transposition k t l))
    ∙ ap (of_letter k) e
    ∙ of_letter_for k u m

pub act_is_conjugation : ActIsConjugation
act_is_conjugation k s t u h l m e =
    let same : conjugate s t ≡ u = act_is_conjugate k s t u h l m e in (
      subst (HasImagesOf s t) same (conjugate_has_images s t),
      λ x. ap (λ v. image_under v x) (sym same) ∙ conjugate_is_product s t x,
    )

points_modulus : modulus_of (prime_field (pos 101)) ≡ 101
unfolding field_on_numerals
points_modulus = refl

hundred_is_minus_one : negative (prime_field (pos 101)) 1 ≡ 100
unfolding field_on_numerals
hundred_is_minus_one = refl

pub scalars_are_minus_one : ScalarsAreMinusOne
scalars_are_minus_one k i j l m = (
  ap modulus_of (points_field k) ∙ points_modulus,
  scalar_is k i j (letter_here k i l) (letter_here k j m),
  ap (λ f. negative f 1) (points_field k) ∙ hundred_is_minus_one,
)

-- ---- how many letters there are

within : (k n c : ℕ) → k ≡ n → count n ≡ c → 1 ≤ c → c ≤ 21 → (1 ≤ count k) × (count k ≤ 21)
within k n c e f least most =
    let same : count k ≡ c = ap count e ∙ f in
    (omega arith, omega arith)

pub counts : (k : ℕ) → 3 ≤ k → k ≤ 7 → (1 ≤ count k) × (count k ≤ 21)
unfolding transpositions
counts k least most = at (cases_order k 3) (cases_order k 4) (cases_order k 5) (cases_order k 6)
  where
    at : (k ≡ 3) ⊎ ((k < 3) ⊎ (3 < k)) → (k ≡ 4) ⊎ ((k < 4) ⊎ (4 < k)) → (k ≡ 5) ⊎ ((k < 5) ⊎ (5 < k)) → (k ≡ 6) ⊎ ((k < 6) ⊎ (6 < k)) → (1 ≤ count k) × (count k ≤ 21)
    at (inl e) _ _ _ = within k 3 3 e refl (omega arith) (omega arith)
    at _ (inl e) _ _ = within k 4 6 e refl (omega arith) (omega arith)
    at _ _ (inl e) _ = within k 5 10 e refl (omega arith) (omega arith)
    at _ _ _ (inl e) = within k 6 15 e refl (omega arith) (omega arith)
    at (inr a) (inr b) (inr c) (inr d) = within k 7 21 (omega (arith, least, most, a, b, c, d)) refl (omega arith) (omega arith)

pub points_are_braids : PointsAreBraids
points_are_braids k least most =
    let h : (1 ≤ count k) × (count k ≤ 21) = counts k least most in
    is_braid_of_points k h.0 (omega arith)
