-- The ideal of all u r v: its test, and that it is a right ideal.
use Rattle.std.proofs.Common.{◌≡◌, ℕ, zero, suc, ◌+◌, ◌-◌, ◌<◌, ◌≤◌, true, List, [], ◌∷◌, ◌++◌, map, length, refl, sym, ◌∙◌, ap, ap₂, subst, arith, append_assoc, inl, inr}
use Rattle.std.specs.List.{Contains, flat_map, range_with_len}
use Rattle.nichols_field.specs.Field.{FieldValue, IsField}
use Rattle.nichols_tensor.specs.Combination.{Combination, value_at, scalar_multiple}
use Rattle.nichols_tensor.specs.Words.{IsWordOver, IsOver, HasDegree, words}
use Rattle.nichols_tensor.proofs.AllWords.{in_words, from_words}
use Rattle.nichols_tensor.proofs.Entries.{contains_none, contains_cases, in_map, in_flat_map, from_map, from_flat_map}
use Rattle.nichols_tensor.proofs.Pushed.{pushed_length, pushed_over}
use Rattle.nichols_braid.specs.Braid.{BraidValue, IsLetter}
use Rattle.nichols_braid.specs.LinearTest.{IsLinearTest}
use Rattle.nichols_braid.specs.RightProduct.{times_letter}
use Rattle.nichols_braid.proofs.EndLaws.{in_numbers}
use Rattle.nichols_braid.proofs.Maps.{times_letter_same, times_letter_is_zero, times_letter-append, times_letter-scalar_multiple}
use Rattle.nichols_tensor.specs.Span.{IsSpanned}
use Rattle.nichols_cover.specs.Ideal.{IsBetween, between, all_between, in_ideal}
use Rattle.nichols_cover.specs.Laws.{IdealIsDecided, IdealIsRightIdeal}
use Rattle.nichols_tensor.proofs.Spans.{IsLinear, spanned_same, spanned_one, spanned-append, spanned-scalar_multiple, spanned_image, spanned_through, spanned_complete, spanned_sound}

-- ---- which combinations are listed

from_numbers : (a n k : ℕ) → Contains (range_with_len a n) k → (a ≤ k) × (k < a + n)
from_numbers a zero k i = absurd (contains_none k i)
from_numbers a (suc n) k i =
    elim (contains_cases a (range_with_len (a + 1) n) k i) [
      | inl e ↦ (omega arith, omega arith)
      | inr later ↦ let (l, m) = from_numbers (a + 1) n k later in (omega arith, omega arith)
    ]

pub in_all_between : (n : ℕ) (rs : List Combination) (m : ℕ) (g : Combination) → IsBetween n (Contains rs) m g → Contains (all_between n rs m) g
unfolding all_between
in_all_between n rs m g s =
    let i : ℕ = length s.front in
    let size : length s.front + 2 + length s.back ≡ m = s.size in
    let back : length s.back ≡ m - (length s.front + 2) = omega arith in
    in_flat_map (λ i. flat_map (λ u. flat_map (λ r. map (λ v. between u r v) (words n (m - (i + 2)))) rs) (words n i)) (length s.front) (range_with_len 0 (m - 1)) g
    (in_numbers 0 (m - 1) (length s.front) (omega arith) (omega arith))
    (in_flat_map (λ u. flat_map (λ r. map (λ v. between u r v) (words n (m - (length s.front + 2)))) rs) s.front (words n (length s.front)) g (in_words n (length s.front) s.front refl s.front_over)
    (in_flat_map (λ r. map (λ v. between s.front r v) (words n (m - (length s.front + 2)))) s.middle rs g s.of
    (subst (Contains (map (λ v. between s.front s.middle v) (words n (m - (length s.front + 2))))) (sym s.is)
    (in_map (λ v. between s.front s.middle v) s.back (words n (m - (length s.front + 2))) (in_words n (m - (length s.front + 2)) s.back back s.back_over)))))

pub from_all_between : (n : ℕ) (rs : List Combination) (m : ℕ) (g : Combination) → Contains (all_between n rs m) g → IsBetween n (Contains rs) m g
unfolding all_between
from_all_between n rs m g c =
    let (i, ci, c1) = from_flat_map (λ i. flat_map (λ u. flat_map (λ r. map (λ v. between u r v) (words n (m - (i + 2)))) rs) (words n i)) g (range_with_len 0 (m - 1)) c in
    let (u, cu, c2) = from_flat_map (λ u. flat_map (λ r. map (λ v. between u r v) (words n (m - (i + 2)))) rs) g (words n i) c1 in
    let (r, cr, c3) = from_flat_map (λ r. map (λ v. between u r v) (words n (m - (i + 2)))) g rs c2 in
    let (v, cv, e) = from_map (λ v. between u r v) g (words n (m - (i + 2))) c3 in
    let own : (length u ≡ i) × IsWordOver n u = from_words n i u cu in
    let other : (length v ≡ m - (i + 2)) × IsWordOver n v = from_words n (m - (i + 2)) v cv in
    let (low, high) = from_numbers 0 (m - 1) i ci in
    let su : length u ≡ i = own.0 in
    let sv : length v ≡ m - (i + 2) = other.0 in
    record { front = u; middle = r; back = v; front_over = own.1; back_over = other.1; of = cr; size = omega arith; is = e }

-- ---- a letter behind

between_pushed : (u : List ℕ) (r : Combination) (v : List ℕ) (b : ℕ) → times_letter (between u r v) b ≡ between u r (v ++ b ∷ [])
between_pushed u [] v b = refl
between_pushed u (t ∷ r) v b =
    ap₂ (λ (w : List ℕ) (f : Combination). record { word = w; coefficient = t.coefficient } ∷ f) (append_assoc (u ++ t.word) v (b ∷ [])) (between_pushed u r v b)

pub between_longer : (n : ℕ) (R : Combination → Type 0) (m : ℕ) (g : Combination) (b : ℕ) → IsBetween n R m g → (1 ≤ b) × (b ≤ n) → IsBetween n R (suc m) (times_letter g b)
between_longer n R m g b s letter =
    let size : length s.front + 2 + length s.back ≡ m = s.size in
    let longer : length (s.back ++ b ∷ []) ≡ suc (length s.back) = pushed_length s.back b in
    record {
      front = s.front;
      middle = s.middle;
      back = s.back ++ b ∷ [];
      front_over = s.front_over;
      back_over = pushed_over n s.back b s.back_over letter;
      of = s.of;
      size = omega arith;
      is = ap (λ f. times_letter f b) s.is ∙ between_pushed s.front s.middle s.back b;
    }

pub times_letter_is_linear : (k : FieldValue) → IsField k → (b : ℕ) → IsLinear k (λ f. times_letter f b)
times_letter_is_linear k is b = record {
  same = λ f g h. times_letter_same k is f g b h;
  zero = λ f h. times_letter_is_zero k is f b h;
  more = λ c g h w. ap (λ x. value_at k x w) (times_letter-append (scalar_multiple k c g) h b ∙ ap (λ x. x ++ times_letter h b) (times_letter-scalar_multiple k c g b));
}

-- ---- the test

pub ideal_is_decided : IdealIsDecided
unfolding in_ideal
ideal_is_decided rs braid is m f = (
  λ h. spanned_through k is Listed Given (λ g i. spanned_one k is Given g (from_all_between n rs m g i)) f (spanned_sound k is (all_between braid.letters rs m) f h),
  λ s. spanned_complete k is (all_between braid.letters rs m) f (spanned_through k is Given Listed (λ g b. spanned_one k is Listed g (in_all_between n rs m g b)) f s),
)
  where
    k : FieldValue
    k = braid.field

    n : ℕ
    n = braid.letters

    Listed : Combination → Type 0
    Listed g = Contains (all_between braid.letters rs m) g

    Given : Combination → Type 0
    Given g = IsBetween braid.letters (Contains rs) m g

pub ideal_is_linear : (rs : List Combination) (braid : BraidValue) → IsField braid.field → (m : ℕ) → IsLinearTest braid.field (in_ideal rs braid m)
ideal_is_linear rs braid is m = record {
  sees_values = λ f g same h. (ideal_is_decided rs braid is m g).1 (spanned_same k P g f (λ w. sym (same w)) ((ideal_is_decided rs braid is m f).0 h));
  holds_of_zero = (ideal_is_decided rs braid is m []).1 (IsSpanned.none [] (λ w. refl));
  keeps_sums = λ f g h l. (ideal_is_decided rs braid is m (f ++ g)).1 (spanned-append k is P f g ((ideal_is_decided rs braid is m f).0 h) ((ideal_is_decided rs braid is m g).0 l));
  keeps_multiples = λ c f h. (ideal_is_decided rs braid is m (scalar_multiple k c f)).1 (spanned-scalar_multiple k is P c f ((ideal_is_decided rs braid is m f).0 h));
}
  where
    k : FieldValue
    k = braid.field

    P : Combination → Type 0
    P g = IsBetween braid.letters (Contains rs) m g

pub ideal_is_right_ideal : IdealIsRightIdeal
ideal_is_right_ideal rs braid is = record { linear = ideal_is_linear rs braid is; right = right }
  where
    right : (m : ℕ) (f : Combination) (b : ℕ) → HasDegree m f → IsOver braid.letters f → IsLetter braid b → in_ideal rs braid m f ≡ true → in_ideal rs braid (suc m) (times_letter f b) ≡ true
    right m f b degree over letter h =
        let P : Combination → Type 0 = λ g. IsBetween braid.letters (Contains rs) m g in
        let Q : Combination → Type 0 = λ g. IsBetween braid.letters (Contains rs) (suc m) g in
        (ideal_is_decided rs braid is (suc m) (times_letter f b)).1
        (spanned_image braid.field is P Q (λ f. times_letter f b) (times_letter_is_linear braid.field is b) (λ g p. spanned_one braid.field is Q (times_letter g b) (between_longer braid.letters (Contains rs) m g b p letter)) f
        ((ideal_is_decided rs braid is m f).0 h))
