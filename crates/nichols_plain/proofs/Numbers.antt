-- The numbers of words: they rise with the words, and so tell them apart.
use Rattle.std.proofs.Common.{◌≡◌, ℕ, ◌+◌, ◌-◌, ◌*◌, ◌^◌, ◌<◌, ◌≤◌, List, [], ◌∷◌, ◌++◌, length, take, get_or, refl, sym, ◌∙◌, ap, ap₂, subst, arith, add-one, inl, inr}
use Rattle.std.proofs.lemmas.Bool.{cases_order}
use Rattle.std.proofs.lemmas.List.{take_more}
use Rattle.std.proofs.Math.Nat.{pow-suc, pow-le-pow_right}
use Rattle.std.specs.Ordering.{nat_cmp, ordering_then, ordering_reverse}
use Rattle.std.proofs.lemmas.Cmp.{nat_cmp_total}
use Rattle.std.specs.Cmp.Lexicographic.{slice_cmp}
use Rattle.std.specs.declared.cmp.Ordering.{Ordering}
use Rattle.std.specs.declared.cmp.Ordering.TheVariants.{Less, Equal, Greater}
use Rattle.std.proofs.Math.Nat.{mul-le-mul}
use Rattle.nichols_tensor.specs.Combination.{Combination, words_of}
use Rattle.nichols_tensor.specs.Words.{IsLetterOf, IsWordOver, IsOver, HasDegree}
use Rattle.nichols_tensor.specs.WordOrder.{word_cmp, IsBelowFirst, IsRising}
use Rattle.nichols_tensor.proofs.Order.{same_word, less_back}
use Rattle.nichols_tensor.proofs.AllWords.{same_length_cmp, number_below, number_same}
use Rattle.nichols_echelon.specs.Cells.{columns_of, AllNonzero, IsRow}
use Rattle.nichols_echelon.specs.Cells.{IsBelowFirst as IsColumnBelow, IsRising as AreColumnsRising}
use Rattle.nichols_tensor.specs.Combination.{AllNonzero as AllTermsNonzero}
use Rattle.nichols_plain.specs.Columns.{number_behind, number_of, row_of}

-- ---- a letter more

pub number-push : (n before : ℕ) (w : List ℕ) (x : ℕ) → number_behind n before (w ++ x ∷ []) ≡ number_behind n before w * n + (x - 1)
number-push n before [] x = refl
number-push n before (y ∷ w) x = number-push n (before * n + (y - 1)) w x

pub number_more : (n : ℕ) (w : List ℕ) (i x number : ℕ) → i < length w → x ≡ get_or w i 0 → number ≡ number_of n (take i w) → number * n + (x - 1) ≡ number_of n (take (i + 1) w)
number_more n w i x number within at same =
    ap₂ (λ m y. m * n + (y - 1)) same at ∙ sym (number-push n 0 (take i w) (get_or w i 0)) ∙ ap (number_of n) (sym (take_more w i 0 within))

-- the number of a word of i letters is below the i-th power
pub number_bound : (n i x number : ℕ) → IsLetterOf n x → number < n ^ i → number * n + (x - 1) < n ^ (i + 1)
number_bound n i x number letter below =
    let power : n ^ (i + 1) ≡ n ^ i * n = ap (λ j. n ^ j) (add-one i) ∙ pow-suc n i in
    let product : (number + 1) * n ≤ n ^ i * n = mul-le-mul (omega arith) (omega arith) in
    subst (λ p. number * n + (x - 1) < p) (sym power) (omega (arith, product, letter.0, letter.1))

pub number_fits : (n i m x number : ℕ) → IsLetterOf n x → number < n ^ i → i < m → n ^ m < 2 ^ 32 → number * n + (x - 1) < 2 ^ 32
number_fits n i m x number letter below less few =
    let bound : number * n + (x - 1) < n ^ (i + 1) = number_bound n i x number letter below in
    let power : n ^ (i + 1) ≤ n ^ m = pow-le-pow_right (let some : 0 < n = omega (arith, letter.0, letter.1) in some) (let next : i + 1 ≤ m = omega arith in next) in
    omega arith

-- ---- numbers rise

digit_less : (n b c x y : ℕ) → b < c → IsLetterOf n x → b * n + (x - 1) < c * n + (y - 1)
digit_less n b c x y less letter =
    let product : (b + 1) * n ≤ c * n = mul-le-mul (omega arith) (omega arith) in
    omega (arith, product, letter.0, letter.1)

behind_less : (n b c : ℕ) (v w : List ℕ) → length v ≡ length w → IsWordOver n v → b < c → number_behind n b v < number_behind n c w
behind_less n b c [] [] e over less = less
behind_less n b c [] (y ∷ w) e over less = absurd (omega arith)
behind_less n b c (x ∷ v) [] e over less = absurd (omega arith)
behind_less n b c (x ∷ v) (y ∷ w) e over less = behind_less n (b * n + (x - 1)) (c * n + (y - 1)) v w (omega arith) over.1 (digit_less n b c x y less over.0)

behind_rises : (n b : ℕ) (v w : List ℕ) → length v ≡ length w → IsWordOver n v → IsWordOver n w → slice_cmp nat_cmp v w ≡ Less → number_behind n b v < number_behind n b w
behind_rises n b [] [] e o p h = absurd (let c : Equal ≡ Less = h in cc)
behind_rises n b [] (y ∷ w) e o p h = absurd (omega arith)
behind_rises n b (x ∷ v) [] e o p h = absurd (omega arith)
behind_rises n b (x ∷ v) (y ∷ w) e o p h =
    elim (cases_order x y) [
      | inl same ↦
          subst (λ z. number_behind n b (x ∷ v) < number_behind n b (z ∷ w)) same
          (behind_rises n (b * n + (x - 1)) v w (omega arith) o.1 p.1 (rest x (slice_cmp nat_cmp v w) (ap (λ z. ordering_then (nat_cmp x z) (slice_cmp nat_cmp v w)) same ∙ h)))
      | inr apart ↦ elim apart [
        | inl less ↦ behind_less n (b * n + (x - 1)) (b * n + (y - 1)) v w (omega arith) o.1 (let low : 1 ≤ x = o.0.0 in omega arith)
        | inr more ↦ absurd (let c : Greater ≡ Less = ap (λ z. ordering_then z (slice_cmp nat_cmp v w)) (sym (greater x y more)) ∙ h in cc)
      ]
    ]
  where
    rest : (z : ℕ) (o : Ordering) → ordering_then (nat_cmp z z) o ≡ Less → o ≡ Less
    rest z o k = ap (λ c. ordering_then c o) (sym (number_same z z refl)) ∙ k

    greater : (x y : ℕ) → y < x → nat_cmp x y ≡ Greater
    greater x y more = nat_cmp_total.antisymm x y ∙ ap ordering_reverse (number_below y x more)

pub numbers_rise : (n : ℕ) (v w : List ℕ) → length v ≡ length w → IsWordOver n v → IsWordOver n w → word_cmp v w ≡ Less → number_of n v < number_of n w
numbers_rise n v w e o p h = behind_rises n 0 v w e o p (sym (same_length_cmp v w e) ∙ h)

-- words of one length with one number are one
pub same_number : (n : ℕ) (v w : List ℕ) → length v ≡ length w → IsWordOver n v → IsWordOver n w → number_of n v ≡ number_of n w → v ≡ w
same_number n v w e o p h = at (word_cmp v w) refl
  where
    at : (c : Ordering) → word_cmp v w ≡ c → v ≡ w
    at Less k = absurd (let less : number_of n v < number_of n w = numbers_rise n v w e o p k in omega arith)
    at Equal k = same_word v w k
    at Greater k = absurd (let less : number_of n w < number_of n v = numbers_rise n w v (sym e) p o (less_back v w k) in omega arith)

-- ---- combinations as rows

row_of_rises : (n m : ℕ) (f : Combination) → HasDegree m f → IsOver n f → IsRising (words_of f) → AreColumnsRising (columns_of (row_of n f))
row_of_rises n m [] d o r = tt
row_of_rises n m (t ∷ f) d o r = (first f d.1 o.1 r.0, row_of_rises n m f d.1 o.1 r.1)
  where
    first : (g : Combination) → HasDegree m g → IsOver n g → IsBelowFirst t.word (words_of g) → IsColumnBelow (number_of n t.word) (columns_of (row_of n g))
    first [] dg og h = tt
    first (u ∷ g) dg og h = numbers_rise n t.word u.word (d.0 ∙ sym dg.0) o.0 og.0 h

row_of_nonzero : (n : ℕ) (f : Combination) → AllTermsNonzero f → AllNonzero (row_of n f)
row_of_nonzero n [] h = tt
row_of_nonzero n (t ∷ f) h = (h.0, row_of_nonzero n f h.1)

pub row_of_is_row : (n m : ℕ) (f : Combination) → HasDegree m f → IsOver n f → IsRising (words_of f) → AllTermsNonzero f → IsRow (row_of n f)
row_of_is_row n m f d o r h = record { rising = row_of_rises n m f d o r; nonzero = row_of_nonzero n f h }
