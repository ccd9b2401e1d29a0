-- The least words span: each combination of words of m letters is congruent to one of least words, and a word to one of least
-- words that don't stand behind it.
use Rattle.std.proofs.Common.{◌≡◌, ℕ, Bool, true, false, List, [], ◌∷◌, length, refl, ◌∙◌, ap, ◌⊎◌, inl, inr}
use Rattle.std.specs.List.{AllByRecursion, Contains}
use Rattle.std.specs.declared.cmp.Ordering.TheVariants.{Less}
use Rattle.nichols_field.specs.Field.{FieldValue, IsField}
use Rattle.nichols_tensor.specs.Combination.{Combination, AllElements, AllAmong, single}
use Rattle.nichols_tensor.specs.Words.{IsWordOver, words, words_before}
use Rattle.nichols_tensor.specs.WordOrder.{word_cmp, IsRising}
use Rattle.nichols_tensor.proofs.Entries.{in_filter, from_filter}
use Rattle.nichols_tensor.proofs.Order.{word_cmp_total}
use Rattle.nichols_tensor.proofs.Rising.{by_earlier, rising-filter}
use Rattle.nichols_tensor.proofs.AllWords.{in_words, from_words, from_words_before, words_rise}
use Rattle.nichols_braid.specs.Braid.{BraidValue}
use Rattle.nichols_braid.specs.Kernel.{Vanishing}
use Rattle.nichols_braid.specs.Least.{is_least, basis}
use Rattle.nichols_braid.specs.LinearTest.{IsLinearTest}
use Rattle.nichols_braid.proofs.Congruences.{AreCongruent, IsReduced, reduced_of_each, reduced_weaker, reduced_itself, reduced_through, reduced_with_elements}
use Rattle.nichols_braid.proofs.LeastWords.{not_least_form_at}

-- ---- the basis

pub in_basis : (vanishes : Vanishing) (braid : BraidValue) (m : ℕ) (w : List ℕ) → length w ≡ m → IsWordOver braid.letters w → is_least vanishes braid w ≡ true → Contains (basis vanishes braid m) w
unfolding basis
in_basis vanishes braid m w e o least = in_filter (is_least vanishes braid) w (words braid.letters m) (in_words braid.letters m w e o) least

pub from_basis : (vanishes : Vanishing) (braid : BraidValue) (m : ℕ) (w : List ℕ) → Contains (basis vanishes braid m) w → (length w ≡ m) × IsWordOver braid.letters w × (is_least vanishes braid w ≡ true)
unfolding basis
from_basis vanishes braid m w i =
    let (j, least) = from_filter (is_least vanishes braid) w (words braid.letters m) i in
    let from : (length w ≡ m) × IsWordOver braid.letters w = from_words braid.letters m w j in
    (from.0, from.1, least)

pub basis_rises : (vanishes : Vanishing) (braid : BraidValue) (m : ℕ) → IsRising (basis vanishes braid m)
unfolding basis
basis_rises vanishes braid m = rising-filter (is_least vanishes braid) (words braid.letters m) (words_rise braid.letters m)

-- ---- words

-- v is w or stands before it
abbrev pub IsUpTo : List ℕ → List ℕ → Type 0
IsUpTo w v = (v ≡ w) ⊎ (word_cmp v w ≡ Less)

pub upto_before : (v u w : List ℕ) → IsUpTo u v → word_cmp u w ≡ Less → word_cmp v w ≡ Less
upto_before v u w (inl e) less = ap (λ x. word_cmp x w) e ∙ less
upto_before v u w (inr before) less = word_cmp_total.trans v u w before less

-- a combination of words before w, each of which is reduced to words with a property that aren't behind it
pub reduced_earlier : (k : FieldValue) → IsField k → (test : Combination → Bool) → IsLinearTest k test → (P : List ℕ → Type 0) (w : List ℕ) (f : Combination) →
    AllByRecursion (λ t. IsReduced k test (λ v. P v × IsUpTo t.word v) (single t.word) × (word_cmp t.word w ≡ Less)) f → IsReduced k test (λ v. P v × (word_cmp v w ≡ Less)) f
reduced_earlier k is test l P w f h = reduced_of_each k is test l (λ v. P v × (word_cmp v w ≡ Less)) f (each f h)
  where
    each : (f : Combination) → AllByRecursion (λ t. IsReduced k test (λ v. P v × IsUpTo t.word v) (single t.word) × (word_cmp t.word w ≡ Less)) f →
        AllByRecursion (λ t. IsReduced k test (λ v. P v × (word_cmp v w ≡ Less)) (single t.word)) f
    each [] h = tt
    each (t ∷ f) h =
        (reduced_weaker k test (λ v. P v × IsUpTo t.word v) (λ v. P v × (word_cmp v w ≡ Less)) (single t.word) (λ v p. (p.0, upto_before v t.word w p.1 h.0.1)) h.0.0, each f h.1)

-- a word is congruent to a combination of least words that aren't behind it
abbrev pub IsReducedWord : Vanishing → BraidValue → ℕ → List ℕ → Type 0
IsReducedWord vanishes braid m w = IsReduced braid.field (vanishes braid m) (λ v. Contains (basis vanishes braid m) v × IsUpTo w v) (single w)

-- a word that isn't least is congruent to a combination of least words before it, where all words before it are reduced
pub reduced_before_from : (vanishes : Vanishing) (braid : BraidValue) → IsField braid.field → (m : ℕ) → IsLinearTest braid.field (vanishes braid m) → (P : List ℕ → Type 0) (w : List ℕ) → length w ≡ m → is_least vanishes braid w ≡ false →
    ((v : List ℕ) → Contains (words braid.letters m) v → word_cmp v w ≡ Less → IsReduced braid.field (vanishes braid m) (λ u. P u × IsUpTo v u) (single v)) →
    IsReduced braid.field (vanishes braid m) (λ v. P v × (word_cmp v w ≡ Less)) (single w)
unfolding AllAmong
reduced_before_from vanishes braid is m l P w e least earlier =
    let (f, among, elements, c) = not_least_form_at vanishes braid m w e least in
    reduced_through braid.field is (vanishes braid m) l (λ v. P v × (word_cmp v w ≡ Less)) (single w) f c
    (reduced_earlier braid.field is (vanishes braid m) l P w f (each f among))
  where
    each : (f : Combination) → AllAmong f (words_before braid.letters w) →
        AllByRecursion (λ t. IsReduced braid.field (vanishes braid m) (λ v. P v × IsUpTo t.word v) (single t.word) × (word_cmp t.word w ≡ Less)) f
    each [] h = tt
    each (t ∷ f) h =
        let from : (length t.word ≡ length w) × IsWordOver braid.letters t.word × (word_cmp t.word w ≡ Less) = from_words_before braid.letters t.word w h.0 in
        ((earlier t.word (in_words braid.letters m t.word (from.0 ∙ e) from.1) from.2, from.2), each f h.1)

pub reduced_word : (vanishes : Vanishing) (braid : BraidValue) → IsField braid.field → (m : ℕ) → IsLinearTest braid.field (vanishes braid m) → (w : List ℕ) → Contains (words braid.letters m) w → IsReducedWord vanishes braid m w
reduced_word vanishes braid is m l w i = by_earlier (words braid.letters m) (IsReducedWord vanishes braid m) (words_rise braid.letters m) step w i
  where
    step : (w : List ℕ) → Contains (words braid.letters m) w → ((v : List ℕ) → Contains (words braid.letters m) v → word_cmp v w ≡ Less → IsReducedWord vanishes braid m v) → IsReducedWord vanishes braid m w
    step w i earlier = at (is_least vanishes braid w) refl
      where
        from : (length w ≡ m) × IsWordOver braid.letters w
        from = from_words braid.letters m w i

        at : (b : Bool) → is_least vanishes braid w ≡ b → IsReducedWord vanishes braid m w
        at true least = reduced_itself braid.field is (vanishes braid m) l (λ v. Contains (basis vanishes braid m) v × IsUpTo w v) w (in_basis vanishes braid m w from.0 from.1 least, inl refl)
        at false least =
            reduced_weaker braid.field (vanishes braid m) (λ v. Contains (basis vanishes braid m) v × (word_cmp v w ≡ Less)) (λ v. Contains (basis vanishes braid m) v × IsUpTo w v) (single w) (λ v p. (p.0, inr p.1))
            (reduced_before_from vanishes braid is m l (λ v. Contains (basis vanishes braid m) v) w from.0 least earlier)

-- ---- combinations

pub reduced_to_basis : (vanishes : Vanishing) (braid : BraidValue) → IsField braid.field → (m : ℕ) → IsLinearTest braid.field (vanishes braid m) → (f : Combination) → AllAmong f (words braid.letters m) →
    (g : Combination) × AllAmong g (basis vanishes braid m) × AllElements braid.field g × AreCongruent braid.field (vanishes braid m) f g
unfolding AllAmong
reduced_to_basis vanishes braid is m l f among =
    reduced_with_elements braid.field is (vanishes braid m) l (λ v. Contains (basis vanishes braid m) v) f
    (reduced_of_each braid.field is (vanishes braid m) l (λ v. Contains (basis vanishes braid m) v) f (each f among))
  where
    each : (f : Combination) → AllAmong f (words braid.letters m) → AllByRecursion (λ t. IsReduced braid.field (vanishes braid m) (λ v. Contains (basis vanishes braid m) v) (single t.word)) f
    each [] h = tt
    each (t ∷ f) h = (
      reduced_weaker braid.field (vanishes braid m) (λ v. Contains (basis vanishes braid m) v × IsUpTo t.word v) (λ v. Contains (basis vanishes braid m) v) (single t.word) (λ v p. p.0)
          (reduced_word vanishes braid is m l t.word h.0),
      each f h.1,
    )
