-- Combinations made term by term, and combinations without their zeros.
use Rattle.std.proofs.Common.{◌≡◌, ◌≢◌, ℕ, Bool, true, false, not, cond, List, [], ◌∷◌, ◌++◌, refl, sym, ◌∙◌, ap, subst, nat_eq, inl, inr}
use Rattle.std.specs.List.{AllByRecursion}
use Rattle.std.proofs.lemmas.Bool.Decides.{Decides-eqb, eqb_tells}
use Rattle.nichols_field.specs.Field.{FieldValue, IsField, IsElement, plus, times}
use Rattle.nichols_field.proofs.FieldLaws.{plus_zero, times_is_element, times_eq_zero}
use Rattle.nichols_field.proofs.FieldAlgebra.{zero_plus, chosen_is_element}
use Rattle.nichols_tensor.specs.Combination.{Term, Combination, value_at, HasSameValues, same_letters, words_of, AllElements, AllNonzero, without_zeros, scalar_multiple, linear_map}
use Rattle.nichols_tensor.specs.WordOrder.{IsRising, IsOrdered}
use Rattle.nichols_tensor.proofs.Values.{term_value, zero_term, value_is_element, value_at-append, value_at-scalar_multiple}
use Rattle.nichols_tensor.proofs.Over.{all-append, all-filter, passes-filter, all-scalar_multiple}
use Rattle.nichols_tensor.proofs.Rising.{rising_kept}

pub elements-append : (k : FieldValue) (f g : Combination) → AllElements k f → AllElements k g → AllElements k (f ++ g)
elements-append k f g h e = all-append (λ t. IsElement k t.coefficient) f g h e

pub elements-push : (k : FieldValue) (f : Combination) (t : Term) → AllElements k f → IsElement k t.coefficient → AllElements k (f ++ t ∷ [])
elements-push k f t h e = elements-append k f (t ∷ []) h (e, tt)

pub nonzero-push : (f : Combination) (t : Term) → AllNonzero f → t.coefficient ≢ 0 → AllNonzero (f ++ t ∷ [])
nonzero-push f t h e = all-append (λ s. s.coefficient ≢ 0) f (t ∷ []) h (e, tt)

pub value_at-push : (k : FieldValue) → IsField k → (f : Combination) (t : Term) (w : List ℕ) → IsElement k t.coefficient → value_at k (f ++ t ∷ []) w ≡ plus k (value_at k f w) (term_value t w)
value_at-push k is f t w e =
    value_at-append k is f (t ∷ []) w
    ∙ ap (plus k (value_at k f w)) (plus_zero k (term_value t w) (chosen_is_element k (same_letters t.word w) t.coefficient is e))

-- ---- multiples

pub elements-scalar_multiple : (k : FieldValue) → IsField k → (c : ℕ) (f : Combination) → AllElements k (scalar_multiple k c f)
elements-scalar_multiple k is c [] = tt
elements-scalar_multiple k is c (t ∷ f) = (times_is_element k c t.coefficient is, elements-scalar_multiple k is c f)

words_of-scalar_multiple : (k : FieldValue) (c : ℕ) (f : Combination) → words_of (scalar_multiple k c f) ≡ words_of f
words_of-scalar_multiple k c [] = refl
words_of-scalar_multiple k c (t ∷ f) = ap (λ ws. t.word ∷ ws) (words_of-scalar_multiple k c f)

pub nonzero-scalar_multiple : (k : FieldValue) → IsField k → (c : ℕ) (f : Combination) → IsElement k c → c ≢ 0 → AllElements k f → AllNonzero f → AllNonzero (scalar_multiple k c f)
nonzero-scalar_multiple k is c [] e nonzero elements h = tt
nonzero-scalar_multiple k is c (t ∷ f) e nonzero elements h =
    (λ z. elim (times_eq_zero k c t.coefficient is e elements.0 z) [ inl zero_factor ↦ nonzero zero_factor | inr zero_there ↦ h.0 zero_there ], nonzero-scalar_multiple k is c f e nonzero elements.1 h.1)

-- ---- without the terms whose coefficient is 0

zero_by_test : (n : ℕ) → not (nat_eq n 0) ≡ false → n ≡ 0
zero_by_test n h = elim (eqb_tells n 0) [ inl same ↦ same.1 | inr apart ↦ let c : true ≡ false = ap not (sym apart.0) ∙ h in cc ]

nonzero_by_test : (n : ℕ) → not (nat_eq n 0) ≡ true → n ≢ 0
nonzero_by_test n h e = let c : true ≡ false = sym h ∙ ap not ((Decides-eqb n 0).1 e) in cc

pub kept_by_test : (n : ℕ) → n ≢ 0 → not (nat_eq n 0) ≡ true
kept_by_test n h = elim (eqb_tells n 0) [ inl same ↦ absurd (h same.1) | inr apart ↦ ap not apart.0 ]

pub without_zeros-nonzero : (f : Combination) → AllNonzero f → without_zeros f ≡ f
without_zeros-nonzero [] h = refl
without_zeros-nonzero (t ∷ f) h = ap (λ b. cond b (t ∷ without_zeros f) (without_zeros f)) (kept_by_test t.coefficient h.0) ∙ ap (λ r. t ∷ r) (without_zeros-nonzero f h.1)

pub value_at-without_zeros : (k : FieldValue) → IsField k → (f : Combination) → HasSameValues k (without_zeros f) f
value_at-without_zeros k is [] w = refl
value_at-without_zeros k is (t ∷ f) w = at (not (nat_eq t.coefficient 0)) refl (value_at-without_zeros k is f w)
  where
    at : (b : Bool) → not (nat_eq t.coefficient 0) ≡ b → value_at k (without_zeros f) w ≡ value_at k f w → value_at k (cond b (t ∷ without_zeros f) (without_zeros f)) w ≡ plus k (term_value t w) (value_at k f w)
    at true e rest = ap (plus k (term_value t w)) rest
    at false e rest =
        rest ∙ sym (zero_plus k (value_at k f w) (value_is_element k is f w))
        ∙ ap (λ n. plus k n (value_at k f w)) (sym (zero_term t w (zero_by_test t.coefficient e)))

-- what holds of each term still does
pub all-without_zeros : (P : Term → Type 0) (f : Combination) → AllByRecursion P f → AllByRecursion P (without_zeros f)
all-without_zeros P f h = all-filter P (λ t. not (nat_eq t.coefficient 0)) f h

-- a combination whose words rise is in order without its zeros
pub ordered-without_zeros : (f : Combination) → IsRising (words_of f) → IsOrdered (without_zeros f)
ordered-without_zeros f r = record {
  rising = rising_kept (λ t. t.word) (λ t. not (nat_eq t.coefficient 0)) f r;
  nonzero = passes-filter (λ t. t.coefficient ≢ 0) (λ t. not (nat_eq t.coefficient 0)) (λ t kept. nonzero_by_test t.coefficient kept) f;
}

-- ---- multiples without their zeros

pub value_at-multiple : (k : FieldValue) → IsField k → (c : ℕ) (f : Combination) (w : List ℕ) → value_at k (without_zeros (scalar_multiple k c f)) w ≡ times k c (value_at k f w)
value_at-multiple k is c f w = value_at-without_zeros k is (scalar_multiple k c f) w ∙ value_at-scalar_multiple k is c f w

pub ordered-multiple : (k : FieldValue) (c : ℕ) (f : Combination) → IsRising (words_of f) → IsOrdered (without_zeros (scalar_multiple k c f))
ordered-multiple k c f r = ordered-without_zeros (scalar_multiple k c f) (subst IsRising (sym (words_of-scalar_multiple k c f)) r)

pub elements-multiple : (k : FieldValue) → IsField k → (c : ℕ) (f : Combination) → AllElements k (without_zeros (scalar_multiple k c f))
elements-multiple k is c f = all-without_zeros (λ t. IsElement k t.coefficient) (scalar_multiple k c f) (elements-scalar_multiple k is c f)

-- what holds of each word still does
pub all-multiple : (P : List ℕ → Type 0) (k : FieldValue) (c : ℕ) (f : Combination) → AllByRecursion (λ t. P t.word) f → AllByRecursion (λ t. P t.word) (without_zeros (scalar_multiple k c f))
all-multiple P k c f h = all-without_zeros (λ t. P t.word) (scalar_multiple k c f) (all-scalar_multiple P k c f h)

-- the value of one term without zeros
pub value_at-one : (k : FieldValue) → IsField k → (t : Term) (w : List ℕ) → IsElement k t.coefficient → value_at k (without_zeros (t ∷ [])) w ≡ term_value t w
value_at-one k is t w e =
    value_at-without_zeros k is (t ∷ []) w ∙ plus_zero k (term_value t w) (chosen_is_element k (same_letters t.word w) t.coefficient is e)

pub elements-linear_map : (k : FieldValue) → IsField k → (image : List ℕ → Combination) (f : Combination) → AllElements k (linear_map k image f)
elements-linear_map k is image [] = tt
elements-linear_map k is image (t ∷ f) = elements-append k (scalar_multiple k t.coefficient (image t.word)) (linear_map k image f) (elements-scalar_multiple k is t.coefficient (image t.word)) (elements-linear_map k is image f)
