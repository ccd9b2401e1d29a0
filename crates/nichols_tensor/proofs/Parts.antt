-- Parts of combinations: of sums, of multiples and of images, what they keep, and that they make the whole.
use Rattle.std.proofs.Common.{◌≡◌, ◌≢◌, ℕ, zero, suc, ◌+◌, ◌<◌, ◌≤◌, Bool, true, false, cond, nat_eq, List, [], ◌∷◌, ◌++◌, length, flat_map, Contains, refl, sym, ◌∙◌, ap, ap₂, arith, ◌⊎◌, inl, inr}
use Rattle.std.specs.List.{AllByRecursion, range_with_len}
use Rattle.std.proofs.lemmas.Bool.{cases_lt, cases_eq, ne_eqb}
use Rattle.std.proofs.lemmas.Bool.Decides.{Decides-eqb}
use Rattle.std.proofs.lemmas.List.Elements.{filter-append}
use Rattle.nichols_field.specs.Field.{FieldValue, IsField, IsElement, plus}
use Rattle.nichols_field.proofs.FieldLaws.{plus_zero, zero_is_element}
use Rattle.nichols_field.proofs.FieldAlgebra.{zero_plus}
use Rattle.nichols_tensor.specs.Combination.{Term, Combination, value_at, HasSameValues, words_of, AllElements, scalar_multiple, linear_map}
use Rattle.nichols_tensor.specs.Laws.{HasPartsByDegree}
use Rattle.nichols_tensor.specs.Parts.{part, part_of_degree, longest, degrees_of}
use Rattle.nichols_tensor.specs.WordOrder.{IsOrdered}
use Rattle.nichols_tensor.specs.Words.{IsOver, HasDegree, IsWordOver}
use Rattle.nichols_tensor.proofs.Entries.{contains_none, contains_cases}
use Rattle.nichols_tensor.proofs.Over.{all-filter, passes-filter, all-weaker}
use Rattle.nichols_tensor.proofs.Values.{value_is_element, value_at-append, value_at-part}
use Rattle.nichols_tensor.proofs.Ordered.{zero_at_others}
use Rattle.nichols_tensor.proofs.Rising.{rising_kept}

-- ---- of sums, multiples and images

pub part-append : (test : List ℕ → Bool) (f g : Combination) → part test (f ++ g) ≡ part test f ++ part test g
part-append test f g = filter-append (λ t. test t.word) f g

pub part-scalar_multiple : (k : FieldValue) (test : List ℕ → Bool) (c : ℕ) (f : Combination) → part test (scalar_multiple k c f) ≡ scalar_multiple k c (part test f)
part-scalar_multiple k test c [] = refl
part-scalar_multiple k test c (t ∷ f) = at (test t.word) (part-scalar_multiple k test c f)
  where
    at : (b : Bool) → part test (scalar_multiple k c f) ≡ scalar_multiple k c (part test f) → cond b (scalar_multiple k c (t ∷ []) ++ part test (scalar_multiple k c f)) (part test (scalar_multiple k c f)) ≡ scalar_multiple k c (cond b (t ∷ part test f) (part test f))
    at true e = ap (λ r. scalar_multiple k c (t ∷ []) ++ r) e
    at false e = e

-- each word passes, or none
pub part_of_all : (test : List ℕ → Bool) (f : Combination) → AllByRecursion (λ t. test t.word ≡ true) f → part test f ≡ f
part_of_all test [] h = refl
part_of_all test (t ∷ f) h = ap₂ (λ b r. cond b (t ∷ r) r) h.0 (part_of_all test f h.1)

pub part_of_none : (test : List ℕ → Bool) (f : Combination) → AllByRecursion (λ t. test t.word ≡ false) f → part test f ≡ []
part_of_none test [] h = refl
part_of_none test (t ∷ f) h = ap₂ (λ b r. cond b (t ∷ r) r) h.0 (part_of_none test f h.1)

-- where the words of each image pass as the word itself passes another test, the part of an image is the image of a part
pub part-linear_map : (k : FieldValue) (image : List ℕ → Combination) (test before : List ℕ → Bool) → ((w : List ℕ) → AllByRecursion (λ t. test t.word ≡ before w) (image w)) → (f : Combination) →
    part test (linear_map k image f) ≡ linear_map k image (part before f)
part-linear_map k image test before each [] = refl
part-linear_map k image test before each (t ∷ f) =
    part-append test (scalar_multiple k t.coefficient (image t.word)) (linear_map k image f)
    ∙ ap₂ (λ g h. g ++ h) (part-scalar_multiple k test t.coefficient (image t.word)) (part-linear_map k image test before each f)
    ∙ at (before t.word) (each t.word)
  where
    at : (b : Bool) → AllByRecursion (λ u. test u.word ≡ b) (image t.word) → scalar_multiple k t.coefficient (part test (image t.word)) ++ linear_map k image (part before f) ≡ linear_map k image (cond b (t ∷ part before f) (part before f))
    at true h = ap (λ g. scalar_multiple k t.coefficient g ++ linear_map k image (part before f)) (part_of_all test (image t.word) h)
    at false h = ap (λ g. scalar_multiple k t.coefficient g ++ linear_map k image (part before f)) (part_of_none test (image t.word) h)

-- ---- what a part keeps

pub all-part : (P : Term → Type 0) (test : List ℕ → Bool) (f : Combination) → AllByRecursion P f → AllByRecursion P (part test f)
all-part P test f h = all-filter P (λ t. test t.word) f h

pub elements-part : (k : FieldValue) (test : List ℕ → Bool) (f : Combination) → AllElements k f → AllElements k (part test f)
elements-part k test f h = all-part (λ t. IsElement k t.coefficient) test f h

pub over-part : (n : ℕ) (test : List ℕ → Bool) (f : Combination) → IsOver n f → IsOver n (part test f)
over-part n test f h = all-part (λ t. IsWordOver n t.word) test f h

pub ordered-part : (test : List ℕ → Bool) (f : Combination) → IsOrdered f → IsOrdered (part test f)
ordered-part test f h = record {
  rising = rising_kept (λ t. t.word) (λ t. test t.word) f h.rising;
  nonzero = all-part (λ t. t.coefficient ≢ 0) test f h.nonzero;
}

-- ---- degrees

pub degree-part : (m : ℕ) (f : Combination) → HasDegree m (part_of_degree m f)
degree-part m f = passes-filter (λ t. length t.word ≡ m) (λ t. nat_eq (length t.word) m) (λ t passes. (Decides-eqb (length t.word) m).0 passes) f

-- a combination of one degree is its part of this degree, and has no others
pub part_of_own_degree : (m : ℕ) (f : Combination) → HasDegree m f → part_of_degree m f ≡ f
part_of_own_degree m f h =
    part_of_all (λ w. nat_eq (length w) m) f
    (all-weaker (λ t. length t.word ≡ m) (λ t. nat_eq (length t.word) m ≡ true) (λ t e. (Decides-eqb (length t.word) m).1 e) f h)

pub part_of_other_degree : (m n : ℕ) (f : Combination) → HasDegree m f → n ≢ m → part_of_degree n f ≡ []
part_of_other_degree m n f h other =
    part_of_none (λ w. nat_eq (length w) n) f
    (all-weaker (λ t. length t.word ≡ m) (λ t. nat_eq (length t.word) n ≡ false) (λ t e. ne_eqb (length t.word) n (λ d. other (sym d ∙ e))) f h)

pub parts_have_their_degrees : (f : Combination) → HasPartsByDegree f
parts_have_their_degrees f = record {
  degree = λ m. degree-part m f;
  own = λ m h. part_of_own_degree m f h;
  others = λ m n h other. part_of_other_degree m n f h other;
}

-- ---- the parts make the whole

-- the parts of some degrees
abbrev parts : Combination → List ℕ → Combination
parts f ms = flat_map (λ m. part_of_degree m f) ms

value_at-parts : (k : FieldValue) → IsField k → (f : Combination) (m : ℕ) (ms : List ℕ) (w : List ℕ) → value_at k (parts f (m ∷ ms)) w ≡ plus k (cond (nat_eq (length w) m) (value_at k f w) 0) (value_at k (parts f ms) w)
value_at-parts k is f m ms w = value_at-append k is (part_of_degree m f) (parts f ms) w ∙ ap (λ n. plus k n (value_at k (parts f ms) w)) (value_at-part k is (λ w. nat_eq (length w) m) f w)

-- at a word of another degree than these the value is 0
value_outside : (k : FieldValue) → IsField k → (f : Combination) (a n : ℕ) (w : List ℕ) → (length w < a) ⊎ (a + n ≤ length w) → value_at k (parts f (range_with_len a n)) w ≡ 0
value_outside k is f a zero w outside = refl
value_outside k is f a (suc n) w outside =
    value_at-parts k is f a (range_with_len (a + 1) n) w
    ∙ ap₂ (λ b v. plus k (cond b (value_at k f w) 0) v) (ne_eqb (length w) a (λ e. elim outside [ inl less ↦ omega arith | inr more ↦ omega arith ]))
    (value_outside k is f (a + 1) n w (elim outside [ inl less ↦ inl (omega arith) | inr more ↦ inr (omega arith) ]))
    ∙ plus_zero k 0 (zero_is_element k is)

-- at a word of one of these degrees it is the whole value
value_within : (k : FieldValue) → IsField k → (f : Combination) (a n : ℕ) (w : List ℕ) → a ≤ length w → length w < a + n → value_at k (parts f (range_with_len a n)) w ≡ value_at k f w
value_within k is f a zero w from to = absurd (omega arith)
value_within k is f a (suc n) w from to =
    value_at-parts k is f a (range_with_len (a + 1) n) w
    ∙ elim (cases_eq (length w) a) [
      | inl same ↦ ap₂ (λ b v. plus k (cond b (value_at k f w) 0) v) ((Decides-eqb (length w) a).1 same) (value_outside k is f (a + 1) n w (inl (omega arith))) ∙ plus_zero k (value_at k f w) (value_is_element k is f w)
      | inr other ↦ ap₂ (λ b v. plus k (cond b (value_at k f w) 0) v) (ne_eqb (length w) a other) (value_within k is f (a + 1) n w (omega arith) (omega arith)) ∙ zero_plus k (value_at k f w) (value_is_element k is f w)
    ]

longest_is : (f : Combination) (w : List ℕ) → Contains (words_of f) w → length w ≤ longest f
unfolding longest
longest_is [] w i = absurd (contains_none w i)
longest_is (t ∷ f) w i =
    elim (contains_cases t.word (words_of f) w i) [
      | inl here ↦ let e : length w ≡ length t.word = ap length here in omega arith
      | inr later ↦ omega (arith, longest_is f w later)
    ]

pub parts_make_the_whole : (k : FieldValue) → IsField k → (f : Combination) → HasSameValues k (flat_map (λ m. part_of_degree m f) (degrees_of f)) f
unfolding degrees_of
parts_make_the_whole k is f w =
    elim (cases_lt (longest f) (length w)) [
      | inl beyond ↦ value_outside k is f 0 (suc (longest f)) w (inr (omega arith)) ∙ sym (zero_at_others k is f w (λ i. omega (arith, longest_is f w i)))
      | inr within ↦ value_within k is f 0 (suc (longest f)) w (omega arith) (omega arith)
    ]
