-- Combinations brought into order have the same values, and are the one combination in order that has them.
use Rattle.std.proofs.Common.{◌≡◌, ℕ, List, [], ◌∷◌, length, Contains, refl, sym, ◌∙◌, ap}
use Rattle.std.specs.List.{AllByRecursion}
use Rattle.std.specs.declared.cmp.Ordering.{Ordering}
use Rattle.std.specs.declared.cmp.Ordering.TheVariants.{Less, Equal, Greater}
use Rattle.nichols_field.specs.Field.{FieldValue, IsField, IsElement, plus}
use Rattle.nichols_field.proofs.FieldLaws.{plus_is_element}
use Rattle.nichols_field.proofs.FieldAlgebra.{swap_first}
use Rattle.nichols_tensor.specs.Combination.{Term, Combination, value_at, HasSameValues, words_of, AllElements, AllAmong}
use Rattle.nichols_tensor.specs.InOrder.{with_term, rising_terms, in_order}
use Rattle.nichols_tensor.specs.Laws.{IsTheOneInOrder}
use Rattle.nichols_tensor.specs.WordOrder.{word_cmp, IsBelowFirst, IsRising, IsOrdered}
use Rattle.nichols_tensor.specs.Words.{IsOver, HasDegree, IsWordOver}
use Rattle.nichols_tensor.proofs.Values.{term_value}
use Rattle.nichols_tensor.proofs.Terms.{added, value_at-added}
use Rattle.nichols_tensor.proofs.Order.{less_back}
use Rattle.nichols_tensor.proofs.Enumeration.{among_own_words}
use Rattle.nichols_tensor.proofs.Ordered.{ordered_unique}
use Rattle.nichols_tensor.proofs.Building.{value_at-without_zeros, all-without_zeros, ordered-without_zeros}

-- where a term goes, by how its word stands to the first one
abbrev pub beside : FieldValue → Term → Term → Combination → Combination → Ordering → Combination
beside k t u f later o = elim o [
  | Less ↦ t ∷ u ∷ f
  | Equal ↦ added k t u ∷ f
  | Greater ↦ u ∷ later
]

-- ---- one term

value_at-with_term : (k : FieldValue) → IsField k → (t : Term) (f : Combination) (w : List ℕ) → value_at k (with_term k t f) w ≡ plus k (term_value t w) (value_at k f w)
unfolding with_term
value_at-with_term k is t [] w = refl
value_at-with_term k is t (u ∷ f) w = at (word_cmp t.word u.word) refl (value_at-with_term k is t f w)
  where
    at : (o : Ordering) → word_cmp t.word u.word ≡ o → value_at k (with_term k t f) w ≡ plus k (term_value t w) (value_at k f w) → value_at k (beside k t u f (with_term k t f) o) w ≡ plus k (term_value t w) (value_at k (u ∷ f) w)
    at Less e later = refl
    at Equal e later = value_at-added k is t u f w e
    at Greater e later = ap (plus k (term_value u w)) later ∙ swap_first k (term_value u w) (term_value t w) (value_at k f w)

-- what holds of each word still does
all-with_term : (P : List ℕ → Type 0) (k : FieldValue) (t : Term) (f : Combination) → P t.word → AllByRecursion (λ u. P u.word) f → AllByRecursion (λ u. P u.word) (with_term k t f)
unfolding with_term
all-with_term P k t [] here h = (here, tt)
all-with_term P k t (u ∷ f) here h = at (word_cmp t.word u.word) (all-with_term P k t f here h.1)
  where
    at : (o : Ordering) → AllByRecursion (λ u. P u.word) (with_term k t f) → AllByRecursion (λ u. P u.word) (beside k t u f (with_term k t f) o)
    at Less later = (here, h)
    at Equal later = h
    at Greater later = (h.0, later)

elements-with_term : (k : FieldValue) → IsField k → (t : Term) (f : Combination) → IsElement k t.coefficient → AllElements k f → AllElements k (with_term k t f)
unfolding with_term
elements-with_term k is t [] here h = (here, tt)
elements-with_term k is t (u ∷ f) here h = at (word_cmp t.word u.word) (elements-with_term k is t f here h.1)
  where
    at : (o : Ordering) → AllElements k (with_term k t f) → AllElements k (beside k t u f (with_term k t f) o)
    at Less later = (here, h)
    at Equal later = (plus_is_element k t.coefficient u.coefficient is, h.1)
    at Greater later = (h.0, later)

below-with_term : (k : FieldValue) (v : List ℕ) (t : Term) (f : Combination) → word_cmp v t.word ≡ Less → IsBelowFirst v (words_of f) → IsBelowFirst v (words_of (with_term k t f))
unfolding with_term
below-with_term k v t [] here h = here
below-with_term k v t (u ∷ f) here h = at (word_cmp t.word u.word)
  where
    at : (o : Ordering) → IsBelowFirst v (words_of (beside k t u f (with_term k t f) o))
    at Less = here
    at Equal = h
    at Greater = h

rising-with_term : (k : FieldValue) (t : Term) (f : Combination) → IsRising (words_of f) → IsRising (words_of (with_term k t f))
unfolding with_term
rising-with_term k t [] r = (tt, tt)
rising-with_term k t (u ∷ f) r = at (word_cmp t.word u.word) refl (rising-with_term k t f r.1) (λ less. below-with_term k u.word t f less r.0)
  where
    at : (o : Ordering) → word_cmp t.word u.word ≡ o → IsRising (words_of (with_term k t f)) → (word_cmp u.word t.word ≡ Less → IsBelowFirst u.word (words_of (with_term k t f))) → IsRising (words_of (beside k t u f (with_term k t f) o))
    at Less e later below = (e, r)
    at Equal e later below = r
    at Greater e later below = (below (less_back t.word u.word e), later)

-- ---- all terms

value_at-rising_terms : (k : FieldValue) → IsField k → (f : Combination) → HasSameValues k (rising_terms k f) f
unfolding rising_terms
value_at-rising_terms k is [] w = refl
value_at-rising_terms k is (t ∷ f) w = value_at-with_term k is t (rising_terms k f) w ∙ ap (plus k (term_value t w)) (value_at-rising_terms k is f w)

all-rising_terms : (P : List ℕ → Type 0) (k : FieldValue) (f : Combination) → AllByRecursion (λ t. P t.word) f → AllByRecursion (λ t. P t.word) (rising_terms k f)
unfolding rising_terms
all-rising_terms P k [] h = tt
all-rising_terms P k (t ∷ f) h = all-with_term P k t (rising_terms k f) h.0 (all-rising_terms P k f h.1)

elements-rising_terms : (k : FieldValue) → IsField k → (f : Combination) → AllElements k f → AllElements k (rising_terms k f)
unfolding rising_terms
elements-rising_terms k is [] h = tt
elements-rising_terms k is (t ∷ f) h = elements-with_term k is t (rising_terms k f) h.0 (elements-rising_terms k is f h.1)

rising-rising_terms : (k : FieldValue) (f : Combination) → IsRising (words_of (rising_terms k f))
unfolding rising_terms
rising-rising_terms k [] = tt
rising-rising_terms k (t ∷ f) = rising-with_term k t (rising_terms k f) (rising-rising_terms k f)

-- ---- in order

pub value_at-in_order : (k : FieldValue) → IsField k → (f : Combination) → HasSameValues k (in_order k f) f
unfolding in_order
value_at-in_order k is f w = value_at-without_zeros k is (rising_terms k f) w ∙ value_at-rising_terms k is f w

pub in_order_is_ordered : (k : FieldValue) (f : Combination) → IsOrdered (in_order k f)
unfolding in_order
in_order_is_ordered k f = ordered-without_zeros (rising_terms k f) (rising-rising_terms k f)

pub elements-in_order : (k : FieldValue) → IsField k → (f : Combination) → AllElements k f → AllElements k (in_order k f)
unfolding in_order
elements-in_order k is f h = all-without_zeros (λ t. IsElement k t.coefficient) (rising_terms k f) (elements-rising_terms k is f h)

-- what holds of each word still does
pub all-in_order : (P : List ℕ → Type 0) (k : FieldValue) (f : Combination) → AllByRecursion (λ t. P t.word) f → AllByRecursion (λ t. P t.word) (in_order k f)
unfolding in_order
all-in_order P k f h = all-without_zeros (λ t. P t.word) (rising_terms k f) (all-rising_terms P k f h)

pub over-in_order : (n : ℕ) (k : FieldValue) (f : Combination) → IsOver n f → IsOver n (in_order k f)
over-in_order n k f h = all-in_order (IsWordOver n) k f h

pub degree-in_order : (m : ℕ) (k : FieldValue) (f : Combination) → HasDegree m f → HasDegree m (in_order k f)
degree-in_order m k f h = all-in_order (λ w. length w ≡ m) k f h

pub among-in_order : (k : FieldValue) (f : Combination) → AllAmong (in_order k f) (words_of f)
unfolding AllAmong
among-in_order k f = all-in_order (Contains (words_of f)) k f (among_own_words f)

-- ---- the one combination in order with these values

pub in_order_unique : (k : FieldValue) → IsField k → (f g : Combination) → AllElements k f → AllElements k g → IsOrdered g → HasSameValues k g f → g ≡ in_order k f
in_order_unique k is f g ef eg ordered same =
    ordered_unique k is g (in_order k f) eg (elements-in_order k is f ef) ordered (in_order_is_ordered k f) (λ w. same w ∙ sym (value_at-in_order k is f w))

pub in_order_itself : (k : FieldValue) → IsField k → (f : Combination) → AllElements k f → IsOrdered f → in_order k f ≡ f
in_order_itself k is f e ordered = sym (in_order_unique k is f f e e ordered (λ w. refl))

pub same_in_order : (k : FieldValue) → IsField k → (f g : Combination) → AllElements k f → AllElements k g → HasSameValues k f g → in_order k f ≡ in_order k g
same_in_order k is f g ef eg same =
    in_order_unique k is g (in_order k f) eg (elements-in_order k is f ef) (in_order_is_ordered k f) (λ w. value_at-in_order k is f w ∙ same w)

pub same_from_in_order : (k : FieldValue) → IsField k → (f g : Combination) → in_order k f ≡ in_order k g → HasSameValues k f g
same_from_in_order k is f g same w = sym (value_at-in_order k is f w) ∙ ap (λ h. value_at k h w) same ∙ value_at-in_order k is g w

pub in_order_is_the_one : (k : FieldValue) → IsField k → (f : Combination) → AllElements k f → IsTheOneInOrder k f
in_order_is_the_one k is f e = record {
  values = value_at-in_order k is f;
  shape = in_order_is_ordered k f;
  elements = elements-in_order k is f e;
  words = among-in_order k f;
  letters = λ n h. over-in_order n k f h;
  degree = λ m h. degree-in_order m k f h;
  unique = λ g eg ordered same. in_order_unique k is f g e eg ordered same;
  unchanged = λ ordered. in_order_itself k is f e ordered;
  tells = λ g eg. (same_in_order k is f g e eg, same_from_in_order k is f g);
}
