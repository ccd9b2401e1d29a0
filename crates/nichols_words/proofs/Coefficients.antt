-- Coefficients by a search, and as values.
use Rattle.std.proofs.Common.{◌≡◌, ◌≢◌, ℕ, zero, suc, ◌<◌, Bool, true, false, cond, List, [], ◌∷◌, length, get_or, add-one, refl, sym, ◌∙◌, ap, subst, arith, Result, Ok, Err, inl, inr}
use Rattle.std.specs.Cmp.Lexicographic.{same_text}
use Rattle.std.proofs.lemmas.Bool.{cases_lt}
use Rattle.std.specs.List.{Contains}
use Rattle.std.proofs.lemmas.List.Elements.{Contains-get_or}
use Rattle.std.specs.List.Sorted.{IsPartitionPoint, IsBinarySearchResult, IsSearchInRange, IsSortedByKey}
use Rattle.std.specs.Ordering.{is_lt}
use Rattle.std.specs.declared.cmp.Ordering.TheVariants.{Less, Equal, Greater}
use Rattle.std.specs.Result.{MatchResult}
use Rattle.std.proofs.lemmas.List.Sorted.{searchable_from_sorted}
use Rattle.nichols_field.specs.Field.{FieldValue, IsField, plus}
use Rattle.nichols_field.proofs.FieldLaws.{plus_zero}
use Rattle.nichols_field.proofs.FieldAlgebra.{zero_plus}
use Rattle.nichols_tensor.specs.Combination.{Term, Combination, value_at, same_letters, words_of, AllElements}
use Rattle.nichols_tensor.specs.WordOrder.{word_cmp, IsRising}
use Rattle.nichols_tensor.proofs.Entries.{in_map}
use Rattle.nichols_tensor.proofs.Values.{value_is_element, same_itself}
use Rattle.nichols_tensor.proofs.Order.{word_cmp_total, word_cmp_itself, same_word, greater_back}
use Rattle.nichols_tensor.proofs.Ordered.{before_all, zero_at_others}
use Rattle.nichols_words.specs.Comb.{coefficient_at}

-- ---- coefficients are values

-- of a combination whose words rise, the coefficient at a word is the value there
pub coefficient_is_value : (k : FieldValue) → IsField k → (f : Combination) (w : List ℕ) → AllElements k f → IsRising (words_of f) → coefficient_at f w ≡ value_at k f w
coefficient_is_value k is [] w e r = refl
coefficient_is_value k is (t ∷ f) w e r = at (same_letters t.word w) refl (coefficient_is_value k is f w e.1 r.1)
  where
    at : (b : Bool) → same_letters t.word w ≡ b → coefficient_at f w ≡ value_at k f w → cond b t.coefficient (coefficient_at f w) ≡ plus k (cond b t.coefficient 0) (value_at k f w)
    at true same rest =
        let none : value_at k f w ≡ 0 = zero_at_others k is f w (subst (λ v. Contains (words_of f) v → ⊥) (same_text t.word w (sym same)) (before_all t.word (words_of f) r.0 r.1)) in
        sym (plus_zero k t.coefficient e.0) ∙ ap (plus k t.coefficient) (sym none)
    at false other rest = rest ∙ sym (zero_plus k (value_at k f w) (value_is_element k is f w))

-- ---- a search by order

word_at : (f : Combination) (i : ℕ) (d : Term) → i < length f → Contains (words_of f) (get_or f i d).word
word_at f i d less = in_map (λ t. t.word) (get_or f i d) f (Contains-get_or f i d less)

at_other : (t : Term) (f : Combination) (w : List ℕ) → t.word ≢ w → coefficient_at (t ∷ f) w ≡ coefficient_at f w
at_other t f w other = at (same_letters t.word w) refl
  where
    at : (b : Bool) → same_letters t.word w ≡ b → cond b t.coefficient (coefficient_at f w) ≡ coefficient_at f w
    at true e = absurd (other (same_text t.word w (sym e)))
    at false e = refl

found_at : (f : Combination) (w : List ℕ) (i : ℕ) (d : Term) → IsRising (words_of f) → i < length f → (get_or f i d).word ≡ w → coefficient_at f w ≡ (get_or f i d).coefficient
found_at [] w i d r less e = absurd (omega arith)
found_at (t ∷ f) w zero d r less e = ap (λ v. cond (same_letters t.word v) t.coefficient (coefficient_at f v)) (sym e) ∙ ap (λ b. cond b t.coefficient (coefficient_at f t.word)) (same_itself t.word)
found_at (t ∷ f) w (suc i) d r less e =
    at_other t f w (λ same. before_all t.word (words_of f) r.0 r.1 (subst (Contains (words_of f)) (e ∙ sym same) (word_at f i d (omega arith))))
    ∙ found_at f w i d r.1 (omega arith) e

absent_at : (f : Combination) (w : List ℕ) → ((i : ℕ) (d : Term) → i < length f → (get_or f i d).word ≢ w) → coefficient_at f w ≡ 0
absent_at [] w none = refl
absent_at (t ∷ f) w none = at_other t f w (none 0 t (omega arith)) ∙ absent_at f w (λ i d less. none (suc i) d (omega arith))

adjacent : (f : Combination) (i : ℕ) (d : Term) → IsRising (words_of f) → suc i < length f → word_cmp (get_or f i d).word (get_or f (suc i) d).word ≡ Less
adjacent [] i d r less = absurd (omega arith)
adjacent (t ∷ []) i d r less = absurd (omega arith)
adjacent (t ∷ u ∷ f) zero d r less = r.0
adjacent (t ∷ u ∷ f) (suc i) d r less = adjacent (u ∷ f) i d r.1 (omega arith)

sorted_from_rising : (f : Combination) → IsRising (words_of f) → IsSortedByKey (λ (t : Term). t.word) word_cmp f
sorted_from_rising f r = λ i d low less.
    rw (add-one i) (ap is_lt (greater_back (get_or f i d).word (get_or f (suc i) d).word (adjacent f i d r (omega arith))))

-- what a search by order for a word finds
pub searched : (f : Combination) (w : List ℕ) (r : Result ℕ ℕ) → IsRising (words_of f) → IsSearchInRange r (length f) → IsBinarySearchResult (λ (t : Term). word_cmp t.word w) f r →
    MatchResult r (λ i. (d : Term) → coefficient_at f w ≡ (get_or f i d).coefficient) (λ i. coefficient_at f w ≡ 0)
searched f w (Ok i) rising within found = λ d. found_at f w i d rising within (same_word (get_or f i d).word w (found d))
searched f w (Err i) rising within found = absent_at f w none
  where
    none : (j : ℕ) (d : Term) → j < length f → (get_or f j d).word ≢ w
    none j d less e =
        let sides : IsPartitionPoint (λ (t : Term). word_cmp t.word w ≡ Less) (λ (t : Term). word_cmp t.word w ≡ Greater) f i = found (searchable_from_sorted word_cmp_total (λ (t : Term). t.word) f w (sorted_from_rising f rising)) in
        let tie : word_cmp (get_or f j d).word w ≡ Equal = ap (λ v. word_cmp v w) e ∙ word_cmp_itself w in
        elim (cases_lt j i) [
          | inl before ↦ let c : Equal ≡ Less = sym tie ∙ sides.0 j d (omega arith) before in cc
          | inr behind ↦ let c : Equal ≡ Greater = sym tie ∙ sides.1 j d behind less in cc
        ]
