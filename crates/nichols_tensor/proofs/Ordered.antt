-- Combinations in order: the words rise and no coefficient is 0. Their values, and that the values determine the terms.
use Rattle.std.proofs.Common.{◌≡◌, ◌≢◌, ℕ, Bool, true, false, cond, List, [], ◌∷◌, ◌++◌, refl, sym, ◌∙◌, ap, ap₂, subst, ◌⊎◌, inl, inr}
use Rattle.std.specs.List.{Contains}
use Rattle.std.proofs.lemmas.List.Elements.{Contains-append_left, Contains-append_right}
use Rattle.std.specs.Cmp.Lexicographic.{same_text, other_text}
use Rattle.nichols_field.specs.Field.{FieldValue, IsField, plus, times}
use Rattle.nichols_field.proofs.FieldLaws.{plus_zero, times_zero, zero_is_element}
use Rattle.nichols_tensor.specs.Combination.{Term, Combination, value_at, HasSameValues, same_letters, words_of, AllElements, AllAmong}
use Rattle.nichols_tensor.specs.WordOrder.{IsBelowFirst, IsRising, IsOrdered}
use Rattle.nichols_tensor.proofs.Entries.{contains_none, contains_first, contains_later, contains_cases}
use Rattle.nichols_tensor.proofs.Sparse.{value_first, value_past, values_tell}
use Rattle.nichols_tensor.proofs.Values.{terms}
use Rattle.nichols_tensor.proofs.Terms.{term}
use Rattle.nichols_tensor.proofs.Order.{word_order, less_is_other, below_after}

-- ---- entries of lists of words

pub is_in_or_not : (w : List ℕ) (ws : List (List ℕ)) → Contains ws w ⊎ (Contains ws w → ⊥)
is_in_or_not w [] = inr (contains_none w)
is_in_or_not w (v ∷ ws) = at (same_letters w v) refl (is_in_or_not w ws)
  where
    at : (b : Bool) → same_letters w v ≡ b → Contains ws w ⊎ (Contains ws w → ⊥) → Contains (v ∷ ws) w ⊎ (Contains (v ∷ ws) w → ⊥)
    at true e rest = inl (subst (Contains (v ∷ ws)) (sym (same_text w v (sym e))) (contains_first v ws))
    at false e (inl i) = inl (contains_later v ws w i)
    at false e (inr n) = inr (λ i. elim (contains_cases v ws w i) [ inl same ↦ other_text w v (sym e) same | inr there ↦ n there ])

-- a word before the first of a list that rises isn't in the list
pub before_all : (w : List ℕ) (vs : List (List ℕ)) → IsBelowFirst w vs → IsRising vs → Contains vs w → ⊥
before_all w [] h r i = contains_none w i
before_all w (v ∷ vs) h r i = elim (contains_cases v vs w i) [ inl e ↦ less_is_other w v h e | inr later ↦ before_all w vs (below_after w v vs h r.0) r.1 later ]

-- ---- values

-- at a word that no term has the value is 0
pub zero_at_others : (k : FieldValue) → IsField k → (f : Combination) (w : List ℕ) → (Contains (words_of f) w → ⊥) → value_at k f w ≡ 0
zero_at_others k is [] w none = refl
zero_at_others k is (t ∷ f) w none = at (same_letters t.word w) refl (zero_at_others k is f w (λ i. none (contains_later t.word (words_of f) w i)))
  where
    at : (b : Bool) → same_letters t.word w ≡ b → value_at k f w ≡ 0 → plus k (cond b t.coefficient 0) (value_at k f w) ≡ 0
    at true e rest = absurd (none (subst (Contains (words_of (t ∷ f))) (same_text t.word w (sym e)) (contains_first t.word (words_of f))))
    at false e rest = ap (plus k 0) rest ∙ plus_zero k 0 (zero_is_element k is)

pub rest_is_ordered : (t : Term) (f : Combination) → IsOrdered (t ∷ f) → IsOrdered f
rest_is_ordered t f h = record { rising = h.rising.1; nonzero = h.nonzero.1 }

-- at each of its words a combination in order isn't 0
pub nonzero_at_each : (k : FieldValue) → IsField k → (f : Combination) (w : List ℕ) → AllElements k f → IsOrdered f → Contains (words_of f) w → value_at k f w ≢ 0
nonzero_at_each k is [] w e o i = absurd (contains_none w i)
nonzero_at_each k is (t ∷ f) w e o i = λ z. elim (contains_cases t.word (words_of f) w i) [
  | inl same ↦ o.nonzero.0 (sym (value_first terms word_order k is t f e.0 o.rising) ∙ ap (value_at k (t ∷ f)) (sym same) ∙ z)
  | inr later ↦
      let other : t.word ≢ w = λ same. before_all t.word (words_of f) o.rising.0 o.rising.1 (subst (Contains (words_of f)) (sym same) later) in
      nonzero_at_each k is f w e.1 (rest_is_ordered t f o) later (sym (value_past terms k is t f w other) ∙ z)
]

-- a combination in order has no words but those at which it isn't 0
pub among_nonzero : (k : FieldValue) → IsField k → (f : Combination) (ws : List (List ℕ)) → AllElements k f → IsOrdered f → ((w : List ℕ) → value_at k f w ≢ 0 → Contains ws w) → AllAmong f ws
unfolding AllAmong
among_nonzero k is f ws e o h = each f (λ w i. h w (nonzero_at_each k is f w e o i))
  where
    each : (g : Combination) → ((w : List ℕ) → Contains (words_of g) w → Contains ws w) → AllAmong g ws
    each [] h = tt
    each (t ∷ g) h = (h t.word (contains_first t.word (words_of g)), each g (λ w i. h w (contains_later t.word (words_of g) w i)))

-- the words of a sum with a multiple are words of the two
pub among_sum : (k : FieldValue) → IsField k → (by : ℕ) (f g h : Combination) → AllElements k h → IsOrdered h → ((w : List ℕ) → value_at k h w ≡ plus k (value_at k f w) (times k by (value_at k g w))) → AllAmong h (words_of f ++ words_of g)
among_sum k is by f g h e o values = among_nonzero k is h (words_of f ++ words_of g) e o at
  where
    at : (w : List ℕ) → value_at k h w ≢ 0 → Contains (words_of f ++ words_of g) w
    at w nonzero =
        elim (is_in_or_not w (words_of f ++ words_of g)) [
          | inl i ↦ i
          | inr none ↦
              absurd (nonzero (values w
              ∙ ap (λ n. plus k n (times k by (value_at k g w))) (zero_at_others k is f w (λ i. none (Contains-append_left (words_of f) (words_of g) w i)))
              ∙ ap (λ n. plus k 0 (times k by n)) (zero_at_others k is g w (λ i. none (Contains-append_right (words_of f) (words_of g) w i)))
              ∙ ap (plus k 0) (times_zero k by is) ∙ plus_zero k 0 (zero_is_element k is)))
        ]

-- ---- the values determine the terms

-- combinations in order with the same values are one list of terms
pub ordered_unique : (k : FieldValue) → IsField k → (f g : Combination) → AllElements k f → AllElements k g → IsOrdered f → IsOrdered g → HasSameValues k f g → f ≡ g
ordered_unique k is f g ef eg f_ordered g_ordered same =
    values_tell terms word_order k is (λ t u. ap₂ term) f g ef eg f_ordered.rising g_ordered.rising f_ordered.nonzero g_ordered.nonzero same
