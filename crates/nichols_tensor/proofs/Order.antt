-- The word order is total, and what follows of lists of words that rise.
use Rattle.std.proofs.Common.{◌≡◌, ◌≢◌, ℕ, List, [], ◌∷◌, ◌++◌, length, refl, sym, ◌∙◌, ap, ◌⊎◌, inl, inr}
use Rattle.std.specs.Ordering.{nat_cmp, eq_by_cmp, ordering_then, ordering_reverse}
use Rattle.std.specs.declared.cmp.Ordering.{Ordering}
use Rattle.std.specs.declared.cmp.Ordering.TheVariants.{Less, Equal, Greater}
use Rattle.std.specs.Cmp.Lexicographic.{slice_cmp}
use Rattle.std.specs.FinMap.{slice_cmp-IsAntisymmetric, nat_cmp-IsAntisymmetric}
use Rattle.std.specs.Cmp.{IsTotalOrder, IsEquivalence}
use Rattle.std.proofs.lemmas.Cmp.{then_total, on_total, nat_cmp_total, nat_list_cmp_total, eq_by_cmp_equiv}
use Rattle.nichols_tensor.specs.Combination.{Term, Combination, words_of}
use Rattle.nichols_tensor.specs.WordOrder.{word_cmp, IsBelowFirst, IsRising}
use Rattle.nichols_tensor.proofs.Sparse.{IsStrict, before_after}

pub word_cmp_total : IsTotalOrder word_cmp
word_cmp_total = then_total (on_total length nat_cmp_total) nat_list_cmp_total

pub word_eq_laws : IsEquivalence (eq_by_cmp word_cmp)
word_eq_laws = eq_by_cmp_equiv word_cmp_total

then_equal : (o p : Ordering) → ordering_then o p ≡ Equal → p ≡ Equal
then_equal Less p h = cc
then_equal Equal p h = h
then_equal Greater p h = cc

-- words that tie are one word
pub same_word : (v w : List ℕ) → word_cmp v w ≡ Equal → v ≡ w
same_word v w h = slice_cmp-IsAntisymmetric nat_cmp-IsAntisymmetric v w (then_equal (nat_cmp (length v) (length w)) (slice_cmp nat_cmp v w) h)

pub less_back : (v w : List ℕ) → word_cmp v w ≡ Greater → word_cmp w v ≡ Less
less_back v w h = word_cmp_total.antisymm w v ∙ ap ordering_reverse h

pub greater_back : (v w : List ℕ) → word_cmp v w ≡ Less → word_cmp w v ≡ Greater
greater_back v w h = word_cmp_total.antisymm w v ∙ ap ordering_reverse h

own_reverse : (o : Ordering) → o ≡ ordering_reverse o → o ≡ Equal
own_reverse Less h = cc
own_reverse Equal h = refl
own_reverse Greater h = cc

-- a word ties with itself
pub word_cmp_itself : (w : List ℕ) → word_cmp w w ≡ Equal
word_cmp_itself w = own_reverse (word_cmp w w) (word_cmp_total.antisymm w w)

-- a word isn't a word that it stands before
pub less_is_other : (v w : List ℕ) → word_cmp v w ≡ Less → v ≢ w
less_is_other v w h e = let c : Equal ≡ Less = sym (word_cmp_itself w) ∙ ap (λ u. word_cmp u w) (sym e) ∙ h in cc

pub word_order : IsStrict (λ v w. word_cmp v w ≡ Less)
word_order = record { apart = less_is_other; onward = word_cmp_total.trans; cases = λ v w. at v w (word_cmp v w) refl }
  where
    at : (v w : List ℕ) → (o : Ordering) → word_cmp v w ≡ o → (v ≡ w) ⊎ ((word_cmp v w ≡ Less) ⊎ (word_cmp w v ≡ Less))
    at v w Less e = inr (inl e)
    at v w Equal e = inl (same_word v w e)
    at v w Greater e = inr (inr (less_back v w e))

-- ---- lists of words that rise

-- the words before a word, with it, and the words from it on
below_joined : (v : List ℕ) (vs : List (List ℕ)) (w : List ℕ) (us : List (List ℕ)) → IsBelowFirst v (vs ++ w ∷ []) → IsBelowFirst v (vs ++ w ∷ us)
below_joined v [] w us h = h
below_joined v (x ∷ vs) w us h = h

pub rising_joined : (vs : List (List ℕ)) (w : List ℕ) (us : List (List ℕ)) → IsRising (vs ++ w ∷ []) → IsRising (w ∷ us) → IsRising (vs ++ w ∷ us)
rising_joined [] w us h k = k
rising_joined (v ∷ vs) w us h k = (below_joined v vs w us h.0, rising_joined vs w us h.1 k)

below_front : (v : List ℕ) (vs : List (List ℕ)) (w : List ℕ) (us : List (List ℕ)) → IsBelowFirst v (vs ++ w ∷ us) → IsBelowFirst v (vs ++ w ∷ [])
below_front v [] w us h = h
below_front v (x ∷ vs) w us h = h

pub rising_front : (vs : List (List ℕ)) (w : List ℕ) (us : List (List ℕ)) → IsRising (vs ++ w ∷ us) → IsRising (vs ++ w ∷ [])
rising_front [] w us h = (tt, tt)
rising_front (v ∷ vs) w us h = (below_front v vs w us h.0, rising_front vs w us h.1)

pub rising_back : (vs us : List (List ℕ)) → IsRising (vs ++ us) → IsRising us
rising_back [] us h = h
rising_back (v ∷ vs) us h = rising_back vs us h.1

pub below_after : (v w : List ℕ) (us : List (List ℕ)) → word_cmp v w ≡ Less → IsBelowFirst w us → IsBelowFirst v us
below_after v w us h k = before_after word_order v w us h k

below_without : (v : List ℕ) (vs : List (List ℕ)) (w : List ℕ) (us : List (List ℕ)) → IsBelowFirst v (vs ++ w ∷ us) → IsRising (vs ++ w ∷ us) → IsBelowFirst v (vs ++ us)
below_without v [] w us h k = below_after v w us h k.0
below_without v (x ∷ vs) w us h k = h

-- a word in the middle may go
pub rising_without : (vs : List (List ℕ)) (w : List ℕ) (us : List (List ℕ)) → IsRising (vs ++ w ∷ us) → IsRising (vs ++ us)
rising_without [] w us h = h.1
rising_without (v ∷ vs) w us h = (below_without v vs w us h.0 h.1, rising_without vs w us h.1)

pub words_of-push : (f : Combination) (t : Term) (us : List (List ℕ)) → words_of (f ++ t ∷ []) ++ us ≡ words_of f ++ t.word ∷ us
words_of-push [] t us = refl
words_of-push (s ∷ f) t us = ap (λ vs. s.word ∷ vs) (words_of-push f t us)
