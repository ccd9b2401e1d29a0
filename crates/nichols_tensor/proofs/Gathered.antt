-- The words of entries that are gathered rise, where the entries are sorted by word.
use Rattle.std.proofs.Common.{◌≡◌, ℕ, suc, ◌+◌, Bool, true, false, cond, List, [], ◌∷◌, map, get_or, refl, ap, subst, sym, ◌∙◌, arith}
use Rattle.std.specs.List.Sorted.{IsSortedByKey}
use Rattle.std.specs.Ordering.{is_lt, is_eq}
use Rattle.std.specs.declared.cmp.Ordering.{Ordering}
use Rattle.std.specs.declared.cmp.Ordering.TheVariants.{Less, Equal, Greater}
use Rattle.nichols_tensor.specs.Gathered.{are_one, gathered_by}
use Rattle.nichols_tensor.specs.WordOrder.{word_cmp, IsBelowFirst, IsRising}
use Rattle.nichols_tensor.proofs.Order.{same_word, less_back}

-- entries with a word each, where two of one word are together an entry of it
module _ {X : Type 0} (word : X → List ℕ) (together : X → X → X) (kept : (last x : X) → word (together last x) ≡ word last) where
  below-gathered : (v : List ℕ) (last : X) (xs : List X) → word_cmp v (word last) ≡ Less → IsBelowFirst v (map word (gathered_by word together last xs))
  unfolding gathered_by
  below-gathered v last [] h = h
  below-gathered v last (x ∷ xs) h = at (are_one (word x) (word last)) (below-gathered v (together last x) xs (ap (word_cmp v) (kept last x) ∙ h))
    where
      at : (b : Bool) → IsBelowFirst v (map word (gathered_by word together (together last x) xs)) → IsBelowFirst v (map word (cond b (gathered_by word together (together last x) xs) (last ∷ gathered_by word together x xs)))
      at true same = same
      at false same = h

  -- no word of the list stands before the one in front of it, nor the first before w
  abbrev NeverFalls : List ℕ → List X → Type 0
  NeverFalls w [] = Unit {0}
  NeverFalls w (x ∷ xs) = (is_lt (word_cmp (word x) w) ≡ false) × NeverFalls (word x) xs

  rising-gathered : (last : X) (xs : List X) → NeverFalls (word last) xs → IsRising (map word (gathered_by word together last xs))
  unfolding gathered_by
  rising-gathered last [] s = (tt, tt)
  rising-gathered last (x ∷ xs) s =
      at (word_cmp (word x) (word last)) refl s.0 (λ e. rising-gathered (together last x) xs (subst (λ v. NeverFalls v xs) (e ∙ sym (kept last x)) s.1)) (rising-gathered x xs s.1) (below-gathered (word last) x xs)
    where
      at : (o : Ordering) → word_cmp (word x) (word last) ≡ o → is_lt o ≡ false → (word x ≡ word last → IsRising (map word (gathered_by word together (together last x) xs))) → IsRising (map word (gathered_by word together x xs)) →
          (word_cmp (word last) (word x) ≡ Less → IsBelowFirst (word last) (map word (gathered_by word together x xs))) → IsRising (map word (cond (is_eq o) (gathered_by word together (together last x) xs) (last ∷ gathered_by word together x xs)))
      at Less e h same other below = cc
      at Equal e h same other below = same (same_word (word x) (word last) e)
      at Greater e h same other below = (below (less_back (word x) (word last) e), other)

  never_falls : (x : X) (xs : List X) → IsSortedByKey word word_cmp (x ∷ xs) → NeverFalls (word x) xs
  never_falls x [] s = tt
  never_falls x (y ∷ xs) s = (s 0 x (omega arith) (omega arith), never_falls y xs (λ i d low less. later i d (s (suc i) d (omega arith) (omega arith))))
    where
      later : (i : ℕ) (d : X) → is_lt (word_cmp (word (get_or (x ∷ y ∷ xs) (suc i + 1) d)) (word (get_or (x ∷ y ∷ xs) (suc i) d))) ≡ false → is_lt (word_cmp (word (get_or (y ∷ xs) (i + 1) d)) (word (get_or (y ∷ xs) i d))) ≡ false
      later i d h = subst (λ n. is_lt (word_cmp (word (get_or (x ∷ y ∷ xs) n d)) (word (get_or (y ∷ xs) i d))) ≡ false) more h
        where
          more : suc i + 1 ≡ suc (i + 1)
          more = omega arith

  pub gathered_rise : (x : X) (xs : List X) → IsSortedByKey word word_cmp (x ∷ xs) → IsRising (map word (gathered_by word together x xs))
  gathered_rise x xs s = rising-gathered x xs (never_falls x xs s)
