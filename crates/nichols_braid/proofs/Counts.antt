-- Lists of numbers that hold each number equally often are rearrangements of one another.
use Rattle.std.proofs.Common.{◌≡◌, ℕ, ◌+◌, ◌<◌, Bool, true, false, cond, List, [], ◌∷◌, ◌++◌, refl, sym, ◌∙◌, ap, arith, subst, nat_eq, ◌⊎◌, inl, inr}
use Rattle.std.specs.List.{sum_by, Contains}
use Rattle.std.specs.List.Sorted.{IsPermutation}
use Rattle.std.proofs.lemmas.Bool.Decides.{nat_tests}
use Rattle.std.proofs.lemmas.List.Sums.{sum_by-cons}
use Rattle.std.proofs.lemmas.List.Sorted.{IsPermutation-refl, IsPermutation-cons, IsPermutation-sym, IsPermutation-trans, IsPermutation-middle, sum_by-IsPermutation}
use Rattle.nichols_tensor.proofs.Entries.{contains_none, contains_first, contains_later, contains_cases}

-- how often a stands in the list
count : ℕ → List ℕ → ℕ
count a xs = sum_by (λ y. cond (nat_eq a y) 1 0) xs

count-cons : (a x : ℕ) (xs : List ℕ) → count a (x ∷ xs) ≡ cond (nat_eq a x) 1 0 + count a xs
unfolding count
count-cons a x xs = sum_by-cons (λ y. cond (nat_eq a y) 1 0) x xs

empty_count : (a : ℕ) → count a [] ≡ 0
unfolding count
empty_count a = refl

count_moved : (a : ℕ) (xs ys : List ℕ) → IsPermutation xs ys → count a ys ≡ count a xs
unfolding count
count_moved a xs ys h = sum_by-IsPermutation (λ y. cond (nat_eq a y) 1 0) xs ys h

count_itself : (x : ℕ) (xs : List ℕ) → 0 < count x (x ∷ xs)
count_itself x xs = let e : count x (x ∷ xs) ≡ cond (nat_eq x x) 1 0 + count x xs = count-cons x x xs in at (nat_eq x x) (grind (arith, nat_tests)) e
  where
    at : (t : Bool) → t ≡ true → count x (x ∷ xs) ≡ cond t 1 0 + count x xs → 0 < count x (x ∷ xs)
    at true h e = omega arith
    at false h e = cc

pub in_front_and_rest : (x : ℕ) (xs : List ℕ) → Contains xs x → (front : List ℕ) × (rest : List ℕ) × (xs ≡ front ++ x ∷ rest)
in_front_and_rest x [] h = absurd (contains_none x h)
in_front_and_rest x (y ∷ xs) h = at (contains_cases y xs x h) (λ i. in_front_and_rest x xs i)
  where
    at : (x ≡ y) ⊎ Contains xs x → (Contains xs x → (front : List ℕ) × (rest : List ℕ) × (xs ≡ front ++ x ∷ rest)) → (front : List ℕ) × (rest : List ℕ) × (y ∷ xs ≡ front ++ x ∷ rest)
    at (inl e) later = ([], xs, ap (λ z. z ∷ xs) (sym e))
    at (inr i) later = let (front, rest, e) = later i in (y ∷ front, rest, ap (λ z. y ∷ z) e)

counted_is_in : (x : ℕ) (xs : List ℕ) → 0 < count x xs → Contains xs x
unfolding count
counted_is_in x [] h = absurd (let e : count x [] ≡ 0 = empty_count x in omega arith)
counted_is_in x (y ∷ xs) h = at (nat_eq x y) (grind (arith, nat_tests)) (subst (λ n. 0 < n) (count-cons x y xs) h) (λ k. counted_is_in x xs k)
  where
    at : (t : Bool) → (t ≡ true → x ≡ y) → 0 < cond t 1 0 + count x xs → (0 < count x xs → Contains xs x) → Contains (y ∷ xs) x
    at true e h rest = subst (Contains (y ∷ xs)) (sym (e refl)) (contains_first y xs)
    at false e h rest = contains_later y xs x (rest (omega arith))

rearranged_from_counts : (xs ys : List ℕ) → ((a : ℕ) → count a xs ≡ count a ys) → IsPermutation xs ys
rearranged_from_counts [] [] h = IsPermutation-refl []
rearranged_from_counts [] (y ∷ ys) h = absurd (let some : 0 < count y (y ∷ ys) = count_itself y ys in let none : count y [] ≡ 0 = empty_count y in let e : count y [] ≡ count y (y ∷ ys) = h y in omega arith)
rearranged_from_counts (x ∷ xs) ys h =
    let some : 0 < count x ys = subst (λ n. 0 < n) (h x) (count_itself x xs) in
    let (front, rest, e) = in_front_and_rest x ys (counted_is_in x ys some) in
    let moved : IsPermutation (front ++ x ∷ rest) (x ∷ (front ++ rest)) = IsPermutation-middle front x rest in
    subst (IsPermutation (x ∷ xs)) (sym e)
    (IsPermutation-trans (x ∷ xs) (x ∷ (front ++ rest)) (front ++ x ∷ rest)
    (IsPermutation-cons x xs (front ++ rest) (rearranged_from_counts xs (front ++ rest) (λ a. fewer (cond (nat_eq a x) 1 0) (count a xs) (count a (front ++ rest)) (sym (count-cons a x xs) ∙ h a ∙ ap (count a) e ∙ sym (count_moved a (front ++ x ∷ rest) (x ∷ (front ++ rest)) moved) ∙ count-cons a x (front ++ rest)))))
    (IsPermutation-sym (front ++ x ∷ rest) (x ∷ (front ++ rest)) moved))
  where
    fewer : (n l m : ℕ) → n + l ≡ n + m → l ≡ m
    fewer n l m e = omega arith

-- a first entry in common may be dropped
pub rearranged_tails : (x : ℕ) (xs ys : List ℕ) → IsPermutation (x ∷ xs) (x ∷ ys) → IsPermutation xs ys
rearranged_tails x xs ys h =
    rearranged_from_counts xs ys (λ a. same (cond (nat_eq a x) 1 0) (count a xs) (count a ys) (sym (count-cons a x xs) ∙ sym (count_moved a (x ∷ xs) (x ∷ ys) h) ∙ count-cons a x ys))
  where
    same : (n l m : ℕ) → n + l ≡ n + m → l ≡ m
    same n l m e = omega arith
