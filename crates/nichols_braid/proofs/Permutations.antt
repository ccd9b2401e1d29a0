-- The list of permutations holds each rearrangement exactly once.
use Rattle.std.proofs.Common.{◌≡◌, ℕ, zero, suc, ◌+◌, ◌-◌, ◌<◌, ◌≤◌, true, false, List, [], ◌∷◌, ◌++◌, length, map, refl, sym, ◌∙◌, ap, ap₂, arith, subst, nat_eq, inl, inr}
use Rattle.std.specs.List.{All, AllByRecursion, Contains, IsDistinct, flat_map, insert}
use Rattle.std.specs.List.Sorted.{IsPermutation}
use Rattle.std.proofs.lemmas.Bool.{cases_Bool}
use Rattle.std.proofs.lemmas.Bool.Decides.{nat_tests}
use Rattle.std.specs.Cmp.Lexicographic.{same_text}
use Rattle.std.proofs.lemmas.List.{length-append}
use Rattle.std.proofs.lemmas.List.Elements.{All-from_recursion, All-weaker, All-head, All-tail, Contains-push}
use Rattle.std.proofs.lemmas.List.Sorted.{IsPermutation-refl, IsPermutation-cons, IsPermutation-sym, IsPermutation-trans, IsPermutation-to_front, IsPermutation-middle, IsPermutation-insert, Contains-permutation}
use Rattle.nichols_tensor.specs.Combination.{same_letters}
use Rattle.nichols_tensor.specs.Words.{up_to, IsLetterOf}
use Rattle.nichols_tensor.proofs.Entries.{in_map, from_map, in_flat_map, from_flat_map, contains_none, contains_first, contains_later, contains_cases}
use Rattle.nichols_tensor.proofs.Values.{same_itself}
use Rattle.nichols_tensor.proofs.Tests.{all_of_entries}
use Rattle.nichols_tensor.proofs.Letters.{in_up_to, from_up_to}
use Rattle.nichols_braid.specs.Symmetrizer.{permutations}
use Rattle.nichols_braid.specs.Rearrangement.{IsRearrangement, HoldsEachOnce}
use Rattle.nichols_braid.proofs.Rearranged.{rearranged_length, rearranged_bounds, up_to_distinct}
use Rattle.nichols_braid.proofs.Counts.{in_front_and_rest, rearranged_tails}

-- ---- each entry is a rearrangement

pub inserted_is_rearrangement : (m : ℕ) (ends : List ℕ) (i : ℕ) → IsRearrangement m ends → IsRearrangement (suc m) (insert ends i (suc m))
inserted_is_rearrangement m ends i h =
    IsPermutation-trans (up_to m ++ suc m ∷ []) (suc m ∷ up_to m) (insert ends i (suc m)) (IsPermutation-to_front (up_to m) (suc m))
    (IsPermutation-trans (suc m ∷ up_to m) (suc m ∷ ends) (insert ends i (suc m)) (IsPermutation-cons (suc m) (up_to m) ends h) (IsPermutation-insert ends i (suc m)))

pub listed_is_rearrangement : (m : ℕ) (ends : List ℕ) → Contains (permutations m) ends → IsRearrangement m ends
unfolding permutations
listed_is_rearrangement zero ends h =
    elim (contains_cases [] [] ends h) [
      | inl e ↦ subst (IsRearrangement 0) (sym e) (IsPermutation-refl [])
      | inr none ↦ absurd (contains_none ends none)
    ]
listed_is_rearrangement (suc m) ends h =
    let (j, i, k) = from_flat_map (λ j. map (λ ends. insert ends (j - 1) (suc m)) (permutations m)) ends (up_to (suc m)) h in
    let (rest, l, e) = from_map (λ ends. insert ends (j - 1) (suc m)) ends (permutations m) k in
    subst (IsRearrangement (suc m)) (sym e) (inserted_is_rearrangement m rest (j - 1) (listed_is_rearrangement m rest l))

-- ---- each rearrangement is an entry

pub insert_between : (front rest : List ℕ) (y : ℕ) → insert (front ++ rest) (length front) y ≡ front ++ y ∷ rest
insert_between [] [] y = refl
insert_between [] (x ∷ rest) y = refl
insert_between (x ∷ front) rest y = ap (λ r. x ∷ r) (insert_between front rest y)

last_is_listed : (m : ℕ) → Contains (up_to (suc m)) (suc m)
last_is_listed m = Contains-push (up_to m) (suc m)

rearrangement_is_listed : (m : ℕ) (ends : List ℕ) → IsRearrangement m ends → Contains (permutations m) ends
unfolding permutations
rearrangement_is_listed zero [] h = contains_first [] []
rearrangement_is_listed zero (x ∷ ends) h = absurd (let e : suc (length ends) ≡ 0 = rearranged_length 0 (x ∷ ends) h in omega arith)
rearrangement_is_listed (suc m) ends h =
    let there : Contains ends (suc m) = Contains-permutation (up_to (suc m)) ends (suc m) h (last_is_listed m) in
    let (front, rest, e) = in_front_and_rest (suc m) ends there in
    let from : IsPermutation (suc m ∷ up_to m) (up_to m ++ suc m ∷ []) = IsPermutation-sym (up_to m ++ suc m ∷ []) (suc m ∷ up_to m) (IsPermutation-to_front (up_to m) (suc m)) in
    let to : IsPermutation (up_to (suc m)) (front ++ suc m ∷ rest) = subst (IsRearrangement (suc m)) e h in
    let both : IsPermutation (suc m ∷ up_to m) (suc m ∷ (front ++ rest)) =
    IsPermutation-trans (suc m ∷ up_to m) (up_to (suc m)) (suc m ∷ (front ++ rest)) from (IsPermutation-trans (up_to (suc m)) (front ++ suc m ∷ rest) (suc m ∷ (front ++ rest)) to (IsPermutation-middle front (suc m) rest)) in
    let shorter : IsRearrangement m (front ++ rest) = rearranged_tails (suc m) (up_to m) (front ++ rest) both in
    let size : length front + length rest ≡ m = sym (length-append front rest) ∙ rearranged_length m (front ++ rest) shorter in
    subst (λ es. Contains (permutations (suc m)) es) (sym (e ∙ sym (insert_between front rest (suc m))))
    (in_flat_map (λ j. map (λ ends. insert ends (j - 1) (suc m)) (permutations m)) (suc (length front)) (up_to (suc m)) (insert (front ++ rest) (length front) (suc m)) (in_up_to (suc m) (suc (length front)) (omega arith, omega arith))
    (subst (λ n. Contains (map (λ ends. insert ends n (suc m)) (permutations m)) (insert (front ++ rest) (length front) (suc m))) (let e : length front ≡ suc (length front) - 1 = omega arith in e)
    (in_map (λ ends. insert ends (length front) (suc m)) (front ++ rest) (permutations m) (rearrangement_is_listed m (front ++ rest) shorter))))

-- ---- no entry stands twice

pub distinct-append : (xs ys : List (List ℕ)) → IsDistinct same_letters xs → IsDistinct same_letters ys → ((x y : List ℕ) → Contains xs x → Contains ys y → same_letters x y ≡ false) → IsDistinct same_letters (xs ++ ys)
unfolding IsDistinct
distinct-append [] ys h l apart = l
distinct-append (x ∷ xs) ys h l apart = (both xs h.0 ys (λ y i. apart x y (contains_first x xs) i), distinct-append xs ys h.1 l (λ z y i j. apart z y (contains_later x xs z i) j))
  where
    all : (ys : List (List ℕ)) → ((y : List ℕ) → Contains ys y → same_letters x y ≡ false) → AllByRecursion (λ y. same_letters x y ≡ false) ys
    all [] h = tt
    all (y ∷ ys) h = (h y (contains_first y ys), all ys (λ z i. h z (contains_later y ys z i)))

    both : (xs : List (List ℕ)) → AllByRecursion (λ y. same_letters x y ≡ false) xs → (ys : List (List ℕ)) → ((y : List ℕ) → Contains ys y → same_letters x y ≡ false) → AllByRecursion (λ y. same_letters x y ≡ false) (xs ++ ys)
    both [] h ys k = all ys k
    both (z ∷ xs) h ys k = (h.0, both xs h.1 ys k)

distinct-map : (f : List ℕ → List ℕ) (xs : List (List ℕ)) → IsDistinct same_letters xs → ((x y : List ℕ) → Contains xs x → Contains xs y → same_letters x y ≡ false → same_letters (f x) (f y) ≡ false) → IsDistinct same_letters (map f xs)
unfolding IsDistinct
distinct-map f [] h apart = tt
distinct-map f (x ∷ xs) h apart = (all xs h.0 (λ y i e. apart x y (contains_first x xs) (contains_later x xs y i) e), distinct-map f xs h.1 (λ y z i j e. apart y z (contains_later x xs y i) (contains_later x xs z j) e))
  where
    all : (ys : List (List ℕ)) → AllByRecursion (λ y. same_letters x y ≡ false) ys → ((y : List ℕ) → Contains ys y → same_letters x y ≡ false → same_letters (f x) (f y) ≡ false) → AllByRecursion (λ y. same_letters (f x) y ≡ false) (map f ys)
    all [] h k = tt
    all (y ∷ ys) h k = (k y (contains_first y ys) h.0, all ys h.1 (λ z i e. k z (contains_later y ys z i) e))

distinct-flat_map : (f : ℕ → List (List ℕ)) (js : List ℕ) → IsDistinct nat_eq js → ((j : ℕ) → Contains js j → IsDistinct same_letters (f j)) →
    ((i j : ℕ) (x y : List ℕ) → Contains js i → Contains js j → nat_eq i j ≡ false → Contains (f i) x → Contains (f j) y → same_letters x y ≡ false) → IsDistinct same_letters (flat_map f js)
unfolding IsDistinct
distinct-flat_map f [] h each apart = tt
distinct-flat_map f (j ∷ js) h each apart =
    distinct-append (f j) (flat_map f js) (each j (contains_first j js)) (distinct-flat_map f js h.1 (λ i k. each i (contains_later j js i k)) (λ i k x y a b. apart i k x y (contains_later j js i a) (contains_later j js k b)))
    (λ x y a b. let (i, k, l) = from_flat_map f y js b in apart j i x y (contains_first j js) (contains_later j js i k) (other js h.0 i k) a l)
  where
    other : (js : List ℕ) → AllByRecursion (λ y. nat_eq j y ≡ false) js → (i : ℕ) → Contains js i → nat_eq j i ≡ false
    other [] h i k = absurd (contains_none i k)
    other (z ∷ js) h i k = elim (contains_cases z js i k) [ inl e ↦ ap (nat_eq j) e ∙ h.0 | inr later ↦ other js h.1 i later ]

-- what was put in, and where, can be read off
inserted_once : (n : ℕ) (xs ys : List ℕ) (i j : ℕ) → All (λ a. a < n) xs → All (λ a. a < n) ys → i ≤ length xs → j ≤ length ys → insert xs i n ≡ insert ys j n → (i ≡ j) × (xs ≡ ys)
inserted_once n xs ys zero zero below less a b e = (refl, cc)
inserted_once n xs [] zero (suc j) below less a b e = absurd (omega arith)
inserted_once n xs (y ∷ ys) zero (suc j) below less a b e = absurd (let h : y < n = All-head (λ a. a < n) y ys less in let s : n ≡ y = cc in omega arith)
inserted_once n [] ys (suc i) zero below less a b e = absurd (omega arith)
inserted_once n (x ∷ xs) ys (suc i) zero below less a b e = absurd (let h : x < n = All-head (λ a. a < n) x xs below in let s : x ≡ n = cc in omega arith)
inserted_once n [] ys (suc i) (suc j) below less a b e = absurd (omega arith)
inserted_once n (x ∷ xs) [] (suc i) (suc j) below less a b e = absurd (omega arith)
inserted_once n (x ∷ xs) (y ∷ ys) (suc i) (suc j) below less a b e =
    let h : (i ≡ j) × (xs ≡ ys) = inserted_once n xs ys i j (All-tail (λ a. a < n) x xs below) (All-tail (λ a. a < n) y ys less) (omega arith) (omega arith) (cc) in
    let first : x ≡ y = cc in
    (ap suc h.0, ap₂ (λ z r. z ∷ r) first h.1)

pub apart_is_false : (v w : List ℕ) → (v ≡ w → ⊥) → same_letters v w ≡ false
apart_is_false v w h = elim (cases_Bool (same_letters v w)) [ inl t ↦ absurd (h (same_text v w (sym t))) | inr f ↦ f ]

false_is_apart : (v w : List ℕ) → same_letters v w ≡ false → v ≡ w → ⊥
false_is_apart v w f e = let t : same_letters v w ≡ true = subst (λ u. same_letters v u ≡ true) e (same_itself v) in let c : true ≡ false = sym t ∙ f in cc

below_next : (m : ℕ) (ends : List ℕ) → Contains (permutations m) ends → All (λ a. a < suc m) ends
below_next m ends h = All-weaker (λ a. (1 ≤ a) × (a ≤ m)) (λ a. a < suc m) (λ a k. omega arith) ends (rearranged_bounds m ends (listed_is_rearrangement m ends h))

place_within : (m j : ℕ) (ends : List ℕ) → Contains (permutations m) ends → Contains (up_to (suc m)) j → j - 1 ≤ length ends
place_within m j ends h i =
    let size : length ends ≡ m = rearranged_length m ends (listed_is_rearrangement m ends h) in
    let bounds : IsLetterOf (suc m) j = from_up_to (suc m) j i in
    omega arith

permutations_distinct : (m : ℕ) → IsDistinct same_letters (permutations m)
unfolding permutations IsDistinct
permutations_distinct zero = (tt, tt)
permutations_distinct (suc m) =
    distinct-flat_map put (up_to (suc m)) (up_to_distinct (suc m))
    (λ j i. distinct-map (λ ends. insert ends (j - 1) (suc m)) (permutations m) (permutations_distinct m)
    (λ x y a b f. apart_is_false (insert x (j - 1) (suc m)) (insert y (j - 1) (suc m)) (λ e. false_is_apart x y f (read j j x y i i a b e).1)))
    (λ i j x y a b f k l.
    let (v, c, p) = from_map (λ ends. insert ends (i - 1) (suc m)) x (permutations m) k in
    let (w, d, q) = from_map (λ ends. insert ends (j - 1) (suc m)) y (permutations m) l in
    apart_is_false x y (λ e. differ i j a b f (read i j v w a b c d (sym p ∙ e ∙ q)).0))
  where
    put : ℕ → List (List ℕ)
    put j = map (λ ends. insert ends (j - 1) (suc m)) (permutations m)

    read : (i j : ℕ) (v w : List ℕ) → Contains (up_to (suc m)) i → Contains (up_to (suc m)) j → Contains (permutations m) v → Contains (permutations m) w → insert v (i - 1) (suc m) ≡ insert w (j - 1) (suc m) → (i - 1 ≡ j - 1) × (v ≡ w)
    read i j v w a b c d e = inserted_once (suc m) v w (i - 1) (j - 1) (below_next m v c) (below_next m w d) (place_within m i v c a) (place_within m j w d b) e

    apart : (i j : ℕ) → IsLetterOf (suc m) i → IsLetterOf (suc m) j → i - 1 ≡ j - 1 → nat_eq i j ≡ false → ⊥
    apart i j first second e f = grind (arith, nat_tests)

    differ : (i j : ℕ) → Contains (up_to (suc m)) i → Contains (up_to (suc m)) j → nat_eq i j ≡ false → i - 1 ≡ j - 1 → ⊥
    differ i j a b f e =
        let first : IsLetterOf (suc m) i = from_up_to (suc m) i a in
        let second : IsLetterOf (suc m) j = from_up_to (suc m) j b in
        apart i j first second e f

-- ---- all three

pub permutations_hold_each_once : (m : ℕ) → HoldsEachOnce m (permutations m)
permutations_hold_each_once m = record {
  rearrangements = All-from_recursion (IsRearrangement m) (permutations m) (all_of_entries (IsRearrangement m) (permutations m) (listed_is_rearrangement m));
  each = λ ends h. rearrangement_is_listed m ends h;
  once = permutations_distinct m;
}
