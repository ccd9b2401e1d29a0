-- The list from 1 to m, and what holds of each of its rearrangements.
use Rattle.std.proofs.Common.{◌≡◌, ℕ, zero, suc, ◌+◌, ◌<◌, ◌≤◌, false, List, [], ◌∷◌, ◌++◌, length, refl, sym, ◌∙◌, ap, arith, subst, nat_eq}
use Rattle.std.specs.List.{All, AllByRecursion, IsDistinct}
use Rattle.std.proofs.lemmas.Bool.Decides.{nat_tests}
use Rattle.std.proofs.lemmas.List.Elements.{All-nil, All-push, All-weaker}
use Rattle.std.proofs.lemmas.List.Sorted.{length_permutation, All-permutation}
use Rattle.std.proofs.lemmas.Map.Keys.{IsDistinct-IsPermutation}
use Rattle.nichols_tensor.specs.Words.{up_to}
use Rattle.nichols_tensor.proofs.Letters.{up_to_length}
use Rattle.nichols_braid.specs.Rearrangement.{IsRearrangement}

-- so many numbers from i on
abbrev pub consecutive : ℕ → ℕ → List ℕ
consecutive i zero = []
consecutive i (suc n) = i ∷ consecutive (suc i) n

consecutive-push : (i n : ℕ) → consecutive i (suc n) ≡ consecutive i n ++ (i + n) ∷ []
consecutive-push i zero = ap (λ j. j ∷ []) (let e : i ≡ i + 0 = omega arith in e)
consecutive-push i (suc n) = ap (λ r. i ∷ r) (consecutive-push (suc i) n ∙ ap (λ j. consecutive (suc i) n ++ j ∷ []) (let e : suc i + n ≡ i + suc n = omega arith in e))

pub up_to_is_consecutive : (n : ℕ) → up_to n ≡ consecutive 1 n
up_to_is_consecutive zero = refl
up_to_is_consecutive (suc n) = ap (λ r. r ++ suc n ∷ []) (up_to_is_consecutive n) ∙ ap (λ j. consecutive 1 n ++ j ∷ []) (let e : suc n ≡ 1 + n = omega arith in e) ∙ sym (consecutive-push 1 n)

pub up_to_bounds : (n : ℕ) → All (λ a. (1 ≤ a) × (a ≤ n)) (up_to n)
up_to_bounds zero = All-nil (λ a. (1 ≤ a) × (a ≤ 0))
up_to_bounds (suc n) =
    All-push (λ a. (1 ≤ a) × (a ≤ suc n)) (up_to n) (suc n) (All-weaker (λ a. (1 ≤ a) × (a ≤ n)) (λ a. (1 ≤ a) × (a ≤ suc n)) (λ a h. (h.0, omega arith)) (up_to n) (up_to_bounds n)) (omega arith, omega arith)

consecutive_distinct : (i n : ℕ) → IsDistinct nat_eq (consecutive i n)
unfolding IsDistinct
consecutive_distinct i zero = tt
consecutive_distinct i (suc n) = (apart i (suc i) n (omega arith), consecutive_distinct (suc i) n)
  where
    apart : (a j n : ℕ) → a < j → AllByRecursion (λ y. nat_eq a y ≡ false) (consecutive j n)
    apart a j zero h = tt
    apart a j (suc n) h = (grind (arith, nat_tests), apart a (suc j) n (omega arith))

pub up_to_distinct : (n : ℕ) → IsDistinct nat_eq (up_to n)
up_to_distinct n = subst (IsDistinct nat_eq) (sym (up_to_is_consecutive n)) (consecutive_distinct 1 n)

-- ---- what a rearrangement is

pub rearranged_length : (m : ℕ) (ends : List ℕ) → IsRearrangement m ends → length ends ≡ m
rearranged_length m ends h = length_permutation (up_to m) ends h ∙ up_to_length m

pub rearranged_bounds : (m : ℕ) (ends : List ℕ) → IsRearrangement m ends → All (λ a. (1 ≤ a) × (a ≤ m)) ends
rearranged_bounds m ends h = All-permutation (λ a. (1 ≤ a) × (a ≤ m)) (up_to m) ends h (up_to_bounds m)

pub rearranged_distinct : (m : ℕ) (ends : List ℕ) → IsRearrangement m ends → IsDistinct nat_eq ends
rearranged_distinct m ends h = IsDistinct-IsPermutation nat_eq flips (up_to m) ends h (up_to_distinct m)
  where
    flips : (x y : ℕ) → nat_eq x y ≡ nat_eq y x
    flips x y = grind (arith, nat_tests)
