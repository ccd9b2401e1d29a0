-- A sorted rearrangement of 1 to m is the list from 1 to m, and there the closed form is the word itself.
use Rattle.std.proofs.Common.{◌≡◌, ℕ, zero, suc, ◌+◌, ◌<◌, ◌≤◌, Bool, true, false, cond, List, [], ◌∷◌, length, map, refl, ◌∙◌, ap, ap₂, arith, nat_lt, nat_eq}
use Rattle.std.specs.List.{All, IsDistinct}
use Rattle.std.proofs.lemmas.Bool.Decides.{nat_tests}
use Rattle.std.proofs.lemmas.List.Elements.{All-tail, All-head, All-weaker}
use Rattle.std.proofs.lemmas.Bool.{cond-false, le-ltb}
use Rattle.nichols_field.specs.Field.{IsField, times}
use Rattle.nichols_field.proofs.FieldLaws.{one_is_element}
use Rattle.nichols_field.proofs.FieldAlgebra.{one_times}
use Rattle.nichols_braid.specs.Braid.{BraidValue}
use Rattle.nichols_braid.specs.Lift.{IsSorted}
use Rattle.nichols_braid.specs.Rearrangement.{IsRearrangement}
use Rattle.nichols_braid.proofs.Rearranged.{consecutive, rearranged_length, rearranged_bounds, rearranged_distinct}
use Rattle.nichols_lift.specs.ClosedForm.{Placed, acted_letter, acted_scalar, letters_at_ends, ended_scalar, letter_at}
use Rattle.nichols_lift.proofs.Acted.{placed}

-- ---- sorted

-- each entry is greater than the one before, the first than this number
IsAbove : ℕ → List ℕ → Type 0
IsAbove b [] = Unit {0}
IsAbove b (x ∷ xs) = (b < x) × IsAbove x xs

rises : (b : ℕ) (xs : List ℕ) → IsSorted xs → IsDistinct nat_eq xs → All (λ a. b < a) xs → IsAbove b xs
unfolding IsAbove IsDistinct
rises b [] sorted apart above = tt
rises b (x ∷ []) sorted apart above = (All-head (λ a. b < a) x [] above, tt)
rises b (x ∷ y ∷ xs) sorted apart above =
    (All-head (λ a. b < a) x (y ∷ xs) above, (strictly (sorted.0) (apart.0.0), rest (rises b (y ∷ xs) sorted.1 apart.1 (All-tail (λ a. b < a) x (y ∷ xs) above))))
  where
    strictly : x ≤ y → nat_eq x y ≡ false → x < y
    strictly h e = grind (arith, nat_tests)

    rest : IsAbove b (y ∷ xs) → IsAbove y xs
    rest h = h.1

few : (b c : ℕ) (xs : List ℕ) → IsAbove b xs → All (λ a. a ≤ c) xs → b ≤ c → b + length xs ≤ c
unfolding IsAbove
few b c [] h below bound = omega arith
few b c (x ∷ xs) h below bound =
    let first : x ≤ c = All-head (λ a. a ≤ c) x xs below in
    let rest : x + length xs ≤ c = few x c xs h.1 (All-tail (λ a. a ≤ c) x xs below) first in
    let more : b < x = h.0 in
    omega arith

all_of_them : (b : ℕ) (xs : List ℕ) → IsAbove b xs → All (λ a. a ≤ b + length xs) xs → xs ≡ consecutive (suc b) (length xs)
unfolding IsAbove
all_of_them b [] h below = refl
all_of_them b (x ∷ xs) h below =
    let bound : x ≤ b + suc (length xs) = All-head (λ a. a ≤ b + suc (length xs)) x xs below in
    let tail : All (λ a. a ≤ b + suc (length xs)) xs = All-tail (λ a. a ≤ b + suc (length xs)) x xs below in
    let count : x + length xs ≤ b + suc (length xs) = few x (b + suc (length xs)) xs h.1 tail bound in
    let more : b < x = h.0 in
    let same : x ≡ suc b = omega arith in
    ap₂ (λ y r. y ∷ r) same (all_of_them x xs h.1 (All-weaker (λ a. a ≤ b + suc (length xs)) (λ a. a ≤ x + length xs) (λ a h. omega arith) xs tail) ∙ ap (λ y. consecutive (suc y) (length xs)) same)

pub sorted_is_up_to : (m : ℕ) (ends : List ℕ) → IsRearrangement m ends → IsSorted ends → ends ≡ consecutive 1 m
sorted_is_up_to m ends h sorted =
    let size : length ends ≡ m = rearranged_length m ends h in
    let bounds : All (λ a. (1 ≤ a) × (a ≤ m)) ends = rearranged_bounds m ends h in
    all_of_them 0 ends (rises 0 ends sorted (rearranged_distinct m ends h) (All-weaker (λ a. (1 ≤ a) × (a ≤ m)) (λ a. 0 < a) (λ a k. omega arith) ends bounds))
    (All-weaker (λ a. (1 ≤ a) × (a ≤ m)) (λ a. a ≤ 0 + length ends) (λ a k. omega arith) ends bounds)
    ∙ ap (consecutive 1) size

-- ---- the closed form there

AllBelow : ℕ → List Placed → Type 0
AllBelow n [] = Unit {0}
AllBelow n (p ∷ ps) = (p.place ≤ n) × AllBelow n ps

below_more : (n : ℕ) (ps : List Placed) → AllBelow n ps → AllBelow (suc n) ps
unfolding AllBelow
below_more n [] h = tt
below_more n (p ∷ ps) h = (omega (arith, h.0), below_more n ps h.1)

below_all : (n x : ℕ) (ps : List Placed) → AllBelow n ps → AllBelow (suc n) (placed (suc n) x ∷ ps)
unfolding AllBelow
below_all n x ps h = (omega arith, below_more n ps h)

acted_by_none : (braid : BraidValue) (n : ℕ) (ps : List Placed) → AllBelow n ps → (x : ℕ) → acted_letter braid ps (suc n) x ≡ x
unfolding AllBelow
acted_by_none braid n [] h x = refl
acted_by_none braid n (p ∷ ps) h x = cond-false (nat_lt (suc n) p.place) _ _ (le-ltb (suc n) p.place (omega (arith, h.0))) ∙ acted_by_none braid n ps h.1 x

none_met : (braid : BraidValue) (n : ℕ) (ps : List Placed) → AllBelow n ps → (x : ℕ) → acted_scalar braid ps (suc n) x ≡ 1
unfolding AllBelow
none_met braid n [] h x = refl
none_met braid n (p ∷ ps) h x = cond-false (nat_lt (suc n) p.place) _ _ (le-ltb (suc n) p.place (omega (arith, h.0))) ∙ none_met braid n ps h.1 x

-- each letter at its own place
own : ℕ → List ℕ → List Placed
own n [] = []
own n (x ∷ w) = placed n x ∷ own (suc n) w

ended_sorted : (braid : BraidValue) (n : ℕ) (ps : List Placed) → AllBelow n ps → (w : List ℕ) → letters_at_ends braid ps (consecutive (suc n) (length w)) w ≡ own (suc n) w
unfolding own
ended_sorted braid n ps h [] = refl
ended_sorted braid n ps h (x ∷ w) = ap₂ (λ y r. placed (suc n) y ∷ r) (acted_by_none braid n ps h x) (ended_sorted braid (suc n) (placed (suc n) x ∷ ps) (below_all n x ps h) w)

ended_scalar_sorted : (braid : BraidValue) → IsField braid.field → (n : ℕ) (ps : List Placed) → AllBelow n ps → (w : List ℕ) → ended_scalar braid ps (consecutive (suc n) (length w)) w ≡ 1
ended_scalar_sorted braid is n ps h [] = refl
ended_scalar_sorted braid is n ps h (x ∷ w) =
    ap₂ (times braid.field) (none_met braid n ps h x) (ended_scalar_sorted braid is (suc n) (placed (suc n) x ∷ ps) (below_all n x ps h) w)
    ∙ one_times braid.field 1 (one_is_element braid.field is)

own_letters : (n : ℕ) (w : List ℕ) → map (letter_at (own n w)) (consecutive n (length w)) ≡ w
unfolding own
own_letters n [] = refl
own_letters n (x ∷ w) = ap₂ (λ y r. y ∷ r) (first n) (first_is_skipped (suc n) (length w) (omega arith) ∙ own_letters (suc n) w)
  where
    first : (n : ℕ) → cond (nat_eq n n) x (letter_at (own (suc n) w) n) ≡ x
    first n = at (nat_eq n n) (grind (arith, nat_tests))
      where
        at : (t : Bool) → t ≡ true → cond t x (letter_at (own (suc n) w) n) ≡ x
        at true h = refl
        at false h = cc

    first_is_skipped : (i k : ℕ) → n < i → map (letter_at (placed n x ∷ own (suc n) w)) (consecutive i k) ≡ map (letter_at (own (suc n) w)) (consecutive i k)
    first_is_skipped i zero h = refl
    first_is_skipped i (suc k) h = ap₂ (λ y r. y ∷ r) (cond-false (nat_eq n i) x (letter_at (own (suc n) w) i) (grind (arith, nat_tests))) (first_is_skipped (suc i) k (omega arith))

none_below : (n : ℕ) → AllBelow n []
unfolding AllBelow
none_below n = tt

pub closed_letters_sorted : (braid : BraidValue) (w : List ℕ) → map (letter_at (letters_at_ends braid [] (consecutive 1 (length w)) w)) (consecutive 1 (length w)) ≡ w
closed_letters_sorted braid w = ap (λ ps. map (letter_at ps) (consecutive 1 (length w))) (ended_sorted braid 0 [] (none_below 0) w) ∙ own_letters 1 w

pub closed_scalar_sorted : (braid : BraidValue) → IsField braid.field → (w : List ℕ) → ended_scalar braid [] (consecutive 1 (length w)) w ≡ 1
closed_scalar_sorted braid is w = ended_scalar_sorted braid is 0 [] (none_below 0) w
