-- The crossings at the least descents, one after the other, are a descending list.
use Rattle.std.proofs.Common.{◌≡◌, ℕ, zero, suc, ◌+◌, ◌*◌, ◌≤◌, Bool, true, false, cond, List, [], ◌∷◌, length, refl, ap, arith, subst, nat_lt, Option, None, Some}
use Rattle.std.specs.Option.{option_map, option_map_or}
use Rattle.std.proofs.lemmas.Bool.Decides.{nat_tests}
use Rattle.nichols_braid.specs.Lift.{exchanged_at, IsDescentAt, IsSorted, IsDescending, first_descent, least_descents, bubble}

-- how many entries are less than a
lesser : ℕ → List ℕ → ℕ
lesser a [] = 0
lesser a (b ∷ ends) = cond (nat_lt b a) (suc (lesser a ends)) (lesser a ends)

-- how many pairs stand the wrong way round
pub inversions : List ℕ → ℕ
inversions [] = 0
inversions (a ∷ ends) = lesser a ends + inversions ends

-- ---- a descent is found where there is one

later_descent : (a b : ℕ) (ends : List ℕ) (j : ℕ) → IsDescentAt j (b ∷ ends) → IsDescentAt (j + 1) (a ∷ b ∷ ends)
later_descent a b ends zero d = absurd d
later_descent a b ends (suc j) d = subst (λ n. IsDescentAt n (a ∷ b ∷ ends)) (let e : suc (suc j) ≡ suc j + 1 = omega arith in e) d

pub found_is_descent : (ends : List ℕ) (i : ℕ) → first_descent ends ≡ Some i → IsDescentAt i ends
found_is_descent [] i h = cc
found_is_descent (a ∷ []) i h = cc
found_is_descent (a ∷ b ∷ ends) i h = at (nat_lt b a) refl (first_descent (b ∷ ends)) refl h (λ j f. found_is_descent (b ∷ ends) j f)
  where
    at : (t : Bool) → nat_lt b a ≡ t → (found : Option ℕ) → first_descent (b ∷ ends) ≡ found → cond t (Some 1) (option_map (λ j. j + 1) found) ≡ Some i →
        ((j : ℕ) → first_descent (b ∷ ends) ≡ Some j → IsDescentAt j (b ∷ ends)) → IsDescentAt i (a ∷ b ∷ ends)
    at true e found f h rest = subst (λ j. IsDescentAt j (a ∷ b ∷ ends)) (let same : 1 ≡ i = cc in same) (grind (arith, nat_tests))
    at false e None f h rest = cc
    at false e (Some j) f h rest = subst (λ n. IsDescentAt n (a ∷ b ∷ ends)) (let same : j + 1 ≡ i = cc in same) (later_descent a b ends j (rest j f))

pub none_is_sorted : (ends : List ℕ) → first_descent ends ≡ None → IsSorted ends
none_is_sorted [] h = tt
none_is_sorted (a ∷ []) h = tt
none_is_sorted (a ∷ b ∷ ends) h = at (nat_lt b a) refl (first_descent (b ∷ ends)) refl h (λ f. none_is_sorted (b ∷ ends) f)
  where
    at : (t : Bool) → nat_lt b a ≡ t → (found : Option ℕ) → first_descent (b ∷ ends) ≡ found → cond t (Some 1) (option_map (λ j. j + 1) found) ≡ None →
        (first_descent (b ∷ ends) ≡ None → IsSorted (b ∷ ends)) → (a ≤ b) × IsSorted (b ∷ ends)
    at true e found f h rest = cc
    at false e None f h rest = (grind (arith, nat_tests), rest f)
    at false e (Some j) f h rest = cc

-- ---- inversions

lesser-exchanged_at : (c i : ℕ) (ends : List ℕ) → lesser c (exchanged_at i ends) ≡ lesser c ends
unfolding lesser
lesser-exchanged_at c zero ends = refl
lesser-exchanged_at c (suc zero) [] = refl
lesser-exchanged_at c (suc zero) (a ∷ []) = refl
lesser-exchanged_at c (suc zero) (a ∷ b ∷ ends) = at (nat_lt a c) (nat_lt b c) (lesser c ends)
  where
    at : (t u : Bool) (n : ℕ) → cond u (suc (cond t (suc n) n)) (cond t (suc n) n) ≡ cond t (suc (cond u (suc n) n)) (cond u (suc n) n)
    at true true n = refl
    at true false n = refl
    at false true n = refl
    at false false n = refl
lesser-exchanged_at c (suc (suc i)) [] = refl
lesser-exchanged_at c (suc (suc i)) (a ∷ ends) = ap (λ n. cond (nat_lt a c) (suc n) n) (lesser-exchanged_at c (suc i) ends)

pub one_fewer : (i : ℕ) (ends : List ℕ) → IsDescentAt i ends → suc (inversions (exchanged_at i ends)) ≡ inversions ends
unfolding inversions lesser
one_fewer zero ends h = absurd h
one_fewer (suc zero) [] h = absurd h
one_fewer (suc zero) (a ∷ []) h = absurd h
one_fewer (suc zero) (a ∷ b ∷ ends) h = at (nat_lt a b) (nat_lt b a) (grind (arith, nat_tests)) (grind (arith, nat_tests)) (lesser a ends) (lesser b ends) (inversions ends)
  where
    at : (t u : Bool) → t ≡ false → u ≡ true → (m n r : ℕ) → suc (cond t (suc n) n + (m + r)) ≡ cond u (suc m) m + (n + r)
    at true u e f m n r = cc
    at false true e f m n r = omega arith
    at false false e f m n r = cc
one_fewer (suc (suc i)) [] h = absurd h
one_fewer (suc (suc i)) (a ∷ ends) h =
    let less : suc (inversions (exchanged_at (suc i) ends)) ≡ inversions ends = one_fewer (suc i) ends h in
    let kept : lesser a (exchanged_at (suc i) ends) ≡ lesser a ends = lesser-exchanged_at a (suc i) ends in
    omega arith

lesser_bound : (a : ℕ) (ends : List ℕ) → lesser a ends ≤ length ends
unfolding lesser
lesser_bound a [] = omega arith
lesser_bound a (b ∷ ends) = at (nat_lt b a) (lesser a ends) (lesser_bound a ends)
  where
    at : (t : Bool) (n : ℕ) → n ≤ length ends → cond t (suc n) n ≤ suc (length ends)
    at true n h = omega arith
    at false n h = omega arith

inversions_bound : (ends : List ℕ) → inversions ends ≤ length ends * length ends
unfolding inversions
inversions_bound [] = omega arith
inversions_bound (a ∷ ends) =
    let n : ℕ = length ends in
    let first : lesser a ends ≤ n = lesser_bound a ends in
    let rest : inversions ends ≤ n * n = inversions_bound ends in
    let square : suc n * suc n ≡ n * n + n + n + 1 = next_square n in
    omega arith
  where
    next_square : (n : ℕ) → suc n * suc n ≡ n * n + n + n + 1
    next_square n = grind arith

-- ---- the list

descends : (n : ℕ) (ends : List ℕ) → inversions ends ≤ n → IsDescending ends (least_descents n ends)
descends zero ends h = at (first_descent ends) refl
  where
    at : (found : Option ℕ) → first_descent ends ≡ found → IsSorted ends
    at None f = none_is_sorted ends f
    at (Some i) f = let fewer : suc (inversions (exchanged_at i ends)) ≡ inversions ends = one_fewer i ends (found_is_descent ends i f) in absurd (omega arith)
descends (suc n) ends h = at (first_descent ends) refl (λ i d. descends n (exchanged_at i ends) (let fewer : suc (inversions (exchanged_at i ends)) ≡ inversions ends = one_fewer i ends d in omega arith))
  where
    at : (found : Option ℕ) → first_descent ends ≡ found → ((i : ℕ) → IsDescentAt i ends → IsDescending (exchanged_at i ends) (least_descents n (exchanged_at i ends))) →
        IsDescending ends (option_map_or (λ i. i ∷ least_descents n (exchanged_at i ends)) found [])
    at None f rest = none_is_sorted ends f
    at (Some i) f rest = let d : IsDescentAt i ends = found_is_descent ends i f in (d, rest i d)

pub bubble_descends : (ends : List ℕ) → IsDescending ends (bubble ends)
bubble_descends ends = descends (length ends * length ends) ends (inversions_bound ends)
