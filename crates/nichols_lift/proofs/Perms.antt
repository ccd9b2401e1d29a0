-- Permutations of few places in an array, and the test of being one.
use Rattle.std.proofs.Common.{◌≡◌, ℕ, zero, suc, ◌+◌, ◌-◌, ◌<◌, ◌≤◌, true, false, cond, List, [], ◌∷◌, length, take, drop, get_or, set, refl, sym, ◌∙◌, ap, subst, arith, nat_eq, nat_lt, inl, inr, Option, None, Some}
use Rattle.std.specs.Option.{option_map}
use Rattle.std.specs.List.{Contains, list_any, swap}
use Rattle.std.proofs.lemmas.List.{length-drop}
use Rattle.std.proofs.Math.Seq.{drop-cons}
use Rattle.std.proofs.lemmas.Bool.Decides.{nat_tests, Decides-eqb}
use Rattle.std.proofs.lemmas.List.Sorted.{IsPermutation-trans, Contains-permutation}
use Rattle.nichols_tensor.specs.Inline.{IsInline, length_kept}
use Rattle.nichols_tensor.specs.Words.{up_to, IsLetterOf}
use Rattle.nichols_tensor.proofs.Entries.{any_of, some_of}
use Rattle.std.proofs.lemmas.Bool.{cases_lt}
use Rattle.nichols_tensor.proofs.Letters.{in_up_to, from_up_to, up_to_length}
use Rattle.nichols_braid.specs.Rearrangement.{IsRearrangement}
use Rattle.nichols_braid.specs.Lift.{exchanged_at, IsDescentAt, first_descent}
use Rattle.nichols_braid.proofs.Onto.{rearranged_if_all}
use Rattle.nichols_braid.proofs.Rearranged.{up_to_distinct}
use Rattle.nichols_lift.specs.declared.TheConstants.{PLACE_LIMIT}
use Rattle.nichols_lift.specs.Perm.{IsPerm}
use Rattle.nichols_lift.proofs.Step.{exchanged_is_permutation, exchanged_length}
use Rattle.nichols_lift.proofs.Leading.{descent_within}

-- ---- each of 1 to the number of entries stands among them

pub rearrangement_if_all : (ends : List ℕ) → ((k : ℕ) → k < length ends → Contains ends (k + 1)) → IsRearrangement (length ends) ends
rearrangement_if_all ends h =
    rearranged_if_all (up_to (length ends)) ends (up_to_distinct (length ends))
    (λ x i.
    let letter : IsLetterOf (length ends) x = from_up_to (length ends) x i in
    let back : x - 1 + 1 ≡ x = omega (arith, letter.0) in
    subst (λ y. Contains ends y) back (h (x - 1) (omega (arith, letter.0, letter.1))))
    (sym (up_to_length (length ends)))

pub all_if_rearrangement : (ends : List ℕ) → IsRearrangement (length ends) ends → (k : ℕ) → k < length ends → Contains ends (k + 1)
all_if_rearrangement ends r k less =
    Contains-permutation (up_to (length ends)) ends (k + 1) r (in_up_to (length ends) (k + 1) (omega arith, omega arith))

-- ---- the loop of the test

pub more_found : (ends : List ℕ) (i place : ℕ) → place ≡ i + 1 → ((k : ℕ) → k < i → Contains ends (k + 1)) → list_any (λ y. nat_eq y place) ends ≡ true → (k : ℕ) → k < i + 1 → Contains ends (k + 1)
more_found ends i place at h found k less =
    elim (cases_lt k i) [
      | inl before ↦ h k before
      | inr last ↦
          let (y, here, test) = some_of (λ y. nat_eq y place) ends found in
          subst (λ z. Contains ends z) (let same : y ≡ place = (Decides-eqb y place).0 test in let now : k ≡ i = omega arith in same ∙ at ∙ ap (λ j. j + 1) (sym now)) here
    ]

pub none_found : (ends : List ℕ) (i place : ℕ) → i < length ends → place ≡ i + 1 → list_any (λ y. nat_eq y place) ends ≡ false → IsRearrangement (length ends) ends → ⊥
none_found ends i place less at none r =
    let c : true ≡ false = sym (any_of (λ y. nat_eq y place) place ends (subst (λ z. Contains ends z) (sym at) (all_if_rearrangement ends r i less)) ((Decides-eqb place place).1 refl)) ∙ none in cc

-- ---- descents

pub later : ℕ → Option ℕ → Option ℕ
later j found = option_map (λ p. p + j) found

pub descents_start : (ends : List ℕ) → later 0 (first_descent ends) ≡ first_descent ends
unfolding later
descents_start ends = at (first_descent ends)
  where
    at : (found : Option ℕ) → option_map (λ p. p + 0) found ≡ found
    at None = refl
    at (Some p) = ap Some (let e : p + 0 ≡ p = omega arith in e)

descent_here : (ends : List ℕ) (j : ℕ) → suc j < length ends → first_descent (drop j ends) ≡ cond (nat_lt (get_or ends (suc j) 0) (get_or ends j 0)) (Some 1) (option_map (λ i. i + 1) (first_descent (drop (suc j) ends)))
descent_here ends j less =
    let second : drop (suc j) ends ≡ get_or ends (suc j) 0 ∷ drop (suc (suc j)) ends = drop-cons ends (suc j) 0 less in
    ap first_descent (drop-cons ends j 0 (let few : j < length ends = omega arith in few) ∙ ap (λ r. get_or ends j 0 ∷ r) second)
    ∙ ap (λ r. cond (nat_lt (get_or ends (suc j) 0) (get_or ends j 0)) (Some 1) (option_map (λ i. i + 1) (first_descent r))) (sym second)

-- no descent at the place: the search goes on
pub descents_on : (ends : List ℕ) (i : ℕ) → 1 ≤ i → i < length ends → get_or ends (i - 1) 0 ≤ get_or ends i 0 → later (i - 1) (first_descent (drop (i - 1) ends)) ≡ first_descent ends →
    later (i + 1 - 1) (first_descent (drop (i + 1 - 1) ends)) ≡ first_descent ends
unfolding later
descents_on ends zero some less order h = absurd (omega arith)
descents_on ends (suc j) some less order h =
    let here : suc j - 1 ≡ j = omega arith in
    let next : suc j + 1 - 1 ≡ suc j = omega arith in
    let ordered : get_or ends j 0 ≤ get_or ends (suc j) 0 = subst (λ i. get_or ends i 0 ≤ get_or ends (suc j) 0) here order in
    let none : nat_lt (get_or ends (suc j) 0) (get_or ends j 0) ≡ false = grind (arith, nat_tests) in
    ap (λ i. option_map (λ p. p + i) (first_descent (drop i ends))) next
    ∙ sym (one_more (first_descent (drop (suc j) ends)))
    ∙ ap (λ f. option_map (λ p. p + j) f) (sym (descent_here ends j less ∙ ap (λ b. cond b (Some 1) (option_map (λ i. i + 1) (first_descent (drop (suc j) ends)))) none))
    ∙ ap (λ i. option_map (λ p. p + i) (first_descent (drop i ends))) (sym here) ∙ h
  where
    one_more : (found : Option ℕ) → option_map (λ p. p + j) (option_map (λ i. i + 1) found) ≡ option_map (λ p. p + suc j) found
    one_more None = refl
    one_more (Some p) = ap Some (let e : p + 1 + j ≡ p + suc j = omega arith in e)

-- a descent at the place: it is the first
pub descent_found : (ends : List ℕ) (i : ℕ) → 1 ≤ i → i < length ends → get_or ends i 0 < get_or ends (i - 1) 0 → later (i - 1) (first_descent (drop (i - 1) ends)) ≡ first_descent ends → Some i ≡ first_descent ends
unfolding later
descent_found ends zero some less order h = absurd (omega arith)
descent_found ends (suc j) some less order h =
    let here : suc j - 1 ≡ j = omega arith in
    let ordered : get_or ends (suc j) 0 < get_or ends j 0 = subst (λ i. get_or ends (suc j) 0 < get_or ends i 0) here order in
    let found : nat_lt (get_or ends (suc j) 0) (get_or ends j 0) ≡ true = grind (arith, nat_tests) in
    ap Some (let e : suc j ≡ 1 + j = omega arith in e)
    ∙ ap (λ f. option_map (λ p. p + j) f) (sym (descent_here ends j less ∙ ap (λ b. cond b (Some 1) (option_map (λ i. i + 1) (first_descent (drop (suc j) ends)))) found))
    ∙ ap (λ i. option_map (λ p. p + i) (first_descent (drop i ends))) (sym here) ∙ h

-- at the end there is none
pub descents_end : (ends : List ℕ) (i : ℕ) → 1 ≤ i → length ends ≤ i → later (i - 1) (first_descent (drop (i - 1) ends)) ≡ first_descent ends → None ≡ first_descent ends
unfolding later
descents_end ends i some end h = ap (λ f. option_map (λ p. p + (i - 1)) f) (sym (short (drop (i - 1) ends) (rw (length-drop (i - 1) ends) (omega arith)))) ∙ h
  where
    short : (xs : List ℕ) → length xs ≤ 1 → first_descent xs ≡ None
    short [] e = refl
    short (x ∷ []) e = refl
    short (x ∷ y ∷ xs) e = absurd (omega arith)

-- ---- an exchange in the array

set_twice : (j d : ℕ) (xs : List ℕ) → suc j < length xs → set (set xs j (get_or xs (suc j) d)) (suc j) (get_or xs j d) ≡ exchanged_at (suc j) xs
set_twice zero d [] h = absurd (omega arith)
set_twice zero d (a ∷ []) h = absurd (omega arith)
set_twice zero d (a ∷ b ∷ xs) h = refl
set_twice (suc j) d [] h = absurd (omega arith)
set_twice (suc j) d (a ∷ xs) h = ap (λ r. a ∷ r) (set_twice j d xs (omega arith))

swap_is_exchange : (j : ℕ) (xs : List ℕ) → suc j < length xs → swap xs j (suc j) ≡ exchanged_at (suc j) xs
swap_is_exchange j [] h = absurd (omega arith)
swap_is_exchange j (a ∷ xs) h = set_twice j a (a ∷ xs) h

exchanged_prefix : (j n : ℕ) (xs : List ℕ) → suc j < n → n ≤ length xs → take n (exchanged_at (suc j) xs) ≡ exchanged_at (suc j) (take n xs)
exchanged_prefix j zero xs h l = absurd (omega arith)
exchanged_prefix zero (suc zero) xs h l = absurd (omega arith)
exchanged_prefix zero (suc (suc n)) [] h l = absurd (omega arith)
exchanged_prefix zero (suc (suc n)) (a ∷ []) h l = absurd (omega arith)
exchanged_prefix zero (suc (suc n)) (a ∷ b ∷ xs) h l = refl
exchanged_prefix (suc j) (suc n) [] h l = absurd (omega arith)
exchanged_prefix (suc j) (suc n) (a ∷ xs) h l = ap (λ r. a ∷ r) (exchanged_prefix j n xs (omega arith) (omega arith))

exchanged_rest : (j n : ℕ) (xs : List ℕ) → suc j < n → drop n (exchanged_at (suc j) xs) ≡ drop n xs
exchanged_rest j zero xs h = absurd (omega arith)
exchanged_rest zero (suc zero) xs h = absurd (omega arith)
exchanged_rest zero (suc (suc n)) [] h = refl
exchanged_rest zero (suc (suc n)) (a ∷ []) h = refl
exchanged_rest zero (suc (suc n)) (a ∷ b ∷ xs) h = refl
exchanged_rest (suc j) (suc n) [] h = refl
exchanged_rest (suc j) (suc n) (a ∷ xs) h = exchanged_rest j n xs (omega arith)

-- the array after an exchange
pub exchanged_array : (n i : ℕ) (xs ys : List ℕ) → IsInline PLACE_LIMIT IsPerm n xs → IsDescentAt i (take n xs) → ys ≡ swap xs (i - 1) i → (take n ys ≡ exchanged_at i (take n xs)) × IsInline PLACE_LIMIT IsPerm n ys
exchanged_array n zero xs ys h d e = absurd d
exchanged_array n (suc j) xs ys h d e =
    let back : suc j - 1 ≡ j = omega arith in
    let size : length (take n xs) ≡ n = length_kept PLACE_LIMIT IsPerm n xs h in
    let within : suc j < n = let w : (1 ≤ suc j) × (suc j < length (take n xs)) = descent_within (suc j) (take n xs) d in omega (arith, w.1) in
    let room : n ≤ length xs = omega (arith, h.short, h.whole) in
    let shape : ys ≡ exchanged_at (suc j) xs = e ∙ ap (λ i. swap xs i (suc j)) back ∙ swap_is_exchange j xs (omega arith) in
    let front : take n ys ≡ exchanged_at (suc j) (take n xs) = ap (take n) shape ∙ exchanged_prefix j n xs within room in
    let long : length (exchanged_at (suc j) (take n xs)) ≡ length (take n xs) = exchanged_length (suc j) (take n xs) in (
      front,
      record {
        short = h.short;
        whole = ap length shape ∙ exchanged_length (suc j) xs ∙ h.whole;
        padded = ap (drop n) shape ∙ exchanged_rest j n xs within ∙ h.padded;
        holds = subst IsPerm (sym front) (record {
          short = subst (λ l. l ≤ PLACE_LIMIT) (sym long) h.holds.short;
          rearrangement = subst (λ l. IsRearrangement l (exchanged_at (suc j) (take n xs))) (sym long) (IsPermutation-trans (up_to (length (take n xs))) (take n xs) (exchanged_at (suc j) (take n xs)) h.holds.rearrangement (exchanged_is_permutation (suc j) (take n xs) d));
        });
      },
    )
