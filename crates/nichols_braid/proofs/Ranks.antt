-- Ranks and letters lead to one another.
use Rattle.std.proofs.Common.{◌≡◌, ◌≢◌, ℕ, zero, suc, ◌+◌, ◌-◌, ◌<◌, ◌≤◌, Bool, true, false, cond, List, [], ◌∷◌, map, length, get_or, refl, sym, ◌∙◌, ap, arith, subst, nat_eq, inl, inr}
use Rattle.std.specs.Prelude.{slice_index}
use Rattle.std.specs.List.{Contains, IsDistinct}
use Rattle.std.proofs.lemmas.Bool.{eqb-true, cases_lt}
use Rattle.std.proofs.lemmas.Bool.Decides.{nat_tests, Decides-eqb}
use Rattle.std.proofs.lemmas.List.Elements.{Contains-get_or}
use Rattle.std.proofs.lemmas.List.Sorted.{Contains-permutation, IsPermutation-sym}
use Rattle.nichols_tensor.specs.Words.{up_to, IsLetterOf, IsWordOver}
use Rattle.nichols_tensor.proofs.Entries.{contains_none, contains_cases}
use Rattle.nichols_tensor.proofs.Letters.{in_up_to, from_up_to}
use Rattle.nichols_tensor.proofs.Over.{all_at}
use Rattle.nichols_braid.specs.Order.{IsOrder, entries_before, rank_of, letter_at}
use Rattle.nichols_braid.proofs.Rearranged.{rearranged_length, rearranged_distinct}

-- ---- in any list

same_itself : (a : ℕ) → nat_eq a a ≡ true
same_itself a = (Decides-eqb a a).1 refl

pub entry_found : (xs : List ℕ) (a : ℕ) → Contains xs a → (entries_before xs a < length xs) × (get_or xs (entries_before xs a) 0 ≡ a)
unfolding entries_before
entry_found [] a i = absurd (contains_none a i)
entry_found (b ∷ bs) a i = at (nat_eq b a) refl (λ later. entry_found bs a later)
  where
    at : (t : Bool) → nat_eq b a ≡ t → (Contains bs a → (entries_before bs a < length bs) × (get_or bs (entries_before bs a) 0 ≡ a)) → (cond t 0 (suc (entries_before bs a)) < suc (length bs)) × (get_or (b ∷ bs) (cond t 0 (suc (entries_before bs a))) 0 ≡ a)
    at true e rest = (omega arith, eqb-true b a e)
    at false e rest =
        elim (contains_cases b bs a i) [
          | inl same ↦ absurd (grind (arith, nat_tests, e, same))
          | inr later ↦ let h : (entries_before bs a < length bs) × (get_or bs (entries_before bs a) 0 ≡ a) = rest later in (omega (arith, h.0), h.1)
        ]

pub place_found : (xs : List ℕ) (k : ℕ) → IsDistinct nat_eq xs → k < length xs → entries_before xs (get_or xs k 0) ≡ k
unfolding entries_before IsDistinct
place_found [] k d less = absurd (omega arith)
place_found (b ∷ bs) zero d less = ap (λ t. cond t 0 (suc (entries_before bs b))) (same_itself b)
place_found (b ∷ bs) (suc k) d less =
    ap (λ t. cond t 0 (suc (entries_before bs (get_or bs k 0)))) (all_at (λ y. nat_eq b y ≡ false) bs (get_or bs k 0) d.0 (Contains-get_or bs k 0 (omega arith)))
    ∙ ap suc (place_found bs k d.1 (omega arith))

-- ---- in an order

pub rank_is_letter : (n : ℕ) (order : List ℕ) → IsOrder n order → (a : ℕ) → IsLetterOf n a → IsLetterOf n (rank_of order a)
rank_is_letter n order is a l =
    let size : length order ≡ n = rearranged_length n order is in
    let h : (entries_before order a < length order) × (get_or order (entries_before order a) 0 ≡ a) = entry_found order a (Contains-permutation (up_to n) order a is (in_up_to n a l)) in
    (omega arith, omega (arith, h.0, size))

pub letter_of_rank : (n : ℕ) (order : List ℕ) → IsOrder n order → (a : ℕ) → IsLetterOf n a → letter_at order (rank_of order a) ≡ a
letter_of_rank n order is a l =
    let h : (entries_before order a < length order) × (get_or order (entries_before order a) 0 ≡ a) = entry_found order a (Contains-permutation (up_to n) order a is (in_up_to n a l)) in
    ap (λ k. get_or order k 0) (let e : entries_before order a + 1 - 1 ≡ entries_before order a = omega arith in e) ∙ h.1

pub letter_is_letter : (n : ℕ) (order : List ℕ) → IsOrder n order → (r : ℕ) → IsLetterOf n r → IsLetterOf n (letter_at order r)
letter_is_letter n order is r l =
    let size : length order ≡ n = rearranged_length n order is in
    from_up_to n (letter_at order r) (Contains-permutation order (up_to n) (letter_at order r) (IsPermutation-sym (up_to n) order is)
    (Contains-get_or order (r - 1) 0 (let h : (1 ≤ r) × (r ≤ n) = l in omega (arith, h, size))))

pub rank_of_letter : (n : ℕ) (order : List ℕ) → IsOrder n order → (r : ℕ) → IsLetterOf n r → rank_of order (letter_at order r) ≡ r
rank_of_letter n order is r l =
    let size : length order ≡ n = rearranged_length n order is in
    let h : (1 ≤ r) × (r ≤ n) = l in
    let e : entries_before order (get_or order (r - 1) 0) ≡ r - 1 = place_found order (r - 1) (rearranged_distinct n order is) (omega (arith, h, size)) in
    omega (arith, e, h)

pub ranks_differ : (n : ℕ) (order : List ℕ) → IsOrder n order → (a b : ℕ) → IsLetterOf n a → IsLetterOf n b → rank_of order a ≡ rank_of order b → a ≡ b
ranks_differ n order is a b la lb e = sym (letter_of_rank n order is a la) ∙ ap (letter_at order) e ∙ letter_of_rank n order is b lb

-- ---- words

pub ranks_over : (n : ℕ) (order : List ℕ) → IsOrder n order → (w : List ℕ) → IsWordOver n w → IsWordOver n (map (rank_of order) w)
ranks_over n order is [] over = tt
ranks_over n order is (a ∷ w) over = (rank_is_letter n order is a over.0, ranks_over n order is w over.1)

pub letters_over : (n : ℕ) (order : List ℕ) → IsOrder n order → (w : List ℕ) → IsWordOver n w → IsWordOver n (map (letter_at order) w)
letters_over n order is [] over = tt
letters_over n order is (a ∷ w) over = (letter_is_letter n order is a over.0, letters_over n order is w over.1)

pub ranks_of_letters : (n : ℕ) (order : List ℕ) → IsOrder n order → (w : List ℕ) → IsWordOver n w → map (rank_of order) (map (letter_at order) w) ≡ w
ranks_of_letters n order is [] over = refl
ranks_of_letters n order is (a ∷ w) over = ap (λ b. b ∷ map (rank_of order) (map (letter_at order) w)) (rank_of_letter n order is a over.0) ∙ ap (λ v. a ∷ v) (ranks_of_letters n order is w over.1)

pub letters_of_ranks : (n : ℕ) (order : List ℕ) → IsOrder n order → (w : List ℕ) → IsWordOver n w → map (letter_at order) (map (rank_of order) w) ≡ w
letters_of_ranks n order is [] over = refl
letters_of_ranks n order is (a ∷ w) over = ap (λ b. b ∷ map (letter_at order) (map (rank_of order) w)) (letter_of_rank n order is a over.0) ∙ ap (λ v. a ∷ v) (letters_of_ranks n order is w over.1)

-- ---- the search for a letter

pub first_place : (xs : List ℕ) (a k : ℕ) → k < length xs → ((j : ℕ) → j < k → get_or xs j 0 ≢ a) → get_or xs k 0 ≡ a → entries_before xs a ≡ k
unfolding entries_before
first_place [] a k less before here = absurd (omega arith)
first_place (b ∷ bs) a zero less before here = ap (λ t. cond t 0 (suc (entries_before bs a))) ((Decides-eqb b a).1 here)
first_place (b ∷ bs) a (suc k) less before here = at (nat_eq b a) refl (first_place bs a k (omega arith) (λ j h. before (suc j) (omega arith)) here)
  where
    at : (t : Bool) → nat_eq b a ≡ t → entries_before bs a ≡ k → cond t 0 (suc (entries_before bs a)) ≡ suc k
    at true e rest = absurd (before 0 (omega arith) (eqb-true b a e))
    at false e rest = ap suc rest

-- the letter that isn't before the last place is there
pub last_place : (n : ℕ) (order : List ℕ) → IsOrder n order → (a : ℕ) → IsLetterOf n a → ((j : ℕ) → j < n - 1 → get_or order j 0 ≢ a) → rank_of order a ≡ n
last_place n order is a l before =
    let size : length order ≡ n = rearranged_length n order is in
    let h : (entries_before order a < length order) × (get_or order (entries_before order a) 0 ≡ a) = entry_found order a (Contains-permutation (up_to n) order a is (in_up_to n a l)) in
    elim (cases_lt (entries_before order a) (n - 1)) [
      | inl early ↦ absurd (before (entries_before order a) early h.1)
      | inr late ↦ omega (arith, h.0, size, late, l)
    ]

-- an entry of an order, as it is lent
pub entry_is_letter : (n : ℕ) (order list : List ℕ) (k : ℕ) → length order ≡ n → IsOrder (length order) order → list ≡ order → k < length list → IsLetterOf n (slice_index list k)
entry_is_letter n order list k size is same less =
    subst (λ m. IsLetterOf m (slice_index list k)) size (subst (λ xs. IsLetterOf (length order) (slice_index xs k)) (sym same)
    (from_up_to (length order) (get_or order k 0) (Contains-permutation order (up_to (length order)) (get_or order k 0) (IsPermutation-sym (up_to (length order)) order is)
    (Contains-get_or order k 0 (omega (arith, less, ap length same))))))
