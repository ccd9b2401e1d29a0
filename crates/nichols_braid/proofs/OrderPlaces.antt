-- The place that is told of a list is the least wrong one, and none is told exactly where the list is an order.
use Rattle.std.proofs.Common.{◌≡◌, ◌≢◌, ℕ, suc, ◌-◌, ◌<◌, ◌≤◌, ◌&&◌, Bool, true, false, not, cond, List, [], ◌∷◌, map, take, length, get_or, refl, sym, ◌∙◌, ap, ap₂, subst, arith, nat_le, nat_lt, Some, None, inl, inr}
use Rattle.std.specs.Prelude.{Option, ℤ, pos}
use Rattle.std.specs.Ordering.{int_eq}
use Rattle.std.specs.List.{list_any, AllByRecursion, Contains}
use Rattle.std.proofs.lemmas.Bool.{cases_lt}
use Rattle.std.proofs.lemmas.Bool.Decides.{nat_tests, Decides-int_eq}
use Rattle.std.proofs.lemmas.List.{length-map, length-take-le, get_or-map, get_or-take}
use Rattle.std.proofs.lemmas.List.Elements.{Contains-get_or}
use Rattle.nichols_tensor.specs.Words.{IsLetterOf}
use Rattle.nichols_tensor.proofs.Entries.{any_of, some_of, contains_none, contains_cases}
use Rattle.nichols_braid.specs.Faults.{is_letter}
use Rattle.nichols_braid.specs.GivenTables.{letter_of, integer_in}
use Rattle.nichols_braid.specs.Order.{IsOrder, letter_at, rank_of, fits_at, order_fault}
use Rattle.nichols_braid.specs.OrderPlaces.{IsRepeatedAt, IsWrongPlace, LeastWrongPlacesAreTold}
use Rattle.nichols_braid.proofs.FirstAnswers.{first_letter}
use Rattle.nichols_braid.proofs.GivenRows.{passes, letter_passes}
use Rattle.nichols_braid.proofs.NamedFaults.{wrong_by_test}
use Rattle.nichols_braid.proofs.OrderFaults.{wrong_at, Fits, fits, fits_inside, surplus, letter_bounds, all_letters, order_is}
use Rattle.nichols_braid.proofs.Ranks.{letter_is_letter, rank_of_letter}
use Rattle.nichols_braid.proofs.Rearranged.{rearranged_length}

-- ---- what the test of a place says

-- an entry has a place
place_of : {X : Type 0} (d x : X) (xs : List X) → Contains xs x → (i : ℕ) × (i < length xs) × (get_or xs i d ≡ x)
place_of d x [] i = absurd (contains_none x i)
place_of d x (y ∷ ys) i =
    elim (contains_cases y ys x i) [
      | inl same ↦ (0, omega arith, sym same)
      | inr later ↦ let (k, less, e) = place_of d x ys later in (suc k, omega arith, e)
    ]

repeated : (list : List ℤ) (k : ℕ) → k ≤ length list → list_any (λ v. int_eq v (integer_in list k)) (take (k - 1) list) ≡ true → IsRepeatedAt list k
repeated list k there e =
    let (v, i, same) = some_of (λ v. int_eq v (integer_in list k)) (take (k - 1) list) e in
    let (j, less, at) = place_of (pos 0) v (take (k - 1) list) i in
    let size : length (take (k - 1) list) ≡ k - 1 = length-take-le (k - 1) list (omega arith) in
    let below : j < k - 1 = omega arith in
    let back : suc j - 1 ≡ j = omega arith in (
      suc j,
      omega arith,
      omega arith,
      ap (λ m. get_or list m (pos 0)) back ∙ sym (get_or-take (k - 1) list j (pos 0) below) ∙ at ∙ (Decides-int_eq v (integer_in list k)).0 same,
    )

wrong_unless_fits : (n : ℕ) (list : List ℤ) (k : ℕ) → IsLetterOf (suc n) k → fits_at n list k ≡ false → IsWrongPlace n list k
wrong_unless_fits n list k l h = at (nat_le k n) (nat_le k (length list)) (is_letter n (integer_in list k)) (list_any (λ v. int_eq v (integer_in list k)) (take (k - 1) list)) (nat_lt (length list) k) refl refl refl refl refl h
  where
    outside : is_letter n (integer_in list k) ≡ false → (a : ℕ) → IsLetterOf n a → pos a ≢ integer_in list k
    outside e a la same = let bad : false ≡ true = sym e ∙ ap (is_letter n) (sym same) ∙ letter_passes n a la in absurd (let c : false ≡ true = bad in cc)

    at : (a b c d e : Bool) → nat_le k n ≡ a → nat_le k (length list) ≡ b → is_letter n (integer_in list k) ≡ c → list_any (λ v. int_eq v (integer_in list k)) (take (k - 1) list) ≡ d → nat_lt (length list) k ≡ e →
        cond a (b && c && not d) e ≡ false → IsWrongPlace n list k
    at true false c d e p q r s t h = inl ((l.0, grind (arith, nat_tests, p)), inl (grind (arith, nat_tests, q)))
    at true true false d e p q r s t h = inl ((l.0, grind (arith, nat_tests, p)), inr (inl (outside r)))
    at true true true true e p q r s t h = inl ((l.0, grind (arith, nat_tests, p)), inr (inr (repeated list k (grind (arith, nat_tests, q)) s)))
    at true true true false e p q r s t h = cc
    at false b c d true p q r s t h = cc
    at false b c d false p q r s t h =
        let more : n < k = grind (arith, nat_tests, p) in
        let there : k ≤ length list = grind (arith, nat_tests, t) in
        let last : k ≤ suc n = l.1 in
        inr (omega arith, omega arith)

fits_not_wrong : (n : ℕ) (list : List ℤ) (k : ℕ) → fits_at n list k ≡ true → IsWrongPlace n list k → ⊥
fits_not_wrong n list k h (inl (l, inl less)) = let here : Fits n list k = fits_inside n list k l.1 h in omega (arith, here.there, less)
fits_not_wrong n list k h (inl (l, inr (inl outside))) =
    let here : Fits n list k = fits_inside n list k l.1 h in
    let b : IsLetterOf n (letter_of (integer_in list k)) × (integer_in list k ≡ pos (letter_of (integer_in list k))) = letter_bounds n (integer_in list k) here.letter in
    outside (letter_of (integer_in list k)) b.0 (sym b.1)
fits_not_wrong n list k h (inl (l, inr (inr (j, one, less, same)))) =
    let here : Fits n list k = fits_inside n list k l.1 h in
    let there : k ≤ length list = here.there in
    let taken : get_or (take (k - 1) list) (j - 1) (pos 0) ≡ integer_in list j = get_or-take (k - 1) list (j - 1) (pos 0) (omega arith) in
    let size : length (take (k - 1) list) ≡ k - 1 = length-take-le (k - 1) list (omega arith) in
    let among : Contains (take (k - 1) list) (integer_in list j) = subst (Contains (take (k - 1) list)) taken (Contains-get_or (take (k - 1) list) (j - 1) (pos 0) (omega arith)) in
    let c : true ≡ false = sym (any_of (λ v. int_eq v (integer_in list k)) (integer_in list j) (take (k - 1) list) among ((Decides-int_eq (integer_in list j) (integer_in list k)).1 same)) ∙ here.first in cc
fits_not_wrong n list k h (inr (last, more)) = let less : length list < k = surplus n list k (omega arith) h in omega arith

wrong_is_letter : (n : ℕ) (list : List ℤ) (k : ℕ) → IsWrongPlace n list k → IsLetterOf (suc n) k
wrong_is_letter n list k (inl (l, h)) = (l.0, omega (arith, l.1))
wrong_is_letter n list k (inr (last, more)) = (omega arith, omega arith)

-- ---- the least wrong place

place_is_least : (n : ℕ) (list : List ℤ) (k : ℕ) → order_fault n list ≡ Some k → IsWrongPlace n list k × ((j : ℕ) → j < k → IsWrongPlace n list j → ⊥)
unfolding order_fault
place_is_least n list k e =
    let (i, letter, answers, none) = first_letter (suc n) (wrong_at n list) k e in
    let (wrong, same) = wrong_by_test (fits_at n list i) i k answers in
    subst (λ m. IsWrongPlace n list m × ((j : ℕ) → j < m → IsWrongPlace n list j → ⊥)) same (
      wrong_unless_fits n list i letter wrong,
      λ j less h. fits_not_wrong n list j (passes (fits_at n list j) j (none j (wrong_is_letter n list j h) less)) h,
    )

no_place : (n : ℕ) (list : List ℤ) → order_fault n list ≡ None → (k : ℕ) → IsWrongPlace n list k → ⊥
no_place n list none k h = fits_not_wrong n list k (fits n list none k (wrong_is_letter n list k h)) h

least_is_place : (n : ℕ) (list : List ℤ) (k : ℕ) → IsWrongPlace n list k → ((j : ℕ) → j < k → IsWrongPlace n list j → ⊥) → order_fault n list ≡ Some k
least_is_place n list k wrong before = at (order_fault n list) refl
  where
    at : (o : Option ℕ) → order_fault n list ≡ o → order_fault n list ≡ Some k
    at None none = absurd (no_place n list none k wrong)
    at (Some i) some =
        let least : IsWrongPlace n list i × ((j : ℕ) → j < i → IsWrongPlace n list j → ⊥) = place_is_least n list i some in
        elim (cases_lt i k) [
          | inl less ↦ absurd (before i less least.0)
          | inr more ↦ elim (cases_lt k i) [
            | inl less ↦ absurd (least.1 k less wrong)
            | inr equal ↦ some ∙ ap Some (let same : i ≡ k = omega arith in same)
          ]
        ]

-- ---- orders

integers_back : (n : ℕ) (list : List ℤ) → AllByRecursion (λ v. is_letter n v ≡ true) list → map pos (map letter_of list) ≡ list
integers_back n [] all = refl
integers_back n (v ∷ list) all = ap₂ (λ (x : ℤ) (xs : List ℤ). x ∷ xs) (sym (letter_bounds n v all.0).1) (integers_back n list all.1)

pos_same : (a b : ℕ) → pos a ≡ pos b → a ≡ b
pos_same a b e = cc

order_has_none : (n : ℕ) (order : List ℕ) (list : List ℤ) → IsOrder n order → map pos order ≡ list → (k : ℕ) → IsWrongPlace n list k → ⊥
order_has_none n order list o same k wrong = by wrong
  where
    long : length list ≡ n
    long = ap length (sym same) ∙ length-map order pos ∙ rearranged_length n order o

    entry : (j : ℕ) → IsLetterOf n j → integer_in list j ≡ pos (letter_at order j)
    entry j l =
        ap (λ xs. get_or xs (j - 1) (pos 0)) (sym same)
        ∙ get_or-map pos order (j - 1) 0 (pos 0) (let h : (1 ≤ j) × (j ≤ n) = l in omega (arith, h, rearranged_length n order o))

    by : IsWrongPlace n list k → ⊥
    by (inl (l, inl less)) = omega (arith, l.1, long, less)
    by (inl (l, inr (inl outside))) = outside (letter_at order k) (letter_is_letter n order o k l) (sym (entry k l))
    by (inl (l, inr (inr (j, one, less, equal)))) =
        let lj : IsLetterOf n j = (one, omega (arith, l.1, less)) in
        let letters : letter_at order j ≡ letter_at order k = pos_same (letter_at order j) (letter_at order k) (sym (entry j lj) ∙ equal ∙ entry k l) in
        let ranks : j ≡ k = sym (rank_of_letter n order o j lj) ∙ ap (rank_of order) letters ∙ rank_of_letter n order o k l in
        omega (arith, ranks, less)
    by (inr (last, more)) = omega (arith, long, more)

pub least_wrong_places_are_told : LeastWrongPlacesAreTold
least_wrong_places_are_told n some list = record {
  told = λ k. (place_is_least n list k, λ h. least_is_place n list k h.0 h.1);
  order = (λ none. (order_is n list some none, integers_back n list (all_letters n list some none)), none_for_orders);
}
  where
    none_for_orders : IsOrder n (map letter_of list) × (map pos (map letter_of list) ≡ list) → order_fault n list ≡ None
    none_for_orders h = at (order_fault n list) refl
      where
        at : (o : Option ℕ) → order_fault n list ≡ o → order_fault n list ≡ None
        at None none = none
        at (Some k) e = absurd (order_has_none n (map letter_of list) list h.0 h.1 k (place_is_least n list k e).0)
