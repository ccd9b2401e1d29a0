-- Lists of integers that are an order, and the least wrong place of those that are none.
use Rattle.std.proofs.Common.{◌≡◌, ◌≢◌, ℕ, zero, suc, ◌+◌, ◌-◌, ◌<◌, ◌≤◌, ◌&&◌, Bool, true, false, not, cond, List, [], ◌∷◌, map, take, length, get_or, refl, sym, set, ◌∙◌, ap, ap₂, subst, arith, nat_eq, nat_le, nat_lt, Some, None}
use Rattle.std.specs.Prelude.{Option, ℤ, pos, negsuc, is_some, slice_index, slice_index_or}
use Rattle.std.specs.Ordering.{int_eq}
use Rattle.std.specs.List.{list_any, Contains, IsDistinct, AllByRecursion}
use Rattle.std.proofs.lemmas.Bool.{and_parts}
use Rattle.std.proofs.lemmas.Bool.Decides.{nat_tests, Decides-int_eq}
use Rattle.std.proofs.lemmas.List.{length-map, length-take-le, get_or-map, get_or-take}
use Rattle.std.proofs.lemmas.List.Sorted.{IsPermutation-sym}
use Rattle.std.proofs.lemmas.List.Elements.{Contains-get_or, All-from_get_or, recursion_from_All}
use Rattle.nichols_tensor.specs.Words.{up_to, IsLetterOf}
use Rattle.nichols_tensor.proofs.Letters.{in_up_to, up_to_length}
use Rattle.nichols_tensor.proofs.Entries.{any_of, from_map}
use Rattle.nichols_tensor.proofs.Over.{all_at}
use Rattle.nichols_braid.specs.Faults.{first_answer, is_letter}
use Rattle.nichols_braid.specs.GivenTables.{letter_of, integer_in}
use Rattle.nichols_braid.specs.Order.{IsOrder, fits_at, order_fault}
use Rattle.nichols_braid.proofs.FirstAnswers.{no_answer}
use Rattle.nichols_braid.proofs.Onto.{rearranged_if_all}
use Rattle.nichols_braid.proofs.InlineProducts.{one_more as more_set}
use Rattle.nichols_braid.proofs.Search.{first_answer-more, first_answer-found}

-- ---- the search

abbrev pub wrong_at : ℕ → List ℤ → ℕ → Option ℕ
wrong_at n list k = cond (fits_at n list k) None (Some k)

pub place_found : (n : ℕ) (list : List ℤ) (k : ℕ) (b : Bool) → k < n + 1 → first_answer (wrong_at n list) (up_to k) ≡ None → b ≡ fits_at n list (k + 1) → b ≡ false → order_fault n list ≡ Some (k + 1)
unfolding order_fault
place_found n list k b less before same e =
    let here : wrong_at n list (k + 1) ≡ Some (k + 1) = ap (λ t. cond t None (Some (k + 1))) (sym same ∙ e) in
    first_answer-found (wrong_at n list) k (suc n) (omega arith) before (ap is_some here) ∙ here

pub place_passed : (n : ℕ) (list : List ℤ) (k : ℕ) (b : Bool) → first_answer (wrong_at n list) (up_to k) ≡ None → b ≡ fits_at n list (k + 1) → b ≡ true → first_answer (wrong_at n list) (up_to (k + 1)) ≡ None
place_passed n list k b before same e = first_answer-more (wrong_at n list) k before (ap (λ t. cond t None (Some (k + 1))) (sym same ∙ e))

pub none_found : (n : ℕ) (list : List ℤ) (k : ℕ) → k ≡ n + 1 → first_answer (wrong_at n list) (up_to k) ≡ None → order_fault n list ≡ None
unfolding order_fault
none_found n list k e h = let same : k ≡ suc n = omega arith in subst (λ m. first_answer (wrong_at n list) (up_to m) ≡ None) same h

-- ---- a list without a wrong place

pub fits : (n : ℕ) (list : List ℤ) → order_fault n list ≡ None → (k : ℕ) → IsLetterOf (suc n) k → fits_at n list k ≡ true
unfolding order_fault
fits n list none k l = at (fits_at n list k) (no_answer (wrong_at n list) (up_to (suc n)) none k (in_up_to (suc n) k l))
  where
    at : (b : Bool) → cond b None (Some k) ≡ None → b ≡ true
    at true h = refl
    at false h = cc

pub record Fits (n : ℕ) (list : List ℤ) (k : ℕ) : Type 0 where
  pub there : k ≤ length list
  pub letter : is_letter n (integer_in list k) ≡ true
  pub first : list_any (λ v. int_eq v (integer_in list k)) (take (k - 1) list) ≡ false

not_parts : (b : Bool) → not b ≡ true → b ≡ false
not_parts true h = cc
not_parts false h = refl

pub fits_inside : (n : ℕ) (list : List ℤ) (k : ℕ) → k ≤ n → fits_at n list k ≡ true → Fits n list k
fits_inside n list k inside h = at (nat_le k (length list)) (is_letter n (integer_in list k)) (list_any (λ v. int_eq v (integer_in list k)) (take (k - 1) list)) refl refl refl
  where
    le : nat_le k n ≡ true
    le = grind (arith, nat_tests)

    at : (a b c : Bool) → nat_le k (length list) ≡ a → is_letter n (integer_in list k) ≡ b → list_any (λ v. int_eq v (integer_in list k)) (take (k - 1) list) ≡ c → Fits n list k
    at a b c ea eb ec =
        let all : (a && b && not c) ≡ true =
        sym (ap (λ t. cond t (a && b && not c) (nat_lt (length list) k)) le
        ∙ refl) ∙ subst (λ x. cond (nat_le k n) (x && b && not c) (nat_lt (length list) k) ≡ true) ea
        (subst (λ y. cond (nat_le k n) (nat_le k (length list) && y && not c) (nat_lt (length list) k) ≡ true) eb
        (subst (λ z. cond (nat_le k n) (nat_le k (length list) && is_letter n (integer_in list k) && not z) (nat_lt (length list) k) ≡ true) ec h)) in
        let front : ((a && b) ≡ true) × (not c ≡ true) = and_parts (a && b) (not c) all in
        let two : (a ≡ true) × (b ≡ true) = and_parts a b front.0 in
        record { there = (let t : nat_le k (length list) ≡ true = ea ∙ two.0 in grind (arith, nat_tests)); letter = eb ∙ two.1; first = ec ∙ not_parts c front.1 }

pub surplus : (n : ℕ) (list : List ℤ) (k : ℕ) → n < k → fits_at n list k ≡ true → length list < k
surplus n list k over h =
    let le : nat_le k n ≡ false = grind (arith, nat_tests) in
    let beyond : nat_lt (length list) k ≡ true =
    ap (λ t. cond t (nat_le k (length list) && is_letter n (integer_in list k) && not (list_any (λ v. int_eq v (integer_in list k)) (take (k - 1) list))) (nat_lt (length list) k)) (sym le) ∙ h in
    grind (arith, nat_tests)

inside : (n : ℕ) (list : List ℤ) → order_fault n list ≡ None → (k : ℕ) → IsLetterOf n k → Fits n list k
inside n list none k l = fits_inside n list k l.1 (fits n list none k (l.0, (let h : (1 ≤ k) × (k ≤ n) = l in omega arith)))

pub order_size : (n : ℕ) (list : List ℤ) → 1 ≤ n → order_fault n list ≡ None → length list ≡ n
order_size n list some none =
    let last : Fits n list n = inside n list none n (some, omega arith) in
    omega (arith, last.there, surplus n list (suc n) (omega arith) (fits n list none (suc n) (omega arith, omega arith)))

-- the entry at place k, from 0
pub entry_is_letter : (n : ℕ) (list : List ℤ) → order_fault n list ≡ None → (k : ℕ) → k < n → is_letter n (get_or list k (pos 0)) ≡ true
entry_is_letter n list none k less = let e : k + 1 - 1 ≡ k = omega arith in subst (λ i. is_letter n (get_or list i (pos 0)) ≡ true) e (inside n list none (k + 1) (omega arith, omega arith)).letter

pub letter_bounds : (n : ℕ) (v : ℤ) → is_letter n v ≡ true → IsLetterOf n (letter_of v) × (v ≡ pos (letter_of v))
letter_bounds n (pos v) h = let both : (nat_le 1 v ≡ true) × (nat_le v n ≡ true) = and_parts (nat_le 1 v) (nat_le v n) h in ((grind (arith, nat_tests, both.0), grind (arith, nat_tests, both.1)), refl)
letter_bounds n (negsuc v) h = cc

entries_apart : (n : ℕ) (list : List ℤ) → 1 ≤ n → order_fault n list ≡ None → (i j : ℕ) → i < j → j < n → get_or list i (pos 0) ≢ get_or list j (pos 0)
entries_apart n list some none i j before less same =
    let size : length list ≡ n = order_size n list some none in
    let here : list_any (λ v. int_eq v (get_or list j (pos 0))) (take j list) ≡ false =
    (let e : j + 1 - 1 ≡ j = omega arith in subst (λ i. list_any (λ v. int_eq v (get_or list i (pos 0))) (take i list) ≡ false) e (inside n list none (j + 1) (omega arith, omega arith)).first) in
    let taken : get_or (take j list) i (pos 0) ≡ get_or list i (pos 0) = get_or-take j list i (pos 0) before in
    let among : Contains (take j list) (get_or list i (pos 0)) = subst (Contains (take j list)) taken (Contains-get_or (take j list) i (pos 0) (omega (arith, length-take-le j list (omega arith), before))) in
    let c : true ≡ false = sym (any_of (λ v. int_eq v (get_or list j (pos 0))) (get_or list i (pos 0)) (take j list) among ((Decides-int_eq (get_or list i (pos 0)) (get_or list j (pos 0))).1 same)) ∙ here in cc

-- a list whose entries differ by place has no repeats
distinct_by_place : (xs : List ℕ) → ((i j : ℕ) → i < j → j < length xs → get_or xs i 0 ≢ get_or xs j 0) → IsDistinct nat_eq xs
unfolding IsDistinct
distinct_by_place [] h = tt
distinct_by_place (x ∷ xs) h = (each xs (λ j less. h 0 (suc j) (omega arith) (omega arith)), distinct_by_place xs (λ i j before less. h (suc i) (suc j) (omega arith) (omega arith)))
  where
    each : (ys : List ℕ) → ((j : ℕ) → j < length ys → x ≢ get_or ys j 0) → AllByRecursion (λ y. nat_eq x y ≡ false) ys
    each [] k = tt
    each (y ∷ ys) k = (apart (k 0 (omega arith)), each ys (λ j less. k (suc j) (omega arith)))
      where
        apart : x ≢ y → nat_eq x y ≡ false
        apart d = grind (arith, nat_tests)

pub all_letters : (n : ℕ) (list : List ℤ) → 1 ≤ n → order_fault n list ≡ None → AllByRecursion (λ v. is_letter n v ≡ true) list
all_letters n list some none =
    recursion_from_All (λ v. is_letter n v ≡ true) list (All-from_get_or (λ v. is_letter n v ≡ true) list (pos 0) (λ k less. entry_is_letter n list none k (omega (arith, less, order_size n list some none))))

pub order_is : (n : ℕ) (list : List ℤ) → 1 ≤ n → order_fault n list ≡ None → IsOrder n (map letter_of list)
order_is n list some none =
    IsPermutation-sym (map letter_of list) (up_to n)
    (rearranged_if_all (map letter_of list) (up_to n)
    (distinct_by_place (map letter_of list) (λ i j before less. apart i j before (omega (arith, less, long))))
    (λ x i. let (z, j, e) = from_map letter_of x list i in subst (Contains (up_to n)) (sym e) (each z j))
    (up_to_length n ∙ sym long))
  where
    long : length (map letter_of list) ≡ n
    long = length-map list letter_of ∙ order_size n list some none

    at : (k : ℕ) → k < n → get_or (map letter_of list) k 0 ≡ letter_of (get_or list k (pos 0))
    at k less = get_or-map letter_of list k (pos 0) 0 (omega (arith, less, order_size n list some none))

    each : (z : ℤ) → Contains list z → Contains (up_to n) (letter_of z)
    each z i = in_up_to n (letter_of z) (letter_bounds n z (all_at (λ v. is_letter n v ≡ true) list z (all_letters n list some none) i)).0

    apart : (i j : ℕ) → i < j → j < n → get_or (map letter_of list) i 0 ≢ get_or (map letter_of list) j 0
    apart i j before less e =
        entries_apart n list some none i j before less
        ((letter_bounds n (get_or list i (pos 0)) (entry_is_letter n list none i (omega (arith, before, less)))).1
        ∙ ap pos (sym (at i (omega (arith, before, less))) ∙ e ∙ at j less)
        ∙ sym (letter_bounds n (get_or list j (pos 0)) (entry_is_letter n list none j less)).1)

-- ---- the array of an order

pub array_is : (n : ℕ) (list : List ℤ) (entries : List ℕ) → n ≤ length entries → length list ≡ n → ((j : ℕ) → j < n → slice_index entries j ≡ letter_of (slice_index_or list j (pos 0))) → take n entries ≡ map letter_of list
array_is zero [] entries few size h = take_zero entries
  where
    take_zero : (xs : List ℕ) → take 0 xs ≡ []
    take_zero [] = refl
    take_zero (x ∷ xs) = refl
array_is zero (v ∷ list) entries few size h = absurd (omega arith)
array_is (suc n) [] entries few size h = absurd (omega arith)
array_is (suc n) (v ∷ list) [] few size h = absurd (omega arith)
array_is (suc n) (v ∷ list) (x ∷ entries) few size h = ap₂ (λ y ys. y ∷ ys) (h 0 (omega arith)) (array_is n list entries (omega arith) (omega arith) (λ j less. h (suc j) (omega arith)))

pub one_more : (list : List ℤ) (entries : List ℕ) (k x : ℕ) → k < length entries → x ≡ letter_of (slice_index_or list k (pos 0)) → ((j : ℕ) → j < k → slice_index entries j ≡ letter_of (slice_index_or list j (pos 0))) →
    (j : ℕ) → j < k + 1 → slice_index (set entries k x) j ≡ letter_of (slice_index_or list j (pos 0))
one_more list entries k x less e before j below = more_set (λ i. letter_of (slice_index_or list i (pos 0))) entries k x less e before j below
