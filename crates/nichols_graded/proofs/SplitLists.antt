-- Lists of words, or of what has a word each, that are split by product and sorted again.
use Rattle.std.proofs.Common.{◌≡◌, ℕ, suc, ◌+◌, true, false, cond, List, [], ◌∷◌, length, map, filter, flat_map, get_or, refl, sym, ◌∙◌, ap, ap₂, subst, arith, inl, inr, ◌⊎◌}
use Rattle.std.specs.List.{AllByRecursion, Contains, IsDistinct, sum_by}
use Rattle.std.specs.List.Sorted.{IsPermutation, IsSortedByKey}
use Rattle.std.specs.Ordering.{is_lt}
use Rattle.std.specs.declared.cmp.Ordering.{Ordering}
use Rattle.std.specs.declared.cmp.Ordering.TheVariants.{Less, Equal, Greater}
use Rattle.std.proofs.lemmas.List.{map-append}
use Rattle.std.proofs.lemmas.List.Sums.{sum_by-cons}
use Rattle.std.proofs.lemmas.List.Sorted.{Contains-permutation, IsPermutation-map, IsPermutation-sym}
use Rattle.std.proofs.lemmas.Map.Keys.{IsDistinct-IsPermutation}
use Rattle.nichols_tensor.specs.Combination.{same_letters}
use Rattle.nichols_tensor.specs.WordOrder.{IsRising, word_cmp}
use Rattle.nichols_tensor.proofs.Entries.{contains_none, contains_first, contains_later, contains_cases, in_map, from_map, in_flat_map, from_flat_map, in_filter, from_filter}
use Rattle.std.specs.Cmp.Lexicographic.{same_text}
use Rattle.nichols_tensor.proofs.Order.{same_word, less_back, greater_back, less_is_other}
use Rattle.nichols_tensor.proofs.Rising.{rising_kept, stands_after}
use Rattle.nichols_tensor.proofs.Tests.{all_of_entries}
use Rattle.nichols_tensor.proofs.Over.{all_at}
use Rattle.nichols_tensor.proofs.Values.{same_itself, same_back}
use Rattle.nichols_braid.specs.Braid.{BraidValue}
use Rattle.nichols_braid.specs.Product.{has_product, product_of}
use Rattle.nichols_braid.proofs.Permutations.{apart_is_false, distinct-append}
use Rattle.nichols_braid.proofs.ProductListLaws.{counted, same_sum}

-- ---- lists with rising keys and the same entries are one

keys_unique : {X : Type 0} (key : X → List ℕ) (xs ys : List X) → IsRising (map key xs) → IsRising (map key ys) → ((x : X) → Contains xs x → Contains ys x) → ((x : X) → Contains ys x → Contains xs x) → xs ≡ ys
keys_unique key [] [] r s h k = refl
keys_unique key [] (y ∷ ys) r s h k = absurd (contains_none y (k y (contains_first y ys)))
keys_unique key (x ∷ xs) [] r s h k = absurd (contains_none x (h x (contains_first x xs)))
keys_unique {X} key (x ∷ xs) (y ∷ ys) r s h k =
    let same : x ≡ y = firsts (contains_cases y ys x (h x (contains_first x xs))) (contains_cases x xs y (k y (contains_first y ys))) in
    ap₂ (λ z zs. z ∷ zs) same
    (keys_unique key xs ys r.1 s.1 (λ z i. rest z y ys (later x xs z r i) (ap key same) (contains_cases y ys z (h z (contains_later x xs z i)))) (λ z i. rest z x xs (later y ys z s i) (ap key (sym same)) (contains_cases x xs z (k z (contains_later y ys z i)))))
  where
    later : (z : X) (zs : List X) (w : X) → IsRising (map key (z ∷ zs)) → Contains zs w → word_cmp (key z) (key w) ≡ Less
    later z zs w q i = stands_after [] (key z) (map key zs) (key w) q (in_map key w zs i)

    firsts : (x ≡ y) ⊎ Contains ys x → (y ≡ x) ⊎ Contains xs y → x ≡ y
    firsts (inl e) i = e
    firsts (inr i) (inl e) = sym e
    firsts (inr i) (inr j) = absurd (let c : Greater ≡ Less = sym (greater_back (key y) (key x) (later y ys x s i)) ∙ later x xs y r j in cc)

    rest : (z w : X) (zs : List X) {v : List ℕ} → word_cmp v (key z) ≡ Less → v ≡ key w → (z ≡ w) ⊎ Contains zs z → Contains zs z
    rest z w zs {v = v} less e (inl same) = absurd (less_is_other v (key z) less (e ∙ ap key (sym same)))
    rest z w zs less e (inr i) = i

-- ---- words that differ

rising_distinct : (ws : List (List ℕ)) → IsRising ws → IsDistinct same_letters ws
unfolding IsDistinct
rising_distinct [] r = tt
rising_distinct (w ∷ ws) r =
    (all_of_entries (λ v. same_letters w v ≡ false) ws (λ v i. apart_is_false w v (λ e. less_is_other w v (stands_after [] w ws v r i) e)), rising_distinct ws r.1)

-- sorted keys that differ rise
sorted_rises : {X : Type 0} (key : X → List ℕ) (xs : List X) → IsSortedByKey key word_cmp xs → IsDistinct same_letters (map key xs) → IsRising (map key xs)
unfolding IsDistinct
sorted_rises key [] s d = tt
sorted_rises key (x ∷ []) s d = (tt, tt)
sorted_rises {X} key (x ∷ y ∷ xs) s d = (step (word_cmp (key y) (key x)) refl (s 0 x (omega arith) (omega arith)), sorted_rises key (y ∷ xs) further d.1)
  where
    step : (o : Ordering) → word_cmp (key y) (key x) ≡ o → is_lt (word_cmp (key y) (key x)) ≡ false → word_cmp (key x) (key y) ≡ Less
    step Less e not_less = absurd (let c : true ≡ false = sym (ap is_lt e) ∙ not_less in cc)
    step Equal e not_less = absurd (let c : true ≡ false = sym (ap (λ v. same_letters (key x) v) (same_word (key y) (key x) e) ∙ same_itself (key x)) ∙ d.0.0 in cc)
    step Greater e not_less = less_back (key y) (key x) e

    further : IsSortedByKey key word_cmp (y ∷ xs)
    further k z from upto =
        let e : suc k + 1 ≡ suc (k + 1) = omega arith in
        subst (λ j. is_lt (word_cmp (key (get_or (x ∷ y ∷ xs) j z)) (key (get_or (y ∷ xs) k z))) ≡ false) e (s (suc k) z (omega arith) (omega arith))

-- ---- split by product

-- the entries whose keys have this product
abbrev pub part_with : {X : Type 0} → (X → List ℕ) → BraidValue → List X → List ℕ → List X
part_with key braid all g = filter (λ x. has_product braid g (key x)) all

in_part : {X : Type 0} (key : X → List ℕ) (braid : BraidValue) (all : List X) (x : X) → Contains all x → Contains (part_with key braid all (product_of braid (key x))) x
in_part key braid all x i = in_filter (λ y. has_product braid (product_of braid (key x)) (key y)) x all i (same_itself (product_of braid (key x)))

from_part : {X : Type 0} (key : X → List ℕ) (braid : BraidValue) (all : List X) (g : List ℕ) (x : X) → Contains (part_with key braid all g) x → Contains all x × (product_of braid (key x) ≡ g)
from_part key braid all g x i = let (j, has) = from_filter (λ y. has_product braid g (key y)) x all i in (j, same_text (product_of braid (key x)) g (sym has))

parts_distinct : {X : Type 0} (key : X → List ℕ) (braid : BraidValue) (all : List X) (gs : List (List ℕ)) → IsRising (map key all) → IsDistinct same_letters gs → IsDistinct same_letters (map key (flat_map (part_with key braid all) gs))
unfolding IsDistinct
parts_distinct key braid all [] r d = tt
parts_distinct {X} key braid all (g ∷ gs) r d =
    subst (IsDistinct same_letters) (sym (map-append key (part_with key braid all g) (flat_map (part_with key braid all) gs)))
    (distinct-append (map key (part_with key braid all g)) (map key (flat_map (part_with key braid all) gs)) (rising_distinct (map key (part_with key braid all g)) (rising_kept key (λ x. has_product braid g (key x)) all r)) (parts_distinct key braid all gs r d.1) others)
  where
    others : (v w : List ℕ) → Contains (map key (part_with key braid all g)) v → Contains (map key (flat_map (part_with key braid all) gs)) w → same_letters v w ≡ false
    others v w i j =
        let (x, here, v_is) = from_map key v (part_with key braid all g) i in
        let (y, there, w_is) = from_map key w (flat_map (part_with key braid all) gs) j in
        let (h, listed, in_h) = from_flat_map (part_with key braid all) y gs there in
        apart_is_false v w (λ same.
        let g_is : product_of braid v ≡ g = ap (product_of braid) v_is ∙ (from_part key braid all g x here).1 in
        let h_is : product_of braid w ≡ h = ap (product_of braid) w_is ∙ (from_part key braid all h y in_h).1 in
        let one : g ≡ h = sym g_is ∙ ap (product_of braid) same ∙ h_is in
        let c : true ≡ false = sym (same_itself g) ∙ ap (same_letters g) one ∙ all_at (λ k. same_letters g k ≡ false) gs h d.0 listed in cc)

-- the parts, sorted, are the whole
pub sorted_parts : {X : Type 0} (key : X → List ℕ) (braid : BraidValue) (gs : List (List ℕ)) (all out : List X) → IsDistinct same_letters gs → ((x : X) → Contains all x → Contains gs (product_of braid (key x))) → IsRising (map key all) →
    IsPermutation (flat_map (part_with key braid all) gs) out → IsSortedByKey key word_cmp out → out ≡ all
sorted_parts {X} key braid gs all out d listed r p s =
    let parts : List X = flat_map (part_with key braid all) gs in
    keys_unique key out all
    (sorted_rises key out s (IsDistinct-IsPermutation same_letters same_back (map key parts) (map key out) (IsPermutation-map key parts out p) (parts_distinct key braid all gs r d))) r
    (λ x i. let (g, there, here) = from_flat_map (part_with key braid all) x gs (Contains-permutation out parts x (IsPermutation-sym parts out p) i) in (from_part key braid all g x here).0)
    (λ x i. Contains-permutation parts out x p (in_flat_map (part_with key braid all) (product_of braid (key x)) gs x (listed x i) (in_part key braid all x i)))

-- ---- how many there are

-- in a list without repeats each entry stands once
once_none : (h : List ℕ) (gs : List (List ℕ)) → AllByRecursion (λ g. same_letters h g ≡ false) gs → length (filter (same_letters h) gs) ≡ 0
once_none h [] none = refl
once_none h (g ∷ gs) none = ap (λ b. length (cond b (g ∷ filter (same_letters h) gs) (filter (same_letters h) gs))) none.0 ∙ once_none h gs none.1

once_there : (h : List ℕ) (gs : List (List ℕ)) → IsDistinct same_letters gs → Contains gs h → length (filter (same_letters h) gs) ≡ 1
unfolding IsDistinct
once_there h [] d i = absurd (contains_none h i)
once_there h (g ∷ gs) d i = at (contains_cases g gs h i) (once_there h gs d.1)
  where
    at : (h ≡ g) ⊎ Contains gs h → (Contains gs h → length (filter (same_letters h) gs) ≡ 1) → length (filter (same_letters h) (g ∷ gs)) ≡ 1
    at (inl same) rest =
        ap (λ b. length (cond b (g ∷ filter (same_letters h) gs) (filter (same_letters h) gs))) (ap (same_letters h) (sym same) ∙ same_itself h)
        ∙ ap suc (once_none h gs (subst (λ k. AllByRecursion (λ x. same_letters k x ≡ false) gs) (sym same) d.0))
    at (inr later) rest =
        ap (λ b. length (cond b (g ∷ filter (same_letters h) gs) (filter (same_letters h) gs))) (same_back h g ∙ all_at (λ k. same_letters g k ≡ false) gs h d.0 later) ∙ rest later

counted_once : {X : Type 0} (xs : List X) → sum_by (λ x. 1) xs ≡ length xs
counted_once [] = refl
counted_once (x ∷ xs) = sum_by-cons (λ y. 1) x xs ∙ (let rest = counted_once xs in omega (arith, rest))

pub parts_count : {X : Type 0} (key : X → List ℕ) (braid : BraidValue) (gs : List (List ℕ)) (all : List X) → IsDistinct same_letters gs → ((x : X) → Contains all x → Contains gs (product_of braid (key x))) →
    sum_by (λ g. length (part_with key braid all g)) gs ≡ length all
parts_count key braid gs all d listed =
    counted (λ g x. has_product braid g (key x)) gs all
    ∙ same_sum (λ x. length (filter (same_letters (product_of braid (key x))) gs)) (λ x. 1) all (λ x i. once_there (product_of braid (key x)) gs d (listed x i)) ∙ counted_once all
