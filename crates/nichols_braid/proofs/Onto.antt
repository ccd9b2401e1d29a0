-- Each map of a rack, and each product of a word, rearranges the letters. So each letter's map is onto.
use Rattle.std.proofs.Common.{◌≡◌, ℕ, zero, suc, ◌+◌, ◌-◌, ◌<◌, ◌≤◌, false, List, [], ◌∷◌, ◌++◌, map, length, sym, ◌∙◌, ap, arith, subst, nat_eq, ◌⊎◌, inl, inr}
use Rattle.std.specs.Prelude.{unwrap_or, slice_index}
use Rattle.std.specs.List.{AllByRecursion, Contains, IsDistinct}
use Rattle.std.specs.List.Sorted.{IsPermutation}
use Rattle.std.proofs.Math.Seq.{get_or-append_seam}
use Rattle.std.proofs.lemmas.Bool.{eqb-true, cases_lt}
use Rattle.std.proofs.lemmas.Bool.Decides.{nat_tests, Decides-eqb}
use Rattle.std.proofs.lemmas.List.{length-append, length-map, get_or-map, get_or_append_left, map-id}
use Rattle.std.proofs.lemmas.List.Elements.{Contains-append_left, Contains-append_right, Contains-append_cases}
use Rattle.std.proofs.lemmas.List.Sorted.{IsPermutation-refl, IsPermutation-cons, IsPermutation-sym, IsPermutation-trans, IsPermutation-middle, IsPermutation-map, Contains-permutation}
use Rattle.nichols_tensor.specs.Words.{up_to, IsWordOver}
use Rattle.nichols_tensor.proofs.Entries.{contains_first, contains_later, contains_cases, from_map, found, finds}
use Rattle.nichols_tensor.proofs.Letters.{in_up_to, from_up_to, up_to_length}
use Rattle.nichols_tensor.proofs.Over.{all_at}
use Rattle.nichols_tensor.proofs.Tests.{map_same, all_of_entries}
use Rattle.nichols_braid.specs.Braid.{BraidValue, IsLetter, IsRack, act}
use Rattle.nichols_braid.specs.Product.{product_image, product_of, unact, product_before}
use Rattle.nichols_braid.specs.Rearrangement.{IsRearrangement}
use Rattle.nichols_braid.proofs.Counts.{in_front_and_rest}
use Rattle.nichols_braid.proofs.Lists.{map-map}
use Rattle.nichols_braid.proofs.KeptProducts.{MoveAlike, product_image-append}
use Rattle.nichols_braid.proofs.Rearranged.{up_to_distinct}

-- ---- lists without repeats

-- a list without repeats, all of whose entries stand in a list of its length, is a rearrangement of that
pub rearranged_if_all : (xs ys : List ℕ) → IsDistinct nat_eq xs → ((x : ℕ) → Contains xs x → Contains ys x) → length ys ≡ length xs → IsPermutation xs ys
unfolding IsDistinct
rearranged_if_all [] [] d h e = IsPermutation-refl []
rearranged_if_all [] (y ∷ ys) d h e = absurd (omega arith)
rearranged_if_all (x ∷ xs) ys d h e =
    let (front, rest, same) = in_front_and_rest x ys (h x (contains_first x xs)) in
    let size : length front + suc (length rest) ≡ suc (length xs) = sym (length-append front (x ∷ rest)) ∙ ap length (sym same) ∙ e in
    let fewer : length (front ++ rest) ≡ length xs = length-append front rest ∙ (let n : length front + length rest ≡ length xs = omega arith in n) in
    subst (IsPermutation (x ∷ xs)) (sym same)
    (IsPermutation-trans (x ∷ xs) (x ∷ (front ++ rest)) (front ++ x ∷ rest)
    (IsPermutation-cons x xs (front ++ rest) (rearranged_if_all xs (front ++ rest) d.1 (λ z i. others z i front rest (Contains-append_cases front (x ∷ rest) z (subst (λ l. Contains l z) same (h z (contains_later x xs z i))))) fewer))
    (IsPermutation-sym (front ++ x ∷ rest) (x ∷ (front ++ rest)) (IsPermutation-middle front x rest)))
  where
    others : (z : ℕ) → Contains xs z → (front rest : List ℕ) → Contains front z ⊎ Contains (x ∷ rest) z → Contains (front ++ rest) z
    others z i front rest (inl j) = Contains-append_left front rest z j
    others z i front rest (inr j) =
        elim (contains_cases x rest z j) [
          | inl same ↦ absurd (let apart : nat_eq x z ≡ false = all_at (λ y. nat_eq x y ≡ false) xs z d.0 i in grind (arith, nat_tests))
          | inr later ↦ Contains-append_right front rest z later
        ]

-- a map that keeps the entries of a list apart makes no repeats
distinct-map : (f : ℕ → ℕ) (P : ℕ → Type 0) → ((x y : ℕ) → P x → P y → f x ≡ f y → x ≡ y) → (xs : List ℕ) → AllByRecursion P xs → IsDistinct nat_eq xs → IsDistinct nat_eq (map f xs)
unfolding IsDistinct
distinct-map f P once [] all d = tt
distinct-map f P once (x ∷ xs) all d = (each xs all.1 d.0, distinct-map f P once xs all.1 d.1)
  where
    apart : (y : ℕ) → (f x ≡ f y → x ≡ y) → nat_eq x y ≡ false → nat_eq (f x) (f y) ≡ false
    apart y h e = grind (arith, nat_tests)

    each : (ys : List ℕ) → AllByRecursion P ys → AllByRecursion (λ y. nat_eq x y ≡ false) ys → AllByRecursion (λ z. nat_eq (f x) z ≡ false) (map f ys)
    each [] p e = tt
    each (y ∷ ys) p e = (apart y (once x y all.0 p.0) e.0, each ys p.1 e.1)

-- ---- the map of a letter

all_letters : (n : ℕ) → AllByRecursion (λ a. (1 ≤ a) × (a ≤ n)) (up_to n)
all_letters n = all_of_entries (λ a. (1 ≤ a) × (a ≤ n)) (up_to n) (from_up_to n)

pub acted_rearranges : (braid : BraidValue) → IsRack braid → (a : ℕ) → IsLetter braid a → IsRearrangement braid.letters (map (act braid a) (up_to braid.letters))
acted_rearranges braid rack a la =
    let n : ℕ = braid.letters in
    let images : List ℕ = map (act braid a) (up_to n) in
    IsPermutation-sym images (up_to n)
    (rearranged_if_all images (up_to n) (distinct-map (act braid a) (IsLetter braid) (λ x y lx ly e. rack.injective a x y la lx ly e) (up_to n) (all_letters n) (up_to_distinct n))
    (λ x i. let (c, j, e) = from_map (act braid a) x (up_to n) i in subst (λ y. Contains (up_to n) y) (sym e) (in_up_to n (act braid a c) (rack.closed a c la (from_up_to n c j))))
    (sym (length-map (up_to n) (act braid a))))

-- each letter is `a ▷ c` for some letter c
pub each_is_acted : (braid : BraidValue) → IsRack braid → (a : ℕ) → IsLetter braid a → (d : ℕ) → IsLetter braid d → (c : ℕ) × IsLetter braid c × (act braid a c ≡ d)
each_is_acted braid rack a la d ld =
    let n : ℕ = braid.letters in
    let images : List ℕ = map (act braid a) (up_to n) in
    let (c, i, e) = from_map (act braid a) d (up_to n) (Contains-permutation (up_to n) images d (acted_rearranges braid rack a la) (in_up_to n d ld)) in
    (c, from_up_to n c i, sym e)

-- and the search for it finds one
pub unact_is_before : (braid : BraidValue) → IsRack braid → (a : ℕ) → IsLetter braid a → (d : ℕ) → IsLetter braid d → IsLetter braid (unact braid a d) × (act braid a (unact braid a d) ≡ d)
unfolding unact
unact_is_before braid rack a la d ld =
    let n : ℕ = braid.letters in
    let (c, lc, e) = each_is_acted braid rack a la d ld in
    let (y, is_found) = finds (λ x. nat_eq (act braid a x) d) (up_to n) c (in_up_to n c lc) ((Decides-eqb (act braid a c) d).1 e) in
    let (i, h) = found (λ x. nat_eq (act braid a x) d) (up_to n) y is_found in
    subst (λ o. IsLetter braid (unwrap_or o 0) × (act braid a (unwrap_or o 0) ≡ d)) (sym is_found) (from_up_to n y i, eqb-true (act braid a y) d h)

-- ---- products

pub product_is_rearrangement : (braid : BraidValue) → IsRack braid → (w : List ℕ) → IsWordOver braid.letters w → IsRearrangement braid.letters (product_of braid w)
unfolding product_of
product_is_rearrangement braid rack [] over = subst (IsPermutation (up_to braid.letters)) (sym (map-id (up_to braid.letters))) (IsPermutation-refl (up_to braid.letters))
product_is_rearrangement braid rack (x ∷ w) over =
    let letters : List ℕ = up_to braid.letters in
    subst (IsPermutation letters) (map-map (act braid x) (product_image braid w) letters)
    (IsPermutation-trans letters (map (act braid x) letters) (map (act braid x) (map (product_image braid w) letters)) (acted_rearranges braid rack x over.0)
    (IsPermutation-map (act braid x) letters (map (product_image braid w) letters) (product_is_rearrangement braid rack w over.1)))

pub up_to_at : (n i : ℕ) → i < n → slice_index (up_to n) i ≡ suc i
up_to_at zero i less = absurd (omega arith)
up_to_at (suc n) i less =
    elim (cases_lt i n) [
      | inl before ↦ get_or_append_left (up_to n) (suc n ∷ []) 0 i (let size : length (up_to n) ≡ n = up_to_length n in omega arith) ∙ up_to_at n i before
      | inr last ↦
          let same : i ≡ n = omega arith in
          ap (λ k. slice_index (up_to n ++ suc n ∷ []) k) (same ∙ sym (up_to_length n)) ∙ get_or-append_seam (up_to n) (suc n) [] 0 ∙ ap suc (sym same)
    ]

-- the entry of a product for a letter is where the word sends it
pub image_at : (braid : BraidValue) (w : List ℕ) (c : ℕ) → IsLetter braid c → slice_index (product_of braid w) (c - 1) ≡ product_image braid w c
unfolding product_of
image_at braid w c l =
    let n : ℕ = braid.letters in
    let less : c - 1 < n = omega (arith, l.0, l.1) in
    let back : suc (c - 1) ≡ c = omega (arith, l.0) in
    get_or-map (product_image braid w) (up_to n) (c - 1) 0 0 (let size : length (up_to n) ≡ n = up_to_length n in omega arith) ∙ ap (product_image braid w) (up_to_at n (c - 1) less ∙ back)

-- a word that sends the letters, with a behind, where another does has the product before a of that
pub product_before_alike : (braid : BraidValue) → IsRack braid → (a : ℕ) → IsLetter braid a → (v w : List ℕ) → MoveAlike braid (v ++ a ∷ []) w → product_of braid v ≡ product_before braid a (product_of braid w)
unfolding product_of product_before
product_before_alike braid rack a la v w h =
    let n : ℕ = braid.letters in
    map_same (product_image braid v) (λ j. slice_index (map (product_image braid w) (up_to n)) (unact braid a j - 1)) (up_to n)
    (λ j i.
    let c : ℕ = unact braid a j in
    let (lc, e) = unact_is_before braid rack a la j (from_up_to n j i) in
    ap (product_image braid v) (sym e) ∙ sym (product_image-append braid v (a ∷ []) c) ∙ h c lc ∙ sym (image_at braid w c lc))
