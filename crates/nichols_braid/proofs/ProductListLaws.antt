-- The laws of the products of one length, of leading letters and of rows, each as its statement has it.
use Rattle.std.proofs.Common.{◌≡◌, ℕ, zero, suc, ◌+◌, ◌≤◌, Bool, true, false, cond, not, List, [], ◌∷◌, ◌++◌, map, length, refl, sym, ◌∙◌, ap, ap₂, subst, arith, Some, None, inl, inr}
use Rattle.std.specs.Prelude.{unwrap_or}
use Rattle.std.specs.List.{filter, find, sum_by, Contains}
use Rattle.std.specs.Option.{option_or}
use Rattle.std.specs.declared.option.Option.{Option}
use Rattle.std.specs.declared.cmp.Ordering.TheVariants.{Less}
use Rattle.std.specs.Cmp.Lexicographic.{same_text}
use Rattle.std.proofs.lemmas.Bool.{cases_lt}
use Rattle.std.proofs.lemmas.List.Concat.{length-flat_map}
use Rattle.std.proofs.lemmas.List.Elements.{filter_agree}
use Rattle.std.proofs.lemmas.List.{length-map}
use Rattle.std.proofs.lemmas.List.Folds.{find-append}
use Rattle.std.proofs.lemmas.List.Sums.{sum_by-cons, length-filter}
use Rattle.nichols_tensor.specs.Combination.{same_letters}
use Rattle.nichols_tensor.specs.Words.{up_to, words, IsLetterOf, IsWordOver}
use Rattle.nichols_tensor.specs.WordOrder.{word_cmp, IsBelowFirst, IsRising}
use Rattle.nichols_tensor.proofs.AllWords.{in_words, from_words, words_rise}
use Rattle.nichols_tensor.proofs.Entries.{contains_first, contains_later, in_map, from_map, from_filter, found, finds}
use Rattle.nichols_tensor.proofs.Letters.{in_up_to, from_up_to}
use Rattle.nichols_tensor.proofs.Over.{all_at}
use Rattle.nichols_tensor.proofs.Rising.{below_each, rising_kept, all_ordered_words}
use Rattle.nichols_tensor.proofs.Tests.{map_same, same_answer}
use Rattle.nichols_tensor.proofs.Values.{same_itself}
use Rattle.nichols_braid.specs.Braid.{BraidValue, IsLetter}
use Rattle.nichols_braid.specs.Kernel.{Vanishing}
use Rattle.nichols_braid.specs.Least.{basis, candidates}
use Rattle.nichols_braid.specs.Product.{product_of, has_product, product_after, product_before}
use Rattle.nichols_braid.specs.Products.{each_once, products, rows, leading}
use Rattle.nichols_braid.specs.ProductListLaws.{ProductAfterALetter, LeadingLetterIsFirst, ProductsAreOfWords, ProductsAreDistinct, FirstWordsRise, NextProducts, RowsOfAProduct, RowsByLetters}
use Rattle.nichols_braid.proofs.Candidates.{from_candidates}
use Rattle.nichols_braid.proofs.EachOnce.{in_each_once, from_each_once, once_distinct}
use Rattle.nichols_braid.proofs.InlineProducts.{after_a_word, after_before}
use Rattle.nichols_braid.proofs.NextProducts.{products_next}
use Rattle.nichols_braid.proofs.Onto.{product_before_alike}
use Rattle.nichols_braid.proofs.Lists.{filter-flat_map, filter-map}

pub product_after_a_letter : ProductAfterALetter
product_after_a_letter braid is w a la = after_a_word braid is.rack a la w

-- ---- leading letters

-- a search finds no letter behind one that passes
found_before : (t : ℕ → Bool) (n c b : ℕ) → find t (up_to n) ≡ Some c → IsLetterOf n b → t b ≡ true → c ≤ b
found_before t zero c b e l h = absurd (omega (arith, l.0, l.1))
found_before t (suc n) c b e l h = at (find t (up_to n)) refl (sym (find-append t (up_to n) (suc n ∷ [])) ∙ e) (λ some within. found_before t n c b some within h)
  where
    last : (d : Bool) → t (suc n) ≡ d → cond d (Some (suc n)) None ≡ Some c → c ≡ suc n
    last true same s = cc
    last false same s = cc

    at : (o : Option ℕ) → find t (up_to n) ≡ o → option_or o (find t (suc n ∷ [])) ≡ Some c → (find t (up_to n) ≡ Some c → IsLetterOf n b → c ≤ b) → c ≤ b
    at None none s earlier =
        let here : c ≡ suc n = last (t (suc n)) refl s in
        elim (cases_lt b (suc n)) [
          | inl less ↦ absurd (let (y, some) = finds t (up_to n) b (in_up_to n b (l.0, omega arith)) h in let bad : None ≡ Some y = sym none ∙ some in cc)
          | inr more ↦ omega (arith, here, more)
        ]
    at (Some d) some s earlier =
        let same : d ≡ c = cc in
        elim (cases_lt b (suc n)) [
          | inl less ↦ earlier (some ∙ s) (l.0, omega arith)
          | inr more ↦ let within : IsLetterOf n d = from_up_to n d (found t (up_to n) d some).0 in omega (arith, same, within.1, more)
        ]

pub leading_letter_is_first : LeadingLetterIsFirst
unfolding leading
leading_letter_is_first braid a la =
    let t : ℕ → Bool = λ b. has_product braid (product_of braid (a ∷ [])) (b ∷ []) in
    let (c, is_found) = finds t (up_to braid.letters) a (in_up_to braid.letters a la) (same_itself (product_of braid (a ∷ []))) in
    let (i, h) = found t (up_to braid.letters) c is_found in
    subst (λ o. IsLetter braid (unwrap_or o 0) × (product_of braid (unwrap_or o 0 ∷ []) ≡ product_of braid (a ∷ [])) × ((b : ℕ) → IsLetter braid b → product_of braid (b ∷ []) ≡ product_of braid (a ∷ []) → unwrap_or o 0 ≤ b))
    (sym is_found) (
      from_up_to braid.letters c i,
      same_text (product_of braid (c ∷ [])) (product_of braid (a ∷ [])) (sym h),
      λ b lb e.
          found_before t braid.letters c b is_found lb (ap (λ g. same_letters g (product_of braid (a ∷ []))) e ∙ same_itself (product_of braid (a ∷ []))),
    )

-- ---- the products of one length

pub products_are_of_words : ProductsAreOfWords
unfolding products
products_are_of_words braid m g = (
  λ i. let (w, j, e) = from_map (product_of braid) g (words braid.letters m) (from_each_once (map (product_of braid) (words braid.letters m)) g i) in let from : (length w ≡ m) × IsWordOver braid.letters w = from_words braid.letters m w j in (w, from.0, from.1, sym e),
  λ h. let (w, size, over, e) = h in subst (Contains (each_once (map (product_of braid) (words braid.letters m)))) e (in_each_once (map (product_of braid) (words braid.letters m)) (product_of braid w) (in_map (product_of braid) w (words braid.letters m) (in_words braid.letters m w size over))),
)

pub products_are_distinct : ProductsAreDistinct
unfolding products
products_are_distinct braid m = once_distinct (map (product_of braid) (words braid.letters m))

-- the first word of a list with this image
firsts : (List ℕ → List ℕ) → List (List ℕ) → List ℕ → List ℕ
firsts f ws g = unwrap_or (find (λ w. same_letters (f w) g) ws) []

firsts_stand : (f : List ℕ → List ℕ) (ws : List (List ℕ)) (g : List ℕ) → Contains (map f ws) g → Contains ws (firsts f ws g)
unfolding firsts
firsts_stand f ws g i =
    let (w, j, e) = from_map f g ws i in
    let (y, is_found) = finds (λ v. same_letters (f v) g) ws w j (ap (λ h. same_letters h g) (sym e) ∙ same_itself g) in
    subst (λ o. Contains ws (unwrap_or o [])) (sym is_found) (found (λ v. same_letters (f v) g) ws y is_found).0

firsts_rise : (f : List ℕ → List ℕ) (ws : List (List ℕ)) → IsRising ws → IsRising (map (firsts f ws) (each_once (map f ws)))
unfolding each_once firsts
firsts_rise f [] r = tt
firsts_rise f (w ∷ ws) r =
    let others : List (List ℕ) = filter (λ h. not (same_letters h (f w))) (each_once (map f ws)) in
    let later : map (firsts f (w ∷ ws)) others ≡ map (firsts f ws) others =
    map_same (firsts f (w ∷ ws)) (firsts f ws) others (λ g i. behind g (from_filter (λ h. not (same_letters h (f w))) g (each_once (map f ws)) i).1) in
    let rest : IsRising (map (firsts f ws) others) = rising_kept (firsts f ws) (λ h. not (same_letters h (f w))) (each_once (map f ws)) (firsts_rise f ws r.1) in
    let below : IsBelowFirst w (map (firsts f ws) others) =
    below_each w (map (firsts f ws) others)
    (λ v i.
    let (g, j, e) = from_map (firsts f ws) v others i in
    let (k, other) = from_filter (λ h. not (same_letters h (f w))) g (each_once (map f ws)) j in
    ap (word_cmp w) e ∙ all_at (λ u. word_cmp w u ≡ Less) ws (firsts f ws g) (all_ordered_words (w ∷ ws) r).0 (firsts_stand f ws g (from_each_once (map f ws) g k))) in
    subst (λ v. IsRising (v ∷ map (firsts f (w ∷ ws)) others)) (sym (ap (λ b. unwrap_or (cond b (Some w) (find (λ v. same_letters (f v) (f w)) ws)) []) (same_itself (f w))))
    (subst (λ l. IsRising (w ∷ l)) (sym later) (below, rest))
  where
    behind : (g : List ℕ) → not (same_letters g (f w)) ≡ true → firsts f (w ∷ ws) g ≡ firsts f ws g
    behind g other = at (same_letters (f w) g) refl
      where
        at : (b : Bool) → same_letters (f w) g ≡ b → unwrap_or (cond b (Some w) (find (λ v. same_letters (f v) g) ws)) [] ≡ unwrap_or (find (λ v. same_letters (f v) g) ws) []
        at true e = absurd (let c : false ≡ true = ap not (sym (ap (λ h. same_letters g h) (same_text (f w) g (sym e)) ∙ same_itself g)) ∙ other in cc)
        at false e = refl

pub first_words_rise : FirstWordsRise
unfolding products firsts
first_words_rise braid m = firsts_rise (product_of braid) (words braid.letters m) (words_rise braid.letters m)

pub next_products : NextProducts
next_products braid is m = products_next braid is m

-- ---- rows

-- the product of a candidate is one of its degree
pub candidate_product : (vanishes : Vanishing) (braid : BraidValue) (m : ℕ) (w : List ℕ) → Contains (candidates vanishes braid m) w → Contains (products braid m) (product_of braid w)
candidate_product vanishes braid m w i = let from : (length w ≡ m) × IsWordOver braid.letters w = from_candidates vanishes braid m w i in (products_are_of_words braid m (product_of braid w)).1 (w, from.0, from.1, refl)

pub same_sum : {X : Type 0} (f g : X → ℕ) (xs : List X) → ((x : X) → Contains xs x → f x ≡ g x) → sum_by f xs ≡ sum_by g xs
same_sum f g [] h = refl
same_sum f g (x ∷ xs) h =
    sum_by-cons f x xs ∙ ap₂ (λ m n. m + n) (h x (contains_first x xs)) (same_sum f g xs (λ y i. h y (contains_later x xs y i))) ∙ sym (sum_by-cons g x xs)

pub rows_of_a_product : RowsOfAProduct
unfolding rows candidates
rows_of_a_product vanishes braid m g =
    let letters : List ℕ = up_to braid.letters in
    let has : List ℕ → Bool = has_product braid g in
    ap length (filter-flat_map has (λ u. map (λ b. u ++ b ∷ []) letters) (basis vanishes braid m)) ∙ length-flat_map (λ u. filter has (map (λ b. u ++ b ∷ []) letters)) (basis vanishes braid m)
    ∙ same_sum (λ u. length (filter has (map (λ b. u ++ b ∷ []) letters))) (λ u. length (filter (λ a. has (u ++ a ∷ [])) letters)) (basis vanishes braid m)
    (λ u i. ap length (filter-map has (λ b. u ++ b ∷ []) letters) ∙ length-map (filter (λ b. has (u ++ b ∷ [])) letters) (λ b. u ++ b ∷ []))

-- ---- rows by their last letters

sum_of_sums : {X : Type 0} (f g : X → ℕ) (xs : List X) → sum_by (λ x. f x + g x) xs ≡ sum_by f xs + sum_by g xs
sum_of_sums f g [] = refl
sum_of_sums f g (x ∷ xs) =
    sum_by-cons (λ y. f y + g y) x xs ∙ ap (λ n. f x + g x + n) (sum_of_sums f g xs)
    ∙ (let middle : f x + g x + (sum_by f xs + sum_by g xs) ≡ f x + sum_by f xs + (g x + sum_by g xs) = omega arith in middle) ∙ ap₂ (λ m n. m + n) (sym (sum_by-cons f x xs)) (sym (sum_by-cons g x xs))

sum_of_none : {X : Type 0} (xs : List X) → sum_by (λ x. 0) xs ≡ 0
sum_of_none [] = refl
sum_of_none (x ∷ xs) = sum_by-cons (λ y. 0) x xs ∙ ap (λ n. 0 + n) (sum_of_none xs)

-- pairs that pass, counted by their first parts, and by their second
pub counted : {X Y : Type 0} (t : X → Y → Bool) (xs : List X) (ys : List Y) → sum_by (λ x. length (filter (t x) ys)) xs ≡ sum_by (λ y. length (filter (λ x. t x y) xs)) ys
counted {X = X} t [] ys = sym (sum_of_none ys)
counted {X = X} t (x ∷ xs) ys =
    sum_by-cons (λ z. length (filter (t z) ys)) x xs ∙ ap₂ (λ m n. m + n) (length-filter (t x) ys) (counted t xs ys) ∙ sym (sum_of_sums (λ y. cond (t x y) 1 0) (λ y. length (filter (λ z. t z y) xs)) ys)
    ∙ same_sum (λ y. cond (t x y) 1 0 + length (filter (λ z. t z y) xs)) (λ y. length (filter (λ z. t z y) (x ∷ xs))) ys (λ y i. one_more (t x y) (filter (λ z. t z y) xs))
  where
    one_more : (b : Bool) (zs : List X) → cond b 1 0 + length zs ≡ length (cond b (x ∷ zs) zs)
    one_more true zs = omega arith
    one_more false zs = omega arith

pub rows_by_letters : RowsByLetters
rows_by_letters vanishes braid is m g size =
    rows_of_a_product vanishes braid m g ∙ counted (λ u a. has_product braid g (u ++ a ∷ [])) (basis vanishes braid m) (up_to braid.letters)
    ∙ same_sum (λ a. length (filter (λ u. has_product braid g (u ++ a ∷ [])) (basis vanishes braid m))) (λ a. length (filter (has_product braid (product_before braid a g)) (basis vanishes braid m))) (up_to braid.letters)
    (λ a i. ap length (filter_agree (λ u. has_product braid g (u ++ a ∷ [])) (has_product braid (product_before braid a g)) (λ u. same_answer (has_product braid g (u ++ a ∷ [])) (has_product braid (product_before braid a g) u) (down a (from_up_to braid.letters a i) u) (up a (from_up_to braid.letters a i) u)) (basis vanishes braid m)))
  where
    down : (a : ℕ) → IsLetter braid a → (u : List ℕ) → has_product braid g (u ++ a ∷ []) ≡ true → has_product braid (product_before braid a g) u ≡ true
    down a la u e =
        ap (λ h. same_letters h (product_before braid a g)) (product_before_alike braid is.rack a la u (u ++ a ∷ []) (λ j l. refl) ∙ ap (product_before braid a) (same_text (product_of braid (u ++ a ∷ [])) g (sym e)))
        ∙ same_itself (product_before braid a g)

    up : (a : ℕ) → IsLetter braid a → (u : List ℕ) → has_product braid (product_before braid a g) u ≡ true → has_product braid g (u ++ a ∷ []) ≡ true
    up a la u e =
        ap (λ h. same_letters h g) (sym (after_a_word braid is.rack a la u) ∙ ap (product_after braid a) (same_text (product_of braid u) (product_before braid a g) (sym e)) ∙ after_before braid is.rack a la g size)
        ∙ same_itself g
