-- The products of the words of one letter more: those of the words, each followed by each letter.
use Rattle.std.proofs.Common.{◌≡◌, ℕ, zero, suc, ◌+◌, ◌<◌, ◌≤◌, List, [], ◌∷◌, ◌++◌, map, length, take, drop, refl, sym, ◌∙◌, ap, subst, arith, append-nil, append_assoc, take-append-drop}
use Rattle.std.specs.List.{flat_map, Contains}
use Rattle.std.proofs.Math.Seq.{take-suc}
use Rattle.std.proofs.lemmas.Grind.{flat_map-append}
use Rattle.std.proofs.lemmas.List.{map-append}
use Rattle.nichols_tensor.specs.Positions.{word_at}
use Rattle.nichols_tensor.specs.Words.{up_to, words, with_letters}
use Rattle.nichols_tensor.proofs.Entries.{from_map}
use Rattle.nichols_tensor.proofs.Letters.{from_up_to}
use Rattle.nichols_tensor.proofs.Tests.{map_same}
use Rattle.nichols_braid.specs.Braid.{BraidValue, IsBraid}
use Rattle.nichols_braid.specs.Product.{product_of, product_after}
use Rattle.nichols_braid.specs.Products.{each_once, products}
use Rattle.nichols_braid.proofs.EachOnce.{once_followed, from_each_once, each_once_grows, flat_map-push}
use Rattle.nichols_braid.proofs.InlineProducts.{after_a_word, product_size}
use Rattle.nichols_braid.proofs.Lists.{map-map, map-flat_map, flat_map-map, flat_map-flat_map, same_flat_map}
use Rattle.nichols_braid.proofs.Search.{up_to-prefix}

-- the products after each letter
abbrev pub followed : BraidValue → List ℕ → List (List ℕ)
followed braid g = map (λ a. product_after braid a g) (up_to braid.letters)

-- ---- words

with_letters-prefixed : (n a : ℕ) (ws : List (List ℕ)) → with_letters n (map (λ w. a ∷ w) ws) ≡ map (λ w. a ∷ w) (with_letters n ws)
with_letters-prefixed n a ws =
    flat_map-map (λ u. map (λ b. u ++ b ∷ []) (up_to n)) (λ w. a ∷ w) ws
    ∙ same_flat_map (λ w. map (λ b. (a ∷ w) ++ b ∷ []) (up_to n)) (λ w. map (λ v. a ∷ v) (map (λ b. w ++ b ∷ []) (up_to n))) (λ w. sym (map-map (λ v. a ∷ v) (λ b. w ++ b ∷ []) (up_to n))) ws
    ∙ sym (map-flat_map (λ v. a ∷ v) (λ w. map (λ b. w ++ b ∷ []) (up_to n)) ws)

each_letter : (n : ℕ) → flat_map (λ a. map (λ w. a ∷ w) ([] ∷ [])) (up_to n) ≡ with_letters n ([] ∷ [])
each_letter n = singles (up_to n) ∙ sym (append-nil (map (λ b. b ∷ []) (up_to n)))
  where
    singles : (letters : List ℕ) → flat_map (λ a. map (λ (w : List ℕ). a ∷ w) ([] ∷ [])) letters ≡ map (λ b. b ∷ []) letters
    singles [] = refl
    singles (a ∷ letters) = ap (λ l. (a ∷ []) ∷ l) (singles letters)

-- the words of one letter more are the words, each with each letter behind
pub words_next : (n m : ℕ) → words n (suc m) ≡ with_letters n (words n m)
unfolding words
words_next n zero = each_letter n
words_next n (suc m) =
    same_flat_map (λ a. map (λ w. a ∷ w) (words n (suc m))) (λ a. with_letters n (map (λ w. a ∷ w) (words n m))) (λ a. ap (map (λ w. a ∷ w)) (words_next n m) ∙ sym (with_letters-prefixed n a (words n m))) (up_to n)
    ∙ sym (flat_map-flat_map (λ u. map (λ b. u ++ b ∷ []) (up_to n)) (λ a. map (λ w. a ∷ w) (words n m)) (up_to n))

-- ---- products

-- the products of the words with each letter behind
pub products_with_letters : (braid : BraidValue) → IsBraid braid → (ws : List (List ℕ)) → map (product_of braid) (with_letters braid.letters ws) ≡ flat_map (followed braid) (map (product_of braid) ws)
products_with_letters braid is ws =
    map-flat_map (product_of braid) (λ u. map (λ b. u ++ b ∷ []) (up_to braid.letters)) ws
    ∙ same_flat_map (λ u. map (product_of braid) (map (λ b. u ++ b ∷ []) (up_to braid.letters))) (λ u. followed braid (product_of braid u)) each ws
    ∙ sym (flat_map-map (followed braid) (product_of braid) ws)
  where
    each : (u : List ℕ) → map (product_of braid) (map (λ b. u ++ b ∷ []) (up_to braid.letters)) ≡ followed braid (product_of braid u)
    each u =
        map-map (product_of braid) (λ b. u ++ b ∷ []) (up_to braid.letters)
        ∙ map_same (λ b. product_of braid (u ++ b ∷ [])) (λ b. product_after braid b (product_of braid u)) (up_to braid.letters) (λ b i. sym (after_a_word braid is.rack b (from_up_to braid.letters b i) u))

pub products_next : (braid : BraidValue) → IsBraid braid → (m : ℕ) → products braid (suc m) ≡ each_once (flat_map (followed braid) (products braid m))
unfolding products
products_next braid is m =
    ap (λ ws. each_once (map (product_of braid) ws)) (words_next braid.letters m) ∙ ap each_once (products_with_letters braid is (words braid.letters m))
    ∙ sym (once_followed (followed braid) (map (product_of braid) (words braid.letters m)))

-- each has as many images as there are letters
pub products_size : (braid : BraidValue) (m : ℕ) (g : List ℕ) → Contains (products braid m) g → length g ≡ braid.letters
unfolding products
products_size braid m g i = let (w, j, e) = from_map (product_of braid) g (words braid.letters m) (from_each_once (map (product_of braid) (words braid.letters m)) g i) in ap length e ∙ product_size braid w

-- ---- step by step

-- one letter more
pub followed_more : (f : ℕ → List ℕ) (gs : List (List ℕ)) (a : ℕ) (h : List ℕ) → h ≡ f (a + 1) → (gs ++ map f (up_to a)) ++ h ∷ [] ≡ gs ++ map f (up_to (a + 1))
followed_more f gs a h e =
    append_assoc gs (map f (up_to a)) (h ∷ [])
    ∙ ap (λ l. gs ++ l) (ap (λ x. map f (up_to a) ++ x ∷ []) (e ∙ ap f one) ∙ sym (map-append f (up_to a) (suc a ∷ [])) ∙ ap (λ k. map f (up_to k)) (sym one))
  where
    one : a + 1 ≡ suc a
    one = omega arith

-- more than are allowed after some letters are more after all
pub wide_letters : (f : ℕ → List ℕ) (gs : List (List ℕ)) (most a n : ℕ) (h : List ℕ) → h ≡ f (a + 1) → a < n → most < length (each_once ((gs ++ map f (up_to a)) ++ h ∷ [])) → most < length (each_once (gs ++ map f (up_to n)))
wide_letters f gs most a n h e less wide =
    let (rest, all) = up_to-prefix (a + 1) n (omega arith) in
    let here : most < length (each_once (gs ++ map f (up_to (a + 1)))) = subst (λ l. most < length (each_once l)) (followed_more f gs a h e) wide in
    let grows : length (each_once (gs ++ map f (up_to (a + 1)))) ≤ length (each_once ((gs ++ map f (up_to (a + 1))) ++ map f rest)) = each_once_grows (gs ++ map f (up_to (a + 1))) (map f rest) in
    let whole : (gs ++ map f (up_to (a + 1))) ++ map f rest ≡ gs ++ map f (up_to n) =
    append_assoc gs (map f (up_to (a + 1))) (map f rest) ∙ ap (λ l. gs ++ l) (sym (map-append f (up_to (a + 1)) rest) ∙ ap (map f) (sym all)) in
    subst (λ l. most < length (each_once l)) whole (omega (arith, here, grows))

-- one product more
pub products_more : (f : List ℕ → List (List ℕ)) (ps : List (List ℕ)) (k : ℕ) (g : List ℕ) → k < length ps → g ≡ word_at ps k → flat_map f (take k ps) ++ f g ≡ flat_map f (take (k + 1) ps)
products_more f ps k g less e =
    ap (λ x. flat_map f (take k ps) ++ f x) e ∙ sym (flat_map-push f (take k ps) (word_at ps k))
    ∙ ap (flat_map f) (sym (take-suc ps k [] less) ∙ ap (λ n. take n ps) (let one : suc k ≡ k + 1 = omega arith in one))

-- more than are allowed after some products are more after all
pub wide_products : (f : List ℕ → List (List ℕ)) (ps : List (List ℕ)) (most k : ℕ) (g : List ℕ) → k < length ps → g ≡ word_at ps k → most < length (each_once (flat_map f (take k ps) ++ f g)) → most < length (each_once (flat_map f ps))
wide_products f ps most k g less e wide =
    let here : most < length (each_once (flat_map f (take (k + 1) ps))) = subst (λ l. most < length (each_once l)) (products_more f ps k g less e) wide in
    let grows : length (each_once (flat_map f (take (k + 1) ps))) ≤ length (each_once (flat_map f (take (k + 1) ps) ++ flat_map f (drop (k + 1) ps))) = each_once_grows (flat_map f (take (k + 1) ps)) (flat_map f (drop (k + 1) ps)) in
    let whole : flat_map f (take (k + 1) ps) ++ flat_map f (drop (k + 1) ps) ≡ flat_map f ps = sym (flat_map-append f (take (k + 1) ps) (drop (k + 1) ps)) ∙ ap (flat_map f) (take-append-drop (k + 1) ps) in
    subst (λ l. most < length (each_once l)) whole (omega (arith, here, grows))

-- the product of the empty word is the only one of degree 0
pub products_first : (braid : BraidValue) → products braid 0 ≡ product_of braid [] ∷ []
unfolding products words each_once
products_first braid = refl
