-- The products of the braid on ranks, each conjugated by the order, are those of the braid in the order of first words by the order;
-- and with the order 1 to n the braid on ranks is the braid.
use Rattle.std.proofs.Common.{◌≡◌, ℕ, suc, ◌-◌, ◌≤◌, not, List, [], ◌∷◌, map, length, refl, sym, ◌∙◌, ap, ap₂, subst, arith}
use Rattle.std.specs.Prelude.{slice_index}
use Rattle.std.specs.List.{filter, Contains}
use Rattle.std.specs.Cmp.Lexicographic.{same_text}
use Rattle.std.proofs.lemmas.List.{length-map}
use Rattle.std.proofs.lemmas.List.Sorted.{IsPermutation-refl}
use Rattle.nichols_tensor.specs.Combination.{same_letters}
use Rattle.nichols_tensor.specs.Words.{up_to, words, IsLetterOf, IsWordOver}
use Rattle.nichols_tensor.proofs.AllWords.{in_words, from_words, words_rise}
use Rattle.nichols_tensor.proofs.Entries.{in_map, from_map, contains_first, contains_later}
use Rattle.nichols_tensor.proofs.Letters.{from_up_to}
use Rattle.nichols_tensor.proofs.Tests.{same_answer, filter_same, map_same, all_of_entries}
use Rattle.nichols_tensor.proofs.Values.{same_itself}
use Rattle.nichols_braid.specs.Braid.{BraidValue, IsBraid, IsLetter, act}
use Rattle.nichols_braid.specs.Order.{IsOrder, rank_of, letter_at, renamed_word, relabelled, product_in_letters}
use Rattle.nichols_braid.specs.OrderForms.{PlainOrderChangesNothing, words_by, WordsAreRelabelled, ProductsAreRelabelled}
use Rattle.nichols_braid.specs.Product.{product_image, product_of}
use Rattle.nichols_braid.specs.Products.{each_once, products}
use Rattle.nichols_braid.proofs.Complete.{is_flat, same_rows}
use Rattle.nichols_braid.proofs.EachOnce.{from_each_once}
use Rattle.nichols_braid.proofs.Lists.{map-map, filter-map}
use Rattle.nichols_braid.proofs.Onto.{image_at, up_to_at}
use Rattle.nichols_braid.proofs.OrderForms.{letters_are, rises_in_letters}
use Rattle.nichols_braid.proofs.OrderLaws.{ranks_act_as_letters}
use Rattle.nichols_braid.proofs.Ranks.{rank_is_letter, letter_is_letter, letter_of_rank, rank_of_letter, letters_over, ranks_over, ranks_of_letters, letters_of_ranks}
use Rattle.nichols_braid.proofs.Rearranged.{rearranged_length}
use Rattle.nichols_braid.proofs.Renamed.{with_tables}

-- ---- words

pub words_are_relabelled : WordsAreRelabelled
words_are_relabelled n order o m = (rises_in_letters n order o (words n m) (all_of_entries (IsWordOver n) (words n m) (λ w i. (from_words n m w i).1)) (words_rise n m), λ w. (to w, back w))
  where
    to : (w : List ℕ) → Contains (words_by order n m) w → (length w ≡ m) × IsWordOver n w
    to w i =
        let (r, j, e) = from_map (renamed_word (letter_at order)) w (words n m) i in
        let from : (length r ≡ m) × IsWordOver n r = from_words n m r j in
        (ap length e ∙ length-map r (letter_at order) ∙ from.0, subst (IsWordOver n) (sym e) (letters_over n order o r from.1))

    back : (w : List ℕ) → (length w ≡ m) × IsWordOver n w → Contains (words_by order n m) w
    back w h =
        subst (Contains (words_by order n m)) (letters_of_ranks n order o w h.1)
        (in_map (renamed_word (letter_at order)) (map (rank_of order) w) (words n m) (in_words n m (map (rank_of order) w) (length-map w (rank_of order) ∙ h.0) (ranks_over n order o w h.1)))

-- ---- products

-- the image of a letter stays one
image_is_letter : (braid : BraidValue) → IsBraid braid → (w : List ℕ) → IsWordOver braid.letters w → (a : ℕ) → IsLetter braid a → IsLetter braid (product_image braid w a)
image_is_letter braid is [] over a l = l
image_is_letter braid is (i ∷ w) over a l = is.rack.closed i (product_image braid w a) over.0 (image_is_letter braid is w over.1 a l)

image_in_ranks : (braid : BraidValue) → IsBraid braid → (order : List ℕ) → IsOrder braid.letters order → (w : List ℕ) → IsWordOver braid.letters w → (a : ℕ) → IsLetter braid a →
    product_image (relabelled order braid) (map (rank_of order) w) (rank_of order a) ≡ rank_of order (product_image braid w a)
image_in_ranks braid is order o [] over a l = refl
image_in_ranks braid is order o (i ∷ w) over a l =
    ap (act (relabelled order braid) (rank_of order i)) (image_in_ranks braid is order o w over.1 a l)
    ∙ (ranks_act_as_letters braid is order o i (product_image braid w a) over.0 (image_is_letter braid is w over.1 a l)).0

product_of_ranks : (braid : BraidValue) → IsBraid braid → (order : List ℕ) → IsOrder braid.letters order → (w : List ℕ) → IsWordOver braid.letters w →
    product_in_letters order (product_of (relabelled order braid) (map (rank_of order) w)) ≡ product_of braid w
unfolding product_of
product_of_ranks braid is order o w over =
    ap (λ n. map conjugate (up_to n)) (rearranged_length braid.letters order o) ∙ map_same conjugate (product_image braid w) (up_to braid.letters) (λ a i. each a (from_up_to braid.letters a i))
  where
    new : BraidValue
    new = relabelled order braid

    conjugate : ℕ → ℕ
    conjugate a = letter_at order (slice_index (product_of new (map (rank_of order) w)) (rank_of order a - 1))

    each : (a : ℕ) → IsLetter braid a → conjugate a ≡ product_image braid w a
    each a l =
        ap (letter_at order)
        (image_at new (map (rank_of order) w) (rank_of order a) (subst (λ n. IsLetterOf n (rank_of order a)) (sym (letters_are braid order)) (rank_is_letter braid.letters order o a l))
        ∙ image_in_ranks braid is order o w over a l)
        ∙ letter_of_rank braid.letters order o (product_image braid w a) (image_is_letter braid is w over a l)

-- a product of letters in ranks
in_ranks_again : List ℕ → ℕ → List ℕ → List ℕ
in_ranks_again order n g = map (λ r. rank_of order (slice_index g (letter_at order r - 1))) (up_to n)

product_back : (braid : BraidValue) → IsBraid braid → (order : List ℕ) → IsOrder braid.letters order → (w : List ℕ) → IsWordOver braid.letters w →
    product_of (relabelled order braid) (map (rank_of order) w) ≡ in_ranks_again order braid.letters (product_of braid w)
unfolding product_of in_ranks_again
product_back braid is order o w over =
    ap (λ n. map (product_image (relabelled order braid) (map (rank_of order) w)) (up_to n)) (letters_are braid order)
    ∙ map_same (product_image (relabelled order braid) (map (rank_of order) w)) (λ r. rank_of order (slice_index (product_of braid w) (letter_at order r - 1))) (up_to braid.letters) (λ r i. each r (from_up_to braid.letters r i))
  where
    each : (r : ℕ) → IsLetter braid r → product_image (relabelled order braid) (map (rank_of order) w) r ≡ rank_of order (slice_index (product_of braid w) (letter_at order r - 1))
    each r l =
        let a : ℕ = letter_at order r in
        let la : IsLetter braid a = letter_is_letter braid.letters order o r l in
        ap (product_image (relabelled order braid) (map (rank_of order) w)) (sym (rank_of_letter braid.letters order o r l))
        ∙ image_in_ranks braid is order o w over a la
        ∙ ap (rank_of order) (sym (image_at braid w a la))

-- ---- lists of products

-- where the map keeps entries apart, the entries once go along
once_mapped : (c : List ℕ → List ℕ) (gs : List (List ℕ)) → ((g h : List ℕ) → Contains gs g → Contains gs h → same_letters (c g) (c h) ≡ same_letters g h) → map c (each_once gs) ≡ each_once (map c gs)
unfolding each_once
once_mapped c [] apart = refl
once_mapped c (g ∷ gs) apart =
    ap (λ hs. c g ∷ hs)
    (ap (map c) (filter_same (λ h. not (same_letters h g)) (λ h. not (same_letters (c h) (c g))) (each_once gs) (λ h i. ap not (sym (apart h g (contains_later g gs h (from_each_once gs h i)) (contains_first g gs)))))
    ∙ sym (filter-map (λ h. not (same_letters h (c g))) c (each_once gs))
    ∙ ap (filter (λ h. not (same_letters h (c g)))) (once_mapped c gs (λ h k i j. apart h k (contains_later g gs h i) (contains_later g gs k j))))

pub products_are_relabelled : ProductsAreRelabelled
unfolding products
products_are_relabelled braid is order o m =
    ap (λ n. map (product_in_letters order) (each_once (map (product_of new) (words n m)))) (letters_are braid order)
    ∙ once_mapped (product_in_letters order) (map (product_of new) (words braid.letters m)) apart
    ∙ ap each_once (map-map (product_in_letters order) (product_of new) (words braid.letters m)
    ∙ map_same (λ r. product_in_letters order (product_of new r)) (λ r. product_of braid (map (letter_at order) r)) (words braid.letters m) (λ r i. each r (from_words braid.letters m r i).1)
    ∙ sym (map-map (product_of braid) (renamed_word (letter_at order)) (words braid.letters m)))
  where
    new : BraidValue
    new = relabelled order braid

    -- a word of ranks, by its letters
    each : (r : List ℕ) → IsWordOver braid.letters r → product_in_letters order (product_of new r) ≡ product_of braid (map (letter_at order) r)
    each r over =
        ap (λ v. product_in_letters order (product_of new v)) (sym (ranks_of_letters braid.letters order o r over))
        ∙ product_of_ranks braid is order o (map (letter_at order) r) (letters_over braid.letters order o r over)

    again : (r : List ℕ) → IsWordOver braid.letters r → product_of new r ≡ in_ranks_again order braid.letters (product_of braid (map (letter_at order) r))
    again r over =
        ap (product_of new) (sym (ranks_of_letters braid.letters order o r over)) ∙ product_back braid is order o (map (letter_at order) r) (letters_over braid.letters order o r over)

    -- each is that of a word, and is known by its conjugate
    known : (g : List ℕ) → Contains (map (product_of new) (words braid.letters m)) g → g ≡ in_ranks_again order braid.letters (product_in_letters order g)
    known g i =
        let (r, j, e) = from_map (product_of new) g (words braid.letters m) i in
        let over : IsWordOver braid.letters r = (from_words braid.letters m r j).1 in
        e ∙ again r over ∙ ap (in_ranks_again order braid.letters) (sym (each r over) ∙ ap (product_in_letters order) (sym e))

    apart : (g h : List ℕ) → Contains (map (product_of new) (words braid.letters m)) g → Contains (map (product_of new) (words braid.letters m)) h → same_letters (product_in_letters order g) (product_in_letters order h) ≡ same_letters g h
    apart g h i j =
        same_answer (same_letters (product_in_letters order g) (product_in_letters order h)) (same_letters g h)
        (λ e. let same : g ≡ h = known g i ∙ ap (in_ranks_again order braid.letters) (same_text (product_in_letters order g) (product_in_letters order h) (sym e)) ∙ sym (known h j) in ap (λ k. same_letters k h) same ∙ same_itself h)
        (λ e. ap (λ k. same_letters (product_in_letters order k) (product_in_letters order h)) (same_text g h (sym e)) ∙ same_itself (product_in_letters order h))

-- ---- the order 1 to n

rank_in_plain : (n a : ℕ) → IsLetterOf n a → rank_of (up_to n) a ≡ a
rank_in_plain n a l =
    let h : (1 ≤ a) × (a ≤ n) = l in
    ap (rank_of (up_to n)) (sym (up_to_at n (a - 1) (omega arith) ∙ (let e : suc (a - 1) ≡ a = omega arith in e)))
    ∙ rank_of_letter n (up_to n) (IsPermutation-refl (up_to n)) a l

pub plain_order_changes_nothing : PlainOrderChangesNothing
unfolding relabelled
plain_order_changes_nothing braid is =
    ap₂ (with_tables braid)
    (same_rows (λ i. map (λ j. rank_of (up_to n) (act braid i j)) (up_to n)) (λ i. map (act braid i) (up_to n)) n (λ i li.
    map_same (λ j. rank_of (up_to n) (act braid i j)) (act braid i) (up_to n) (λ j k. rank_in_plain n (act braid i j) (is.rack.closed i j li (from_up_to n j k))))
    ∙ is_flat n braid.rack is.rack_size)
    (is_flat n braid.cocycle is.cocycle_size)
  where
    n : ℕ
    n = braid.letters
