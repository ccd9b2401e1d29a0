-- The listed words of a block, and the new ones among them.
use Rattle.std.proofs.Common.{◌≡◌, ℕ, zero, suc, ◌-◌, ◌<◌, ◌≤◌, Bool, true, List, [], ◌∷◌, ◌++◌, map, length, take, drop, refl, sym, ◌∙◌, ap, subst, arith, ◌⊎◌, inl, inr}
use Rattle.std.specs.Prelude.{◌&&◌}
use Rattle.std.specs.List.{filter, AllByRecursion, Contains}
use Rattle.std.specs.Cmp.Derive.{both_true}
use Rattle.std.specs.Cmp.Lexicographic.{same_text}
use Rattle.std.proofs.Math.Seq.{take-append_seam}
use Rattle.std.proofs.lemmas.Bool.{and_parts, or_cases, or_left, or_right}
use Rattle.nichols_tensor.specs.declared.TheConstants.{WORD_LIMIT}
use Rattle.nichols_tensor.specs.Combination.{same_letters}
use Rattle.nichols_tensor.specs.Words.{IsWordOver, words}
use Rattle.nichols_tensor.specs.WordOrder.{IsRising}
use Rattle.nichols_tensor.proofs.AllWords.{in_words, from_words, words_rise, push_less, prepend_less}
use Rattle.nichols_tensor.proofs.Entries.{contains_none, in_map, from_map, in_filter, from_filter}
use Rattle.nichols_tensor.proofs.Over.{word_over_front, word_over_back}
use Rattle.nichols_tensor.proofs.Pushed.{pushed_length, pushed_over}
use Rattle.nichols_tensor.proofs.Rising.{rising-filter, rising-map, rising_unique}
use Rattle.nichols_tensor.proofs.Tests.{all_of_entries}
use Rattle.nichols_tensor.proofs.Values.{same_itself}
use Rattle.nichols_braid.specs.Braid.{BraidValue, IsBraid, IsLetter}
use Rattle.nichols_braid.specs.Kernel.{is_killed}
use Rattle.nichols_braid.specs.Least.{is_least}
use Rattle.nichols_braid.specs.NewWords.{is_new, new_words}
use Rattle.nichols_braid.specs.Product.{product_of, has_product}
use Rattle.nichols_braid.proofs.Reduction.{in_basis, from_basis}
use Rattle.nichols_braid.proofs.Spanning.{split_last}
use Rattle.nichols_value.specs.Block.{left_lower_basis, lower_basis}
use Rattle.nichols_value.proofs.Blocks.{has_product_is, product_is, in_lower_basis, from_lower_basis, lower_basis_rises}
use Rattle.nichols_value.proofs.LeftBlocks.{in_left_lower_basis, from_left_lower_basis, left_lower_basis_rises}
use Rattle.nichols_value.proofs.RuleEntries.{lower_word_is_short}
use Rattle.nichols_block.specs.Words.{but_last, is_listed, is_left, is_right, listed_words, block_new_words}

-- ---- words without a letter

pub but_last-push : (u : List ℕ) (b : ℕ) → but_last (u ++ b ∷ []) ≡ u
but_last-push u b =
    let size : length (u ++ b ∷ []) - 1 ≡ length u = omega (arith, pushed_length u b) in
    ap (λ n. take n (u ++ b ∷ [])) size ∙ take-append_seam u (b ∷ [])

but_last-front : (a : ℕ) (w : List ℕ) → but_last (a ∷ w) ≡ take (length w) (a ∷ w)
but_last-front a w = let size : suc (length w) - 1 ≡ length w = omega arith in ap (λ n. take n (a ∷ w)) size

-- a word of some letters is a word with a letter behind, and one with a letter in front
pub record HasLast (braid : BraidValue) (m : ℕ) (w : List ℕ) : Type 0 where
  pub front : List ℕ
  pub last : ℕ
  pub whole : w ≡ front ++ last ∷ []
  pub size : length front ≡ m
  pub over : IsWordOver braid.letters front
  pub letter : IsLetter braid last
  pub but_last_is : but_last w ≡ front

pub has_last : (braid : BraidValue) (m : ℕ) (w : List ℕ) → length w ≡ suc m → IsWordOver braid.letters w → HasLast braid m w
has_last braid m w size over =
    let (u, b, e) = split_last m w size in
    let all : IsWordOver braid.letters (u ++ b ∷ []) = subst (IsWordOver braid.letters) e over in
    let count : suc (length u) ≡ suc m = sym (pushed_length u b) ∙ ap length (sym e) ∙ size in
    record {
      front = u;
      last = b;
      whole = e;
      size = omega (arith, count);
      over = word_over_front braid.letters u (b ∷ []) all;
      letter = (word_over_back braid.letters u (b ∷ []) all).0;
      but_last_is = ap but_last e ∙ but_last-push u b;
    }

pub record HasFirst (braid : BraidValue) (m : ℕ) (w : List ℕ) : Type 0 where
  pub first : ℕ
  pub back : List ℕ
  pub whole : w ≡ first ∷ back
  pub size : length back ≡ m
  pub over : IsWordOver braid.letters back
  pub letter : IsLetter braid first
  pub drop_is : drop 1 w ≡ back

pub has_first : (braid : BraidValue) (m : ℕ) (w : List ℕ) → length w ≡ suc m → IsWordOver braid.letters w → HasFirst braid m w
has_first braid m [] size over = absurd (omega arith)
has_first braid m (a ∷ w) size over = record { first = a; back = w; whole = refl; size = omega arith; over = over.1; letter = over.0; drop_is = refl }

-- ---- words of lower blocks

pub lower_words_short : (braid : BraidValue) (m : ℕ) (g : List ℕ) (b : ℕ) (ws : List (List ℕ)) → m ≤ WORD_LIMIT → ws ≡ lower_basis braid m g b → AllByRecursion (λ w. length w < WORD_LIMIT) ws
lower_words_short braid m g b ws most e =
    subst (AllByRecursion (λ w. length w < WORD_LIMIT)) (sym e)
    (all_of_entries (λ w. length w < WORD_LIMIT) (lower_basis braid m g b) (lower_word_is_short braid m g b most))

left_word_size : (braid : BraidValue) (m : ℕ) (g : List ℕ) (a : ℕ) (v : List ℕ) → Contains (left_lower_basis braid m g a) v → length v < m
unfolding left_lower_basis
left_word_size braid zero g a v i = absurd (contains_none v i)
left_word_size braid (suc m) g a v i = let (j, e) = from_left_lower_basis braid m g a v i in let from : (length v ≡ m) × IsWordOver braid.letters v × (is_least is_killed braid v ≡ true) = from_basis is_killed braid m v j in omega (arith, from.0)

pub left_words_short : (braid : BraidValue) (m : ℕ) (g : List ℕ) (a : ℕ) (ws : List (List ℕ)) → m ≤ WORD_LIMIT → ws ≡ left_lower_basis braid m g a → AllByRecursion (λ w. length w < WORD_LIMIT) ws
left_words_short braid m g a ws most e =
    subst (AllByRecursion (λ w. length w < WORD_LIMIT)) (sym e)
    (all_of_entries (λ w. length w < WORD_LIMIT) (left_lower_basis braid m g a) (λ v i. let less : length v < m = left_word_size braid m g a v i in omega (arith, less, most)))

-- ---- listed words

pub listed_words_rise : (braid : BraidValue) (m : ℕ) (g : List ℕ) → IsRising (listed_words braid m g)
unfolding listed_words
listed_words_rise braid m g = rising-filter (λ w. has_product braid g w && is_listed braid w) (words braid.letters m) (words_rise braid.letters m)

-- what holds of a listed word
pub record IsListedWord (braid : BraidValue) (m : ℕ) (g w : List ℕ) : Type 0 where
  pub size : length w ≡ m
  pub over : IsWordOver braid.letters w
  pub product : product_of braid w ≡ g
  pub least : (is_least is_killed braid (but_last w) ≡ true) ⊎ (is_least is_killed braid (drop 1 w) ≡ true)

pub from_listed : (braid : BraidValue) (m : ℕ) (g w : List ℕ) → Contains (listed_words braid m g) w → IsListedWord braid m g w
unfolding listed_words
from_listed braid m g w i =
    let (j, h) = from_filter (λ v. has_product braid g v && is_listed braid v) w (words braid.letters m) i in
    let from : (length w ≡ m) × IsWordOver braid.letters w = from_words braid.letters m w j in
    let both : (has_product braid g w ≡ true) × (is_listed braid w ≡ true) = and_parts (has_product braid g w) (is_listed braid w) h in
    record { size = from.0; over = from.1; product = product_is braid g w both.0; least = or_cases (is_least is_killed braid (but_last w)) (is_least is_killed braid (drop 1 w)) both.1 }

pub in_listed : (braid : BraidValue) (m : ℕ) (g w : List ℕ) → IsListedWord braid m g w → Contains (listed_words braid m g) w
unfolding listed_words
in_listed braid m g w h =
    in_filter (λ v. has_product braid g v && is_listed braid v) w (words braid.letters m) (in_words braid.letters m w h.size h.over)
    (both_true (has_product_is braid g w h.product)
    (elim h.least [
      | inl l ↦ or_left (is_least is_killed braid (but_last w)) (is_least is_killed braid (drop 1 w)) l
      | inr l ↦ or_right (is_least is_killed braid (but_last w)) (is_least is_killed braid (drop 1 w)) l
    ]))

-- `u b` for u of the lower block by b, and `a v` for v of the left lower block by a
pub right_word : (braid : BraidValue) → IsBraid braid → (m : ℕ) (g : List ℕ) → length g ≡ braid.letters → (b : ℕ) → IsLetter braid b → (u : List ℕ) → Contains (lower_basis braid (suc m) g b) u →
    IsListedWord braid (suc m) g (u ++ b ∷ []) × (is_least is_killed braid u ≡ true)
right_word braid is m g size b lb u i =
    let (j, e) = from_lower_basis braid is m g size b lb u i in
    let from : (length u ≡ m) × IsWordOver braid.letters u × (is_least is_killed braid u ≡ true) = from_basis is_killed braid m u j in (
      record {
        size = pushed_length u b ∙ ap suc from.0;
        over = pushed_over braid.letters u b from.1 lb;
        product = e;
        least = inl (ap (is_least is_killed braid) (but_last-push u b) ∙ from.2);
      },
      from.2,
    )

pub left_word : (braid : BraidValue) (m : ℕ) (g : List ℕ) (a : ℕ) → IsLetter braid a → (v : List ℕ) → Contains (left_lower_basis braid (suc m) g a) v → IsListedWord braid (suc m) g (a ∷ v) × (is_least is_killed braid v ≡ true)
left_word braid m g a la v i =
    let (j, e) = from_left_lower_basis braid m g a v i in
    let from : (length v ≡ m) × IsWordOver braid.letters v × (is_least is_killed braid v ≡ true) = from_basis is_killed braid m v j in (record { size = ap suc from.0; over = (la, from.1); product = e; least = inr from.2 }, from.2)

-- a listed word that is least without its last letter is `u b` for u of the lower block by b, and so to the left
pub from_right_word : (braid : BraidValue) → IsBraid braid → (m : ℕ) (g w : List ℕ) → IsListedWord braid (suc m) g w → is_least is_killed braid (but_last w) ≡ true →
    (b : ℕ) × IsLetter braid b × Contains (lower_basis braid (suc m) g b) (but_last w) × (w ≡ but_last w ++ b ∷ [])
from_right_word braid is m g w h least =
    let l : HasLast braid m w = has_last braid m w h.size h.over in
    let whole : w ≡ but_last w ++ l.last ∷ [] = l.whole ∙ ap (λ u. u ++ l.last ∷ []) (sym l.but_last_is) in (
      l.last,
      l.letter,
      in_lower_basis braid is m g l.last l.letter (but_last w)
          (in_basis is_killed braid m (but_last w) (ap length l.but_last_is ∙ l.size) (subst (IsWordOver braid.letters) (sym l.but_last_is) l.over) least) (ap (product_of braid) (sym whole) ∙ h.product),
      whole,
    )

pub from_left_word : (braid : BraidValue) (m : ℕ) (g w : List ℕ) → IsListedWord braid (suc m) g w → is_least is_killed braid (drop 1 w) ≡ true →
    (a : ℕ) × IsLetter braid a × Contains (left_lower_basis braid (suc m) g a) (drop 1 w) × (w ≡ a ∷ drop 1 w)
from_left_word braid m g w h least =
    let f : HasFirst braid m w = has_first braid m w h.size h.over in
    let whole : w ≡ f.first ∷ drop 1 w = f.whole ∙ ap (λ v. f.first ∷ v) (sym f.drop_is) in (
      f.first,
      f.letter,
      in_left_lower_basis braid m g f.first (drop 1 w)
          (in_basis is_killed braid m (drop 1 w) (ap length f.drop_is ∙ f.size) (subst (IsWordOver braid.letters) (sym f.drop_is) f.over) least) (ap (product_of braid) (sym whole) ∙ h.product),
      whole,
    )

-- ---- the listed words by their last and by their first letter

is_right_word : (braid : BraidValue) (b : ℕ) (u : List ℕ) → is_least is_killed braid u ≡ true → is_right braid b (u ++ b ∷ []) ≡ true
is_right_word braid b u least =
    both_true (ap (is_least is_killed braid) (but_last-push u b) ∙ least) (ap (λ v. same_letters (v ++ b ∷ []) (u ++ b ∷ [])) (but_last-push u b) ∙ same_itself (u ++ b ∷ []))

pub right_of_listed_at : (braid : BraidValue) → IsBraid braid → (m : ℕ) (g : List ℕ) → length g ≡ braid.letters → (b : ℕ) → IsLetter braid b →
    filter (is_right braid b) (listed_words braid (suc m) g) ≡ map (λ u. u ++ b ∷ []) (lower_basis braid (suc m) g b)
right_of_listed_at braid is m g size b lb =
    rising_unique (filter (is_right braid b) (listed_words braid (suc m) g)) (map (λ u. u ++ b ∷ []) (lower_basis braid (suc m) g b))
    (rising-filter (is_right braid b) (listed_words braid (suc m) g) (listed_words_rise braid (suc m) g))
    (rising-map (λ u. u ++ b ∷ []) (lower_basis braid (suc m) g b) (λ u v i j less. push_less u v b b (same_size u v i j) less) (lower_basis_rises braid (suc m) g b))
    (λ w i.
    let (j, h) = from_filter (is_right braid b) w (listed_words braid (suc m) g) i in
    let listed : IsListedWord braid (suc m) g w = from_listed braid (suc m) g w j in
    let both : (is_least is_killed braid (but_last w) ≡ true) × (same_letters (but_last w ++ b ∷ []) w ≡ true) = and_parts (is_least is_killed braid (but_last w)) (same_letters (but_last w ++ b ∷ []) w) h in
    let e : but_last w ++ b ∷ [] ≡ w = same_text (but_last w ++ b ∷ []) w (sym both.1) in
    let l : HasLast braid m w = has_last braid m w listed.size listed.over in
    subst (Contains (map (λ u. u ++ b ∷ []) (lower_basis braid (suc m) g b))) e
    (in_map (λ u. u ++ b ∷ []) (but_last w) (lower_basis braid (suc m) g b)
    (in_lower_basis braid is m g b lb (but_last w)
    (in_basis is_killed braid m (but_last w) (ap length l.but_last_is ∙ l.size) (subst (IsWordOver braid.letters) (sym l.but_last_is) l.over) both.0) (ap (product_of braid) e ∙ listed.product))))
    (λ w i.
    let (u, j, e) = from_map (λ u. u ++ b ∷ []) w (lower_basis braid (suc m) g b) i in
    let (listed, least) = right_word braid is m g size b lb u j in
    subst (Contains (filter (is_right braid b) (listed_words braid (suc m) g))) (sym e)
    (in_filter (is_right braid b) (u ++ b ∷ []) (listed_words braid (suc m) g) (in_listed braid (suc m) g (u ++ b ∷ []) listed) (is_right_word braid b u least)))
  where
    of_size : (u : List ℕ) → Contains (lower_basis braid (suc m) g b) u → length u ≡ m
    of_size u i = let (j, e) = from_lower_basis braid is m g size b lb u i in let from : (length u ≡ m) × IsWordOver braid.letters u × (is_least is_killed braid u ≡ true) = from_basis is_killed braid m u j in from.0

    same_size : (u v : List ℕ) → Contains (lower_basis braid (suc m) g b) u → Contains (lower_basis braid (suc m) g b) v → length u ≡ length v
    same_size u v i j = of_size u i ∙ sym (of_size v j)

pub left_of_listed_at : (braid : BraidValue) (m : ℕ) (g : List ℕ) (a : ℕ) → IsLetter braid a → filter (is_left braid a) (listed_words braid (suc m) g) ≡ map (λ v. a ∷ v) (left_lower_basis braid (suc m) g a)
left_of_listed_at braid m g a la =
    rising_unique (filter (is_left braid a) (listed_words braid (suc m) g)) (map (λ v. a ∷ v) (left_lower_basis braid (suc m) g a))
    (rising-filter (is_left braid a) (listed_words braid (suc m) g) (listed_words_rise braid (suc m) g))
    (rising-map (λ v. a ∷ v) (left_lower_basis braid (suc m) g a) (λ u v i j less. prepend_less a u v (of_size u i ∙ sym (of_size v j)) less) (left_lower_basis_rises braid (suc m) g a))
    (λ w i.
    let (j, h) = from_filter (is_left braid a) w (listed_words braid (suc m) g) i in
    let listed : IsListedWord braid (suc m) g w = from_listed braid (suc m) g w j in
    let both : (is_least is_killed braid (drop 1 w) ≡ true) × (same_letters (a ∷ drop 1 w) w ≡ true) = and_parts (is_least is_killed braid (drop 1 w)) (same_letters (a ∷ drop 1 w) w) h in
    let e : a ∷ drop 1 w ≡ w = same_text (a ∷ drop 1 w) w (sym both.1) in
    let f : HasFirst braid m w = has_first braid m w listed.size listed.over in
    subst (Contains (map (λ v. a ∷ v) (left_lower_basis braid (suc m) g a))) e
    (in_map (λ v. a ∷ v) (drop 1 w) (left_lower_basis braid (suc m) g a)
    (in_left_lower_basis braid m g a (drop 1 w)
    (in_basis is_killed braid m (drop 1 w) (ap length f.drop_is ∙ f.size) (subst (IsWordOver braid.letters) (sym f.drop_is) f.over) both.0) (ap (product_of braid) e ∙ listed.product))))
    (λ w i.
    let (v, j, e) = from_map (λ v. a ∷ v) w (left_lower_basis braid (suc m) g a) i in
    let (listed, least) = left_word braid m g a la v j in
    subst (Contains (filter (is_left braid a) (listed_words braid (suc m) g))) (sym e)
    (in_filter (is_left braid a) (a ∷ v) (listed_words braid (suc m) g) (in_listed braid (suc m) g (a ∷ v) listed) (both_true least (same_itself (a ∷ v)))))
  where
    of_size : (v : List ℕ) → Contains (left_lower_basis braid (suc m) g a) v → length v ≡ m
    of_size v i = let (j, e) = from_left_lower_basis braid m g a v i in let from : (length v ≡ m) × IsWordOver braid.letters v × (is_least is_killed braid v ≡ true) = from_basis is_killed braid m v j in from.0

pub right_of_listed : (braid : BraidValue) → IsBraid braid → (m : ℕ) (g : List ℕ) → 1 ≤ m → length g ≡ braid.letters → (b : ℕ) → IsLetter braid b → filter (is_right braid b) (listed_words braid m g) ≡ map (λ u. u ++ b ∷ []) (lower_basis braid m g b)
right_of_listed braid is zero g some size b lb = absurd (omega arith)
right_of_listed braid is (suc m) g some size b lb = right_of_listed_at braid is m g size b lb

pub left_of_listed : (braid : BraidValue) (m : ℕ) (g : List ℕ) → 1 ≤ m → (a : ℕ) → IsLetter braid a → filter (is_left braid a) (listed_words braid m g) ≡ map (λ v. a ∷ v) (left_lower_basis braid m g a)
left_of_listed braid zero g some a la = absurd (omega arith)
left_of_listed braid (suc m) g some a la = left_of_listed_at braid m g a la

-- ---- new words

is_new_word : (braid : BraidValue) (a : ℕ) (w : List ℕ) → is_new is_killed braid (a ∷ w) ≡ (is_least is_killed braid (but_last (a ∷ w)) && is_least is_killed braid (drop 1 (a ∷ w)))
unfolding is_new
is_new_word braid a w = ap (λ u. is_least is_killed braid u && is_least is_killed braid w) (sym (but_last-front a w))

-- the new words are the listed words that are least both ways
pub new_of_listed : (braid : BraidValue) (m : ℕ) (g : List ℕ) → 1 ≤ m → filter (λ w. is_least is_killed braid (but_last w) && is_least is_killed braid (drop 1 w)) (listed_words braid m g) ≡ block_new_words braid m g
unfolding block_new_words new_words
new_of_listed braid m g some =
    rising_unique (filter test (listed_words braid m g)) (filter (has_product braid g) (filter (is_new is_killed braid) (words braid.letters m)))
    (rising-filter test (listed_words braid m g) (listed_words_rise braid m g)) (rising-filter (has_product braid g) (filter (is_new is_killed braid) (words braid.letters m)) (rising-filter (is_new is_killed braid) (words braid.letters m) (words_rise braid.letters m)))
    (λ w i.
    let (j, h) = from_filter test w (listed_words braid m g) i in
    let listed : IsListedWord braid m g w = from_listed braid m g w j in
    in_filter (has_product braid g) w (filter (is_new is_killed braid) (words braid.letters m))
    (in_filter (is_new is_killed braid) w (words braid.letters m) (in_words braid.letters m w listed.size listed.over) (same w listed.size ∙ h))
    (has_product_is braid g w listed.product))
    (λ w i.
    let (j, p) = from_filter (has_product braid g) w (filter (is_new is_killed braid) (words braid.letters m)) i in
    let (k, new) = from_filter (is_new is_killed braid) w (words braid.letters m) j in
    let from : (length w ≡ m) × IsWordOver braid.letters w = from_words braid.letters m w k in
    let h : test w ≡ true = sym (same w from.0) ∙ new in
    in_filter test w (listed_words braid m g)
    (in_listed braid m g w (record { size = from.0; over = from.1; product = product_is braid g w p; least = inl (and_parts (is_least is_killed braid (but_last w)) (is_least is_killed braid (drop 1 w)) h).0 })) h)
  where
    test : List ℕ → Bool
    test w = is_least is_killed braid (but_last w) && is_least is_killed braid (drop 1 w)

    same : (w : List ℕ) → length w ≡ m → is_new is_killed braid w ≡ test w
    same [] size = absurd (omega arith)
    same (a ∷ w) size = is_new_word braid a w
