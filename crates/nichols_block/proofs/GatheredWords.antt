-- Words that were listed in order, each taken once, with what is known of it.
use Rattle.std.proofs.Common.{◌≡◌, ℕ, zero, suc, ◌+◌, ◌<◌, ◌≤◌, Bool, true, false, cond, List, [], ◌∷◌, ◌++◌, map, length, take, drop, refl, sym, ◌∙◌, ap, ap₂, subst, arith, append_assoc, ◌⊎◌, inl, inr, Option, None, Some, MatchOption, get_or}
use Rattle.std.specs.Prelude.{◌&&◌, is_some}
use Rattle.std.specs.Option.{option_or}
use Rattle.std.specs.List.{flat_map, filter, AllByRecursion, Contains}
use Rattle.std.specs.List.Sorted.{IsPermutation, IsSortedByKey}
use Rattle.std.specs.Ordering.{is_eq}
use Rattle.std.specs.declared.cmp.Ordering.{Ordering}
use Rattle.std.specs.declared.cmp.Ordering.TheVariants.{Less, Equal, Greater}
use Rattle.std.proofs.lemmas.Grind.{flat_map-append}
use Rattle.std.proofs.lemmas.List.{append-nil, append_cancel_left, take_all}
use Rattle.std.proofs.lemmas.List.Sorted.{Contains-permutation, IsPermutation-sym}
use Rattle.nichols_tensor.specs.Positions.{word_at}
use Rattle.nichols_tensor.specs.Words.{up_to}
use Rattle.nichols_tensor.specs.WordOrder.{word_cmp, IsRising}
use Rattle.nichols_tensor.proofs.Entries.{contains_none, contains_first, contains_later, contains_cases, in_map, from_map, in_flat_map, from_flat_map}
use Rattle.nichols_tensor.proofs.Letters.{in_up_to, from_up_to}
use Rattle.nichols_tensor.proofs.Order.{same_word}
use Rattle.nichols_tensor.proofs.Ordered.{before_all}
use Rattle.nichols_tensor.proofs.Over.{all_at}
use Rattle.nichols_tensor.proofs.Rising.{position_of, rising_unique, word_at_is_in}
use Rattle.nichols_tensor.proofs.Tests.{same_answer, all_of_entries}
use Rattle.nichols_braid.specs.Braid.{BraidValue, IsBraid}
use Rattle.nichols_braid.specs.Kernel.{is_killed}
use Rattle.nichols_braid.specs.Least.{is_least}
use Rattle.nichols_value.specs.Block.{left_lower_basis, lower_basis}
use Rattle.nichols_block.specs.declared.words.Listed.{Listed}
use Rattle.nichols_block.specs.Words.{AreListed, HasBackPlace, HasFrontPlace, IsBackPlace, IsFrontPlace, but_last, entries_from, left_entries, left_entry, listed_words, right_entries, right_entry, block_new_words}
use Rattle.nichols_block.specs.Gathered.{gathered_all, gathered_from, together, word_in}
use Rattle.nichols_block.proofs.ListedWords.{IsListedWord, from_left_word, from_listed, from_right_word, in_listed, left_word, listed_words_rise, right_word, but_last-push, new_of_listed}
use Rattle.std.proofs.lemmas.List.Elements.{Contains-append_left, Contains-append_right, Contains-append_cases}
use Rattle.nichols_tensor.specs.Gathered.{are_one, gathered_by}
use Rattle.nichols_tensor.proofs.Gathered.{gathered_rise}

-- ---- one letter more

entries_more : (f : ℕ → List Listed) (n : ℕ) → flat_map f (up_to (suc n)) ≡ flat_map f (up_to n) ++ f (suc n)
entries_more f n = flat_map-append f (up_to n) (suc n ∷ []) ∙ ap (λ l. flat_map f (up_to n) ++ l) (append-nil (f (suc n)))

pub right_entries_start : (braid : BraidValue) (m : ℕ) (g : List ℕ) → right_entries braid m g 0 ≡ []
unfolding right_entries
right_entries_start braid m g = refl

pub right_entries_more : (braid : BraidValue) (m : ℕ) (g : List ℕ) (n b : ℕ) (ws : List (List ℕ)) (old new : List Listed) → b ≡ suc n → ws ≡ lower_basis braid m g b → old ≡ right_entries braid m g n → new ≡ old ++ entries_from (right_entry b) 0 ws →
    new ≡ right_entries braid m g b
unfolding right_entries
right_entries_more braid m g n b ws old new e same before put =
    put ∙ ap₂ (λ l us. l ++ entries_from (right_entry b) 0 us) before same
    ∙ ap (λ c. right_entries braid m g n ++ entries_from (right_entry c) 0 (lower_basis braid m g c)) e
    ∙ sym (entries_more (λ c. entries_from (right_entry c) 0 (lower_basis braid m g c)) n) ∙ ap (right_entries braid m g) (sym e)

pub left_entries_start : (braid : BraidValue) (m : ℕ) (g : List ℕ) (old : List Listed) → old ≡ old ++ left_entries braid m g 0
unfolding left_entries
left_entries_start braid m g old = sym (append-nil old)

pub left_entries_more : (braid : BraidValue) (m : ℕ) (g : List ℕ) (n a : ℕ) (ws : List (List ℕ)) (first old new : List Listed) → a ≡ suc n → ws ≡ left_lower_basis braid m g a → old ≡ first ++ left_entries braid m g n →
    new ≡ old ++ entries_from (left_entry a) 0 ws → new ≡ first ++ left_entries braid m g a
unfolding left_entries
left_entries_more braid m g n a ws first old new e same before put =
    put ∙ ap₂ (λ l us. l ++ entries_from (left_entry a) 0 us) before same ∙ append_assoc first (left_entries braid m g n) (entries_from (left_entry a) 0 (left_lower_basis braid m g a))
    ∙ ap (λ l. first ++ l)
    (ap (λ c. left_entries braid m g n ++ entries_from (left_entry c) 0 (left_lower_basis braid m g c)) e
    ∙ sym (entries_more (λ c. entries_from (left_entry c) 0 (left_lower_basis braid m g c)) n) ∙ ap (left_entries braid m g) (sym e))

-- ---- entries by their places

from_entries : (f : ℕ → List ℕ → Listed) (k : ℕ) (ws : List (List ℕ)) (l : Listed) → Contains (entries_from f k ws) l → (i : ℕ) × (i < length ws) × (l ≡ f (k + i) (word_at ws i))
unfolding entries_from
from_entries f k [] l i = absurd (contains_none l i)
from_entries f k (w ∷ ws) l i =
    elim (contains_cases (f k w) (entries_from f (suc k) ws) l i) [
      | inl same ↦ (0, omega arith, same ∙ ap (λ n. f n w) (let e : k ≡ k + 0 = omega arith in e))
      | inr later ↦ let (p, less, e) = from_entries f (suc k) ws l later in (suc p, omega (arith, less), e ∙ ap (λ n. f n (word_at ws p)) (let q : suc k + p ≡ k + suc p = omega arith in q))
    ]

in_entries : (f : ℕ → List ℕ → Listed) (k : ℕ) (ws : List (List ℕ)) (i : ℕ) → i < length ws → Contains (entries_from f k ws) (f (k + i) (word_at ws i))
unfolding entries_from
in_entries f k [] i less = absurd (omega arith)
in_entries f k (w ∷ ws) zero less = subst (λ n. Contains (f k w ∷ entries_from f (suc k) ws) (f n w)) (let e : k ≡ k + 0 = omega arith in e) (contains_first (f k w) (entries_from f (suc k) ws))
in_entries f k (w ∷ ws) (suc i) less =
    subst (λ n. Contains (f k w ∷ entries_from f (suc k) ws) (f n (word_at ws i))) (let e : suc k + i ≡ k + suc i = omega arith in e)
    (contains_later (f k w) (entries_from f (suc k) ws) (f (suc k + i) (word_at ws i)) (in_entries f (suc k) ws i (omega (arith, less))))

-- one entry more
pub entries_more_by_one : (f : ℕ → List ℕ → Listed) (k : ℕ) (ws : List (List ℕ)) (i : ℕ) (w : List ℕ) → i < length ws → w ≡ get_or ws i w → entries_from f k (take (suc i) ws) ≡ entries_from f k (take i ws) ++ f (k + i) w ∷ []
unfolding entries_from
entries_more_by_one f k [] i w less e = absurd (omega arith)
entries_more_by_one f k (u ∷ ws) zero w less e = ap₂ (λ n v. f n v ∷ []) (let q : k ≡ k + 0 = omega arith in q) (sym e)
entries_more_by_one f k (u ∷ ws) (suc i) w less e =
    ap (λ l. f k u ∷ l) (entries_more_by_one f (suc k) ws i w (omega (arith, less)) e ∙ ap (λ n. entries_from f (suc k) (take i ws) ++ f n w ∷ []) (let q : suc k + i ≡ k + suc i = omega arith in q))

-- entries that are put behind others, one by one
pub put_start : (f : ℕ → List ℕ → Listed) (first now : List Listed) → now ≡ first → now ≡ first ++ entries_from f 0 []
unfolding entries_from
put_start f first now e = e ∙ sym (append-nil first)

pub put_more : (f : ℕ → List ℕ → Listed) (ws : List (List ℕ)) (i : ℕ) (w : List ℕ) (first old new : List Listed) → i < length ws → w ≡ get_or ws i w → old ≡ first ++ entries_from f 0 (take i ws) → new ≡ old ++ f i w ∷ [] → new ≡ first ++ entries_from f 0 (take (i + 1) ws)
put_more f ws i w first old new less at before put =
    put ∙ ap (λ l. l ++ f i w ∷ []) before ∙ append_assoc first (entries_from f 0 (take i ws)) (f i w ∷ [])
    ∙ ap (λ l. first ++ l)
    (ap (λ n. entries_from f 0 (take i ws) ++ f n w ∷ []) (let q : i ≡ 0 + i = omega arith in q) ∙ sym (entries_more_by_one f 0 ws i w less at)
    ∙ ap (λ n. entries_from f 0 (take n ws)) (let q : suc i ≡ i + 1 = omega arith in q))

-- ---- what is known of entries

-- a word with a letter behind has that letter alone behind
front_place : (words : ℕ → List (List ℕ)) (b k : ℕ) (u : List ℕ) → k < length (words b) → u ≡ word_at (words b) k → IsFrontPlace words (u ++ b ∷ []) k
front_place words b k u less e c v same =
    let fronts : u ≡ v = sym (but_last-push u b) ∙ ap but_last same ∙ but_last-push v c in
    let lasts : b ∷ [] ≡ c ∷ [] = append_cancel_left u (b ∷ []) (c ∷ []) (same ∙ ap (λ x. x ++ c ∷ []) (sym fronts)) in
    let letters : b ≡ c = cc in
    (subst (λ x. k < length (words x)) letters less, ap (λ x. word_at (words x) k) (sym letters) ∙ sym e ∙ fronts)

back_place : (words : ℕ → List (List ℕ)) (a k : ℕ) (v : List ℕ) → k < length (words a) → v ≡ word_at (words a) k → IsBackPlace words (a ∷ v) k
back_place words a k v less e c u same =
    let letters : a ≡ c = cc in
    let backs : v ≡ u = cc in
    (subst (λ x. k < length (words x)) letters less, ap (λ x. word_at (words x) k) (sym letters) ∙ sym e ∙ backs)

pub record IsKnown (braid : BraidValue) (m : ℕ) (g : List ℕ) (l : Listed) : Type 0 where
  pub listed : IsListedWord braid m g l.word
  pub right : is_some l.right ≡ true → is_least is_killed braid (but_last l.word) ≡ true
  pub left : is_some l.left ≡ true → is_least is_killed braid (drop 1 l.word) ≡ true
  pub front : HasFrontPlace braid m g l
  pub back : HasBackPlace braid m g l

right_known : (braid : BraidValue) → IsBraid braid → (m : ℕ) (g : List ℕ) → length g ≡ braid.letters → (l : Listed) → Contains (right_entries braid (suc m) g braid.letters) l → IsKnown braid (suc m) g l
unfolding right_entries
right_known braid is m g size l i =
    let (b, j, k) = from_flat_map (λ c. entries_from (right_entry c) 0 (lower_basis braid (suc m) g c)) l (up_to braid.letters) i in
    let (p, less, e) = from_entries (right_entry b) 0 (lower_basis braid (suc m) g b) l k in
    let (listed, least) = right_word braid is m g size b (from_up_to braid.letters b j) (word_at (lower_basis braid (suc m) g b) p) (word_at_is_in (lower_basis braid (suc m) g b) p less) in
    subst (IsKnown braid (suc m) g) (sym (e ∙ ap (λ n. right_entry b n (word_at (lower_basis braid (suc m) g b) p)) (let q : 0 + p ≡ p = omega arith in q)))
    (record {
      listed = listed;
      right = λ r. ap (is_least is_killed braid) (but_last-push (word_at (lower_basis braid (suc m) g b) p) b) ∙ least;
      left = λ r. cc;
      front = front_place (lower_basis braid (suc m) g) b p (word_at (lower_basis braid (suc m) g b) p) less refl;
      back = tt;
    })

left_known : (braid : BraidValue) (m : ℕ) (g : List ℕ) (l : Listed) → Contains (left_entries braid (suc m) g braid.letters) l → IsKnown braid (suc m) g l
unfolding left_entries
left_known braid m g l i =
    let (a, j, k) = from_flat_map (λ c. entries_from (left_entry c) 0 (left_lower_basis braid (suc m) g c)) l (up_to braid.letters) i in
    let (p, less, e) = from_entries (left_entry a) 0 (left_lower_basis braid (suc m) g a) l k in
    let (listed, least) = left_word braid m g a (from_up_to braid.letters a j) (word_at (left_lower_basis braid (suc m) g a) p) (word_at_is_in (left_lower_basis braid (suc m) g a) p less) in
    subst (IsKnown braid (suc m) g) (sym (e ∙ ap (λ n. left_entry a n (word_at (left_lower_basis braid (suc m) g a) p)) (let q : 0 + p ≡ p = omega arith in q)))
    (record {
      listed = listed;
      right = λ r. cc;
      left = λ r. least;
      front = tt;
      back = back_place (left_lower_basis braid (suc m) g) a p (word_at (left_lower_basis braid (suc m) g a) p) less refl;
    })

-- the entries have each listed word
right_found : (braid : BraidValue) → IsBraid braid → (m : ℕ) (g w : List ℕ) → IsListedWord braid (suc m) g w → is_least is_killed braid (but_last w) ≡ true →
    (l : Listed) × Contains (right_entries braid (suc m) g braid.letters) l × (l.word ≡ w) × (is_some l.right ≡ true)
unfolding right_entries
right_found braid is m g w listed least =
    let (b, lb, i, e) = from_right_word braid is m g w listed least in
    let (p, less, here) = position_of (lower_basis braid (suc m) g b) (but_last w) i in (
      right_entry b (0 + p) (word_at (lower_basis braid (suc m) g b) p),
      in_flat_map (λ c. entries_from (right_entry c) 0 (lower_basis braid (suc m) g c)) b (up_to braid.letters) (right_entry b (0 + p) (word_at (lower_basis braid (suc m) g b) p)) (in_up_to braid.letters b lb)
          (in_entries (right_entry b) 0 (lower_basis braid (suc m) g b) p less),
      ap (λ u. u ++ b ∷ []) here ∙ sym e,
      refl,
    )

left_found : (braid : BraidValue) (m : ℕ) (g w : List ℕ) → IsListedWord braid (suc m) g w → is_least is_killed braid (drop 1 w) ≡ true →
    (l : Listed) × Contains (left_entries braid (suc m) g braid.letters) l × (l.word ≡ w) × (is_some l.left ≡ true)
unfolding left_entries
left_found braid m g w listed least =
    let (a, la, i, e) = from_left_word braid m g w listed least in
    let (p, less, here) = position_of (left_lower_basis braid (suc m) g a) (drop 1 w) i in (
      left_entry a (0 + p) (word_at (left_lower_basis braid (suc m) g a) p),
      in_flat_map (λ c. entries_from (left_entry c) 0 (left_lower_basis braid (suc m) g c)) a (up_to braid.letters) (left_entry a (0 + p) (word_at (left_lower_basis braid (suc m) g a) p)) (in_up_to braid.letters a la)
          (in_entries (left_entry a) 0 (left_lower_basis braid (suc m) g a) p less),
      ap (λ v. a ∷ v) here ∙ sym e,
      refl,
    )

-- ---- one of two

some_cases : (o p : Option ℕ) → is_some (option_or o p) ≡ true → (is_some o ≡ true) ⊎ (is_some p ≡ true)
some_cases None p e = inr e
some_cases (Some k) p e = inl refl

some_left : (o p : Option ℕ) → is_some o ≡ true → is_some (option_or o p) ≡ true
some_left None p e = cc
some_left (Some k) p e = refl

some_right : (o p : Option ℕ) → is_some p ≡ true → is_some (option_or o p) ≡ true
some_right None p e = e
some_right (Some k) p e = refl

one_of : (P : ℕ → Type 0) (o p : Option ℕ) → MatchOption o (Unit {0}) P → MatchOption p (Unit {0}) P → MatchOption (option_or o p) (Unit {0}) P
one_of P None p h k = k
one_of P (Some n) p h k = h

-- ---- entries taken together

known_together : (braid : BraidValue) (m : ℕ) (g : List ℕ) (last l : Listed) → l.word ≡ last.word → IsKnown braid m g last → IsKnown braid m g l → IsKnown braid m g (together last l)
known_together braid m g last l e h k = record {
  listed = h.listed;
  right = λ r. elim (some_cases last.right l.right r) [ inl t ↦ h.right t | inr t ↦ ap (λ w. is_least is_killed braid (but_last w)) (sym e) ∙ k.right t ];
  left = λ r. elim (some_cases last.left l.left r) [ inl t ↦ h.left t | inr t ↦ ap (λ w. is_least is_killed braid (drop 1 w)) (sym e) ∙ k.left t ];
  front = one_of (IsFrontPlace (lower_basis braid m g) last.word) last.right l.right h.front (subst (λ w. MatchOption l.right (Unit {0}) (IsFrontPlace (lower_basis braid m g) w)) e k.front);
  back = one_of (IsBackPlace (left_lower_basis braid m g) last.word) last.left l.left h.back (subst (λ w. MatchOption l.left (Unit {0}) (IsBackPlace (left_lower_basis braid m g) w)) e k.back);
}

known-gathered : (braid : BraidValue) (m : ℕ) (g : List ℕ) (last : Listed) (ls : List Listed) → IsKnown braid m g last → AllByRecursion (IsKnown braid m g) ls → AllByRecursion (IsKnown braid m g) (gathered_from last ls)
unfolding gathered_by
known-gathered braid m g last [] h k = (h, tt)
known-gathered braid m g last (l ∷ ls) h k =
    at (word_cmp l.word last.word) refl (λ e. known-gathered braid m g (together last l) ls (known_together braid m g last l e h k.0) k.1) (known-gathered braid m g l ls k.0 k.1)
  where
    at : (o : Ordering) → word_cmp l.word last.word ≡ o → (l.word ≡ last.word → AllByRecursion (IsKnown braid m g) (gathered_from (together last l) ls)) → AllByRecursion (IsKnown braid m g) (gathered_from l ls) →
        AllByRecursion (IsKnown braid m g) (cond (is_eq o) (gathered_from (together last l) ls) (last ∷ gathered_from l ls))
    at Less e same other = (h, other)
    at Greater e same other = (h, other)
    at Equal e same other = same (same_word l.word last.word e)

-- some entry of the list has the word of e, and knows what e knows
pub record Holds (ls : List Listed) (e : Listed) : Type 0 where
  pub entry : Listed
  pub there : Contains ls entry
  pub word : entry.word ≡ e.word
  pub right : is_some e.right ≡ true → is_some entry.right ≡ true
  pub left : is_some e.left ≡ true → is_some entry.left ≡ true

holds_later : (x : Listed) (ls : List Listed) (e : Listed) → Holds ls e → Holds (x ∷ ls) e
holds_later x ls e h = record { entry = h.entry; there = contains_later x ls h.entry h.there; word = h.word; right = h.right; left = h.left }

holds_first : (ls : List Listed) (e : Listed) → Holds (e ∷ ls) e
holds_first ls e = record { entry = e; there = contains_first e ls; word = refl; right = λ t. t; left = λ t. t }

-- what is held for an entry is held for one that knows less
holds_less : (ls : List Listed) (e d : Listed) → e.word ≡ d.word → (is_some d.right ≡ true → is_some e.right ≡ true) → (is_some d.left ≡ true → is_some e.left ≡ true) → Holds ls e → Holds ls d
holds_less ls e d w r l h = record { entry = h.entry; there = h.there; word = h.word ∙ w; right = λ t. h.right (r t); left = λ t. h.left (l t) }

last-held : (last : Listed) (ls : List Listed) → Holds (gathered_from last ls) last
unfolding gathered_by
last-held last [] = holds_first [] last
last-held last (l ∷ ls) = at (are_one l.word last.word) (last-held (together last l) ls)
  where
    at : (b : Bool) → Holds (gathered_from (together last l) ls) (together last l) → Holds (cond b (gathered_from (together last l) ls) (last ∷ gathered_from l ls)) last
    at true h = holds_less (gathered_from (together last l) ls) (together last l) last refl (some_left last.right l.right) (some_left last.left l.left) h
    at false h = holds_first (gathered_from l ls) last

later-held : (last : Listed) (ls : List Listed) (e : Listed) → Contains ls e → Holds (gathered_from last ls) e
unfolding gathered_by
later-held last [] e i = absurd (contains_none e i)
later-held last (l ∷ ls) e i =
    elim (contains_cases l ls e i) [
      | inl same ↦ subst (Holds (gathered_from last (l ∷ ls))) (sym same) (next (word_cmp l.word last.word) refl (last-held (together last l) ls) (last-held l ls))
      | inr later ↦ at (are_one l.word last.word) (later-held (together last l) ls e later) (later-held l ls e later)
    ]
  where
    next : (o : Ordering) → word_cmp l.word last.word ≡ o → Holds (gathered_from (together last l) ls) (together last l) → Holds (gathered_from l ls) l → Holds (cond (is_eq o) (gathered_from (together last l) ls) (last ∷ gathered_from l ls)) l
    next Less q both own = holds_later last (gathered_from l ls) l own
    next Greater q both own = holds_later last (gathered_from l ls) l own
    next Equal q both own =
        holds_less (gathered_from (together last l) ls) (together last l) l (sym (same_word l.word last.word q)) (some_right last.right l.right) (some_right last.left l.left) both

    at : (b : Bool) → Holds (gathered_from (together last l) ls) e → Holds (gathered_from l ls) e → Holds (cond b (gathered_from (together last l) ls) (last ∷ gathered_from l ls)) e
    at true both own = both
    at false both own = holds_later last (gathered_from l ls) e own

-- ---- all of a list

all-rise : (ls : List Listed) → IsSortedByKey word_in word_cmp ls → IsRising (map word_in (gathered_all ls))
unfolding gathered_all
all-rise [] s = tt
all-rise (l ∷ ls) s = gathered_rise word_in together (λ last x. refl) l ls s

all-known : (braid : BraidValue) (m : ℕ) (g : List ℕ) (ls : List Listed) → AllByRecursion (IsKnown braid m g) ls → AllByRecursion (IsKnown braid m g) (gathered_all ls)
unfolding gathered_all
all-known braid m g [] h = tt
all-known braid m g (l ∷ ls) h = known-gathered braid m g l ls h.0 h.1

all-held : (ls : List Listed) (e : Listed) → Contains ls e → Holds (gathered_all ls) e
unfolding gathered_all
all-held [] e i = absurd (contains_none e i)
all-held (l ∷ ls) e i = elim (contains_cases l ls e i) [ inl same ↦ subst (Holds (gathered_from l ls)) (sym same) (last-held l ls) | inr later ↦ later-held l ls e later ]

-- entries of one word are one, where the words rise
one_entry : (ls : List Listed) (x y : Listed) → IsRising (map word_in ls) → Contains ls x → Contains ls y → x.word ≡ y.word → x ≡ y
one_entry [] x y r i j e = absurd (contains_none x i)
one_entry (l ∷ ls) x y r i j e = at (contains_cases l ls x i) (contains_cases l ls y j) (λ h k. one_entry ls x y r.1 h k e)
  where
    not_both : (z : Listed) → Contains ls z → l.word ≡ z.word → ⊥
    not_both z k same = before_all l.word (map word_in ls) r.0 r.1 (subst (Contains (map word_in ls)) (sym same) (in_map word_in z ls k))

    at : (x ≡ l) ⊎ Contains ls x → (y ≡ l) ⊎ Contains ls y → (Contains ls x → Contains ls y → x ≡ y) → x ≡ y
    at (inl p) (inl q) rest = p ∙ sym q
    at (inl p) (inr k) rest = absurd (not_both y k (ap (λ (z : Listed). z.word) (sym p) ∙ e))
    at (inr k) (inl q) rest = absurd (not_both x k (ap (λ (z : Listed). z.word) (sym q) ∙ sym e))
    at (inr h) (inr k) rest = rest h k

-- ---- the listed words

-- some entry of the list has the word, and knows this of it
record Found (ls : List Listed) (w : List ℕ) (flag : Listed → Bool) : Type 0 where
  entry : Listed
  there : Contains ls entry
  word : entry.word ≡ w
  known : flag entry ≡ true

abbrev all_entries : BraidValue → ℕ → List ℕ → List Listed
all_entries braid m g = right_entries braid m g braid.letters ++ left_entries braid m g braid.letters

known_of_all : (braid : BraidValue) → IsBraid braid → (m : ℕ) (g : List ℕ) → length g ≡ braid.letters → (sorted : List Listed) → IsPermutation sorted (all_entries braid (suc m) g) → AllByRecursion (IsKnown braid (suc m) g) sorted
known_of_all braid is m g size sorted same =
    all_of_entries (IsKnown braid (suc m) g) sorted
    (λ l i.
    elim (Contains-append_cases (right_entries braid (suc m) g braid.letters) (left_entries braid (suc m) g braid.letters) l (Contains-permutation sorted (all_entries braid (suc m) g) l same i)) [
      | inl j ↦ right_known braid is m g size l j
      | inr j ↦ left_known braid m g l j
    ])

right_held : (braid : BraidValue) → IsBraid braid → (m : ℕ) (g : List ℕ) (sorted : List Listed) → IsPermutation (all_entries braid (suc m) g) sorted → (w : List ℕ) → IsListedWord braid (suc m) g w → is_least is_killed braid (but_last w) ≡ true →
    Found (gathered_all sorted) w (λ z. is_some z.right)
right_held braid is m g sorted same w listed least =
    let (l, i, e, r) = right_found braid is m g w listed least in
    let h : Holds (gathered_all sorted) l = all-held sorted l (Contains-permutation (all_entries braid (suc m) g) sorted l same (Contains-append_left (right_entries braid (suc m) g braid.letters) (left_entries braid (suc m) g braid.letters) l i)) in
    record { entry = h.entry; there = h.there; word = h.word ∙ e; known = h.right r }

left_held : (braid : BraidValue) → IsBraid braid → (m : ℕ) (g : List ℕ) (sorted : List Listed) → IsPermutation (all_entries braid (suc m) g) sorted → (w : List ℕ) → IsListedWord braid (suc m) g w → is_least is_killed braid (drop 1 w) ≡ true →
    Found (gathered_all sorted) w (λ z. is_some z.left)
left_held braid is m g sorted same w listed least =
    let (l, i, e, r) = left_found braid m g w listed least in
    let h : Holds (gathered_all sorted) l = all-held sorted l (Contains-permutation (all_entries braid (suc m) g) sorted l same (Contains-append_right (right_entries braid (suc m) g braid.letters) (left_entries braid (suc m) g braid.letters) l i)) in
    record { entry = h.entry; there = h.there; word = h.word ∙ e; known = h.left r }

listed_are_at : (braid : BraidValue) → IsBraid braid → (m : ℕ) (g : List ℕ) → length g ≡ braid.letters → (sorted : List Listed) → IsPermutation (all_entries braid (suc m) g) sorted → IsSortedByKey word_in word_cmp sorted →
    AreListed braid (suc m) g (gathered_all sorted)
listed_are_at braid is m g size sorted same rises =
    let out : List Listed = gathered_all sorted in
    let rising : IsRising (map word_in out) = all-rise sorted rises in
    let all : AllByRecursion (IsKnown braid (suc m) g) out = all-known braid (suc m) g sorted (known_of_all braid is m g size sorted (IsPermutation-sym (all_entries braid (suc m) g) sorted same)) in
    let known : (l : Listed) → Contains out l → IsKnown braid (suc m) g l = λ l i. all_at (IsKnown braid (suc m) g) out l all i in
    let right : (w : List ℕ) → IsListedWord braid (suc m) g w → is_least is_killed braid (but_last w) ≡ true → Found out w (λ z. is_some z.right) = right_held braid is m g sorted same in
    let left : (w : List ℕ) → IsListedWord braid (suc m) g w → is_least is_killed braid (drop 1 w) ≡ true → Found out w (λ z. is_some z.left) = left_held braid is m g sorted same in
    record {
      words = rising_unique (map word_in out) (listed_words braid (suc m) g) rising (listed_words_rise braid (suc m) g)
          (λ w i. let (l, j, e) = from_map word_in w out i in subst (Contains (listed_words braid (suc m) g)) (sym e) (in_listed braid (suc m) g l.word (known l j).listed))
          (λ w i.
          let listed : IsListedWord braid (suc m) g w = from_listed braid (suc m) g w i in
          elim listed.least [
            | inl least ↦ let h : Found out w (λ z. is_some z.right) = right w listed least in subst (Contains (map word_in out)) h.word (in_map word_in h.entry out h.there)
            | inr least ↦ let h : Found out w (λ z. is_some z.left) = left w listed least in subst (Contains (map word_in out)) h.word (in_map word_in h.entry out h.there)
          ]);
      right = all_of_entries (λ (l : Listed). is_some l.right ≡ is_least is_killed braid (but_last l.word)) out
          (λ l i. same_answer (is_some l.right) (is_least is_killed braid (but_last l.word)) (known l i).right
          (λ least. let h : Found out l.word (λ z. is_some z.right) = right l.word (known l i).listed least in ap (λ (z : Listed). is_some z.right) (sym (one_entry out h.entry l rising h.there i h.word)) ∙ h.known));
      left = all_of_entries (λ (l : Listed). is_some l.left ≡ is_least is_killed braid (drop 1 l.word)) out
          (λ l i. same_answer (is_some l.left) (is_least is_killed braid (drop 1 l.word)) (known l i).left
          (λ least. let h : Found out l.word (λ z. is_some z.left) = left l.word (known l i).listed least in ap (λ (z : Listed). is_some z.left) (sym (one_entry out h.entry l rising h.there i h.word)) ∙ h.known));
      fronts = all_of_entries (HasFrontPlace braid (suc m) g) out (λ l i. (known l i).front);
      backs = all_of_entries (HasBackPlace braid (suc m) g) out (λ l i. (known l i).back);
    }

pub listed_are : (braid : BraidValue) → IsBraid braid → (m : ℕ) (g : List ℕ) → 1 ≤ m → length g ≡ braid.letters → (sorted : List Listed) →
    IsPermutation (right_entries braid m g braid.letters ++ left_entries braid m g braid.letters) sorted → IsSortedByKey word_in word_cmp sorted → AreListed braid m g (gathered_all sorted)
listed_are braid is zero g some size sorted same rises = absurd (omega arith)
listed_are braid is (suc m) g some size sorted same rises = listed_are_at braid is m g size sorted same rises

-- ---- the pass over a sorted list

-- the next entry has the same word
pub gathering-same : (out : List Listed) (last l now : Listed) (f rest all : List Listed) → f ≡ l ∷ rest → are_one l.word last.word ≡ true → now ≡ together last l → out ++ gathered_from last f ≡ all → out ++ gathered_from now rest ≡ all
unfolding gathered_by
gathering-same out last l now f rest all e one n g =
    ap (λ u. out ++ gathered_from u rest) n ∙ ap (λ b. out ++ cond b (gathered_from (together last l) rest) (last ∷ gathered_from l rest)) (sym one) ∙ ap (λ r. out ++ gathered_from last r) (sym e) ∙ g

-- it has another word
pub gathering-other : (out : List Listed) (last l : Listed) (put f rest all : List Listed) → f ≡ l ∷ rest → are_one l.word last.word ≡ false → put ≡ out ++ last ∷ [] → out ++ gathered_from last f ≡ all → put ++ gathered_from l rest ≡ all
unfolding gathered_by
gathering-other out last l put f rest all e other p g =
    ap (λ o. o ++ gathered_from l rest) p ∙ append_assoc out (last ∷ []) (gathered_from l rest)
    ∙ ap (λ b. out ++ cond b (gathered_from (together last l) rest) (last ∷ gathered_from l rest)) (sym other) ∙ ap (λ r. out ++ gathered_from last r) (sym e) ∙ g

-- none is left
pub gathering-end : (out : List Listed) (last first : Listed) (put f rest sorted : List Listed) → f ≡ [] → put ≡ out ++ last ∷ [] → sorted ≡ first ∷ rest → out ++ gathered_from last f ≡ gathered_from first rest → put ≡ gathered_all sorted
unfolding gathered_by gathered_all
gathering-end out last first put f rest sorted e p s g = p ∙ ap (λ r. out ++ gathered_from last r) (sym e) ∙ g ∙ ap gathered_all (sym s)

pub gathered_none : (out sorted : List Listed) → out ≡ [] → sorted ≡ [] → out ≡ gathered_all sorted
unfolding gathered_all
gathered_none out sorted e s = e ∙ ap gathered_all (sym s)

-- ---- the new words

kept_words : (t : Listed → Bool) (u : List ℕ → Bool) (ls : List Listed) → AllByRecursion (λ (l : Listed). t l ≡ u l.word) ls → map word_in (filter t ls) ≡ filter u (map word_in ls)
kept_words t u [] h = refl
kept_words t u (l ∷ ls) h = at (t l) (u l.word) h.0 (kept_words t u ls h.1)
  where
    at : (a b : Bool) → a ≡ b → map word_in (filter t ls) ≡ filter u (map word_in ls) → map word_in (cond a (l ∷ filter t ls) (filter t ls)) ≡ cond b (l.word ∷ filter u (map word_in ls)) (filter u (map word_in ls))
    at true true e rest = ap (λ ws. l.word ∷ ws) rest
    at false false e rest = rest
    at true false e rest = cc
    at false true e rest = cc

both_flags : (braid : BraidValue) (ls : List Listed) → AllByRecursion (λ (l : Listed). is_some l.right ≡ is_least is_killed braid (but_last l.word)) ls → AllByRecursion (λ (l : Listed). is_some l.left ≡ is_least is_killed braid (drop 1 l.word)) ls →
    AllByRecursion (λ (l : Listed). (is_some l.right && is_some l.left) ≡ (is_least is_killed braid (but_last l.word) && is_least is_killed braid (drop 1 l.word))) ls
both_flags braid [] h k = tt
both_flags braid (l ∷ ls) h k = (ap₂ (λ x y. x && y) h.0 k.0, both_flags braid ls h.1 k.1)

pub new_words_are : (braid : BraidValue) (m : ℕ) (g : List ℕ) (listed : List Listed) (new : List (List ℕ)) (i : ℕ) → 1 ≤ m → AreListed braid m g listed → length listed ≤ i → new ≡ map word_in (filter (λ (x : Listed). is_some x.right && is_some x.left) (take i listed)) →
    new ≡ block_new_words braid m g
new_words_are braid m g listed new i some are long e =
    e ∙ ap (λ ls. map word_in (filter (λ (x : Listed). is_some x.right && is_some x.left) ls)) (take_all i listed long)
    ∙ kept_words (λ (x : Listed). is_some x.right && is_some x.left) (λ w. is_least is_killed braid (but_last w) && is_least is_killed braid (drop 1 w)) listed (both_flags braid listed are.right are.left)
    ∙ ap (filter (λ w. is_least is_killed braid (but_last w) && is_least is_killed braid (drop 1 w))) are.words ∙ new_of_listed braid m g some
