-- Where the new words of a block stand below without their end letters.
use Rattle.std.proofs.Common.{◌≡◌, ℕ, zero, suc, ◌+◌, ◌-◌, ◌<◌, ◌≤◌, Bool, true, false, cond, List, [], ◌∷◌, ◌++◌, map, length, take, refl, sym, ◌∙◌, ap, ap₂, subst, arith, Some, MatchOption, get_or}
use Rattle.std.specs.Prelude.{◌&&◌, is_some, slice_index}
use Rattle.std.specs.List.{filter, AllByRecursion, Contains}
use Rattle.std.proofs.lemmas.List.{append_cancel_left, length-map, map-append, take_more}
use Rattle.nichols_tensor.specs.Positions.{word_at}
use Rattle.nichols_tensor.proofs.Over.{letter_over}
use Rattle.nichols_braid.specs.Braid.{BraidValue, IsBraid, IsLetter}
use Rattle.nichols_braid.specs.Products.{products}
use Rattle.nichols_echelon.specs.declared.rows.Place.{Place}
use Rattle.nichols_echelon.specs.declared.rows.Place.TheVariants.{Independent, Depends}
use Rattle.nichols_rows.specs.Places.{independent_in}
use Rattle.nichols_value.specs.declared.ends.Ends.{Ends}
use Rattle.nichols_value.specs.declared.spot.Spot.{Spot}
use Rattle.nichols_value.specs.Block.{left_lower_basis, lower_basis}
use Rattle.nichols_value.specs.Kept.{AreEnds, AreEndsOf, IsSpot, candidate_at}
use Rattle.nichols_value.specs.Rule.{by_letter}
use Rattle.nichols_value.proofs.LeftBlocks.{left_lower_is_lower}
use Rattle.nichols_value.proofs.RuleEntries.{letter_count}
use Rattle.nichols_block.specs.declared.words.Listed.{Listed}
use Rattle.nichols_block.specs.Gathered.{word_in}
use Rattle.nichols_block.specs.Rows.{AreSpotsOf, lower_words}
use Rattle.nichols_block.specs.Words.{AreBackPlaces, AreNewWords, IsBackPlace, IsFrontPlace, IsListedEntry, block_new_words, but_last, ends_of, new_word}
use Rattle.nichols_block.proofs.ListedWords.{IsListedWord, but_last-push, from_listed}
use Rattle.nichols_block.proofs.Passes.{last_back}
use Rattle.nichols_block.proofs.SpotsBelow.{words_at_letter}

-- ---- one new word more

pub entry_size : (braid : BraidValue) (m : ℕ) (g : List ℕ) (l : Listed) → 1 ≤ m → IsListedEntry braid m g l → 1 ≤ length l.word
entry_size braid m g l some h = let w : IsListedWord braid m g l.word = from_listed braid m g l.word h.listed in omega (arith, some, w.size)

all_more : {X : Type 0} (P : X → Type 0) (xs : List X) (x : X) → AllByRecursion P xs → P x → AllByRecursion P (xs ++ x ∷ [])
all_more P [] x h p = (p, tt)
all_more P (y ∷ xs) x h p = (h.0, all_more P xs x h.1 p)

backs_more : (words : ℕ → List (List ℕ)) (ws : List (List ℕ)) (ks : List ℕ) (w : List ℕ) (k : ℕ) → AreBackPlaces words ws ks → IsBackPlace words w k → AreBackPlaces words (ws ++ w ∷ []) (ks ++ k ∷ [])
backs_more words [] [] w k h p = (p, tt)
backs_more words [] (i ∷ ks) w k h p = absurd h
backs_more words (v ∷ ws) [] w k h p = absurd h
backs_more words (v ∷ ws) (i ∷ ks) w k h p = (h.0, backs_more words ws ks w k h.1 p)

pub new_more : (braid : BraidValue) (m : ℕ) (g : List ℕ) (l : Listed) (front back letter : ℕ) (ws ws2 : List (List ℕ)) (spots spots2 : List Spot) (ks ks2 : List ℕ) → 1 ≤ m → IsListedEntry braid m g l → l.right ≡ Some front → l.left ≡ Some back →
    letter ≡ slice_index l.word (length l.word - 1) → AreNewWords braid m g ws spots ks → ws2 ≡ ws ++ l.word ∷ [] → spots2 ≡ spots ++ record { letter = letter; place = front } ∷ [] → ks2 ≡ ks ++ back ∷ [] → AreNewWords braid m g ws2 spots2 ks2
new_more braid m g l front back letter ws ws2 spots spots2 ks ks2 some known right left letter_is h ws_is spots_is ks_is =
    let w : IsListedWord braid m g l.word = from_listed braid m g l.word known.listed in
    let long : 1 ≤ length l.word = omega (arith, some, w.size) in
    let la : IsLetter braid letter = subst (IsLetter braid) (sym letter_is) (letter_over braid.letters l.word (length l.word - 1) w.over (omega (arith, long))) in
    let count : length (lower_words braid m g) ≡ braid.letters = letter_count (lower_basis braid m g) braid.letters in
    let place : IsFrontPlace (lower_basis braid m g) l.word front = subst (λ o. MatchOption o (Unit {0}) (IsFrontPlace (lower_basis braid m g) l.word)) right known.front in
    let parts : l.word ≡ but_last l.word ++ letter ∷ [] = last_back l.word long ∙ ap (λ b. but_last l.word ++ b ∷ []) (sym letter_is) in
    let at = place letter (but_last l.word) parts in
    let own : Spot = record { letter = letter; place = front } in
    let spot : IsSpot (lower_words braid m g) own = (omega (arith, la.0), omega (arith, la.0, la.1, count), subst (λ (vs : List (List ℕ)). front < length vs) (sym (words_at_letter braid m g letter la)) at.0) in
    let word : candidate_at (lower_words braid m g) own ≡ l.word = ap (λ (vs : List (List ℕ)). word_at vs front ++ letter ∷ []) (words_at_letter braid m g letter la) ∙ ap (λ v. v ++ letter ∷ []) at.1 ∙ sym parts in
    subst (λ v. AreNewWords braid m g v spots2 ks2) (sym ws_is)
    (subst (λ (v : List Spot). AreNewWords braid m g (ws ++ l.word ∷ []) v ks2) (sym spots_is)
    (subst (λ v. AreNewWords braid m g (ws ++ l.word ∷ []) (spots ++ own ∷ []) v) (sym ks_is) (record {
      inside = all_more (IsSpot (lower_words braid m g)) spots own h.inside spot;
      words = map-append (candidate_at (lower_words braid m g)) spots (own ∷ []) ∙ ap₂ (λ us u. us ++ u ∷ []) h.words word;
      backs = backs_more (left_lower_basis braid m g) ws ks l.word back h.backs (subst (λ o. MatchOption o (Unit {0}) (IsBackPlace (left_lower_basis braid m g) l.word)) left known.back);
    })))

-- ---- all new words

filter_more : (t : Listed → Bool) (xs : List Listed) (x : Listed) → filter t (xs ++ x ∷ []) ≡ filter t xs ++ cond (t x) (x ∷ []) []
filter_more t [] x = refl
filter_more t (y ∷ xs) x = at (t y) (filter_more t xs x)
  where
    at : (b : Bool) → filter t (xs ++ x ∷ []) ≡ filter t xs ++ cond (t x) (x ∷ []) [] → cond b (y ∷ filter t (xs ++ x ∷ [])) (filter t (xs ++ x ∷ [])) ≡ cond b (y ∷ filter t xs) (filter t xs) ++ cond (t x) (x ∷ []) []
    at true e = ap (λ ls. y ∷ ls) e
    at false e = e

pub new_words_more : (listed : List Listed) (i : ℕ) (l : Listed) (old new : List (List ℕ)) → i < length listed → l ≡ get_or listed i l → old ≡ map word_in (filter (λ (x : Listed). is_some x.right && is_some x.left) (take i listed)) → new ≡ old ++ new_word l →
    new ≡ map word_in (filter (λ (x : Listed). is_some x.right && is_some x.left) (take (i + 1) listed))
new_words_more listed i l old new less at before put =
    put ∙ ap (λ ws. ws ++ new_word l) before ∙ ap (λ ws. map word_in (filter test (take i listed)) ++ ws) (own (test l))
    ∙ sym (map-append word_in (filter test (take i listed)) (cond (test l) (l ∷ []) [])) ∙ ap (map word_in) (sym (filter_more test (take i listed) l))
    ∙ ap (λ ls. map word_in (filter test ls)) (ap (λ (x : Listed). take i listed ++ x ∷ []) at ∙ sym (take_more listed i l less))
  where
    test : Listed → Bool
    test x = is_some x.right && is_some x.left

    own : (b : Bool) → cond b (l.word ∷ []) [] ≡ map word_in (cond b (l ∷ []) [])
    own true = refl
    own false = refl

pub no_new_words : (braid : BraidValue) (m : ℕ) (g : List ℕ) (ws : List (List ℕ)) (spots : List Spot) (ks : List ℕ) → ws ≡ [] → spots ≡ [] → ks ≡ [] → AreNewWords braid m g ws spots ks
no_new_words braid m g ws spots ks w s k =
    subst (λ v. AreNewWords braid m g v spots ks) (sym w) (subst (λ (v : List Spot). AreNewWords braid m g [] v ks) (sym s) (subst (λ v. AreNewWords braid m g [] [] v) (sym k) (record { inside = tt; words = refl; backs = tt })))

pub new_spots : (braid : BraidValue) (m : ℕ) (g : List ℕ) (ws : List (List ℕ)) (spots : List Spot) (ks : List ℕ) → AreNewWords braid m g ws spots ks → ws ≡ block_new_words braid m g → AreSpotsOf braid m g spots
new_spots braid m g ws spots ks h e = record { inside = h.inside; words = h.words ∙ e }

pub spots_count : (braid : BraidValue) (m : ℕ) (g : List ℕ) (ws : List (List ℕ)) (spots : List Spot) (ks : List ℕ) → AreNewWords braid m g ws spots ks → length spots ≡ length ws
spots_count braid m g ws spots ks h = sym (length-map spots (candidate_at (lower_words braid m g))) ∙ ap length h.words

pub backs_count : (words : ℕ → List (List ℕ)) (ws : List (List ℕ)) (ks : List ℕ) → AreBackPlaces words ws ks → length ks ≡ length ws
backs_count words [] [] h = refl
backs_count words [] (k ∷ ks) h = absurd h
backs_count words (w ∷ ws) [] h = absurd h
backs_count words (w ∷ ws) (k ∷ ks) h = ap suc (backs_count words ws ks h.1)

-- ---- their ends

own_ends : (braid : BraidValue) → IsBraid braid → (m : ℕ) (g : List ℕ) → Contains (products braid m) g → length g ≡ braid.letters → (w : List ℕ) (s : Spot) (k : ℕ) → IsSpot (lower_words braid m g) s → candidate_at (lower_words braid m g) s ≡ w →
    IsBackPlace (left_lower_basis braid m g) w k → AreEndsOf g (lower_words braid m g) w (record { front = s.place; back = k })
own_ends braid is m g there size w s k inside word back = record {
  front = λ b u e.
      let same : word_at (by_letter (lower_words braid m g) s.letter) s.place ++ s.letter ∷ [] ≡ u ++ b ∷ [] = word ∙ e in
      let fronts : word_at (by_letter (lower_words braid m g) s.letter) s.place ≡ u = sym (but_last-push (word_at (by_letter (lower_words braid m g) s.letter) s.place) s.letter) ∙ ap but_last same ∙ but_last-push u b in
      let lasts : s.letter ∷ [] ≡ b ∷ [] = append_cancel_left u (s.letter ∷ []) (b ∷ []) (ap (λ x. x ++ s.letter ∷ []) (sym fronts) ∙ same) in
      let letters : s.letter ≡ b = cc in
      (subst (λ x. s.place < length (by_letter (lower_words braid m g) x)) letters inside.2, ap (λ x. word_at (by_letter (lower_words braid m g) x) s.place) (sym letters) ∙ fronts);
  back = λ c v some most e.
      let lc : IsLetter braid c = (some, omega (arith, most, size)) in
      let words : left_lower_basis braid m g (slice_index g (c - 1)) ≡ by_letter (lower_words braid m g) c = left_lower_is_lower braid is m g there c lc ∙ sym (words_at_letter braid m g c lc) in
      let at = back (slice_index g (c - 1)) v e in
      (subst (λ (vs : List (List ℕ)). k < length vs) words at.0, ap (λ (vs : List (List ℕ)). word_at vs k) (sym words) ∙ at.1);
}

pub all_ends : (braid : BraidValue) → IsBraid braid → (m : ℕ) (g : List ℕ) → Contains (products braid m) g → length g ≡ braid.letters → (ws : List (List ℕ)) (spots : List Spot) (ks : List ℕ) → AllByRecursion (IsSpot (lower_words braid m g)) spots →
    map (candidate_at (lower_words braid m g)) spots ≡ ws → AreBackPlaces (left_lower_basis braid m g) ws ks → AreEnds g (lower_words braid m g) ws (ends_of spots ks)
all_ends braid is m g there size [] [] ks inside words backs = tt
all_ends braid is m g there size [] (s ∷ spots) ks inside words backs = cc
all_ends braid is m g there size (w ∷ ws) [] ks inside words backs = cc
all_ends braid is m g there size (w ∷ ws) (s ∷ spots) [] inside words backs = absurd backs
all_ends braid is m g there size (w ∷ ws) (s ∷ spots) (k ∷ ks) inside words backs =
    let first : candidate_at (lower_words braid m g) s ≡ w = cc in
    let rest : map (candidate_at (lower_words braid m g)) spots ≡ ws = cc in
    (own_ends braid is m g there size w s k inside.0 first backs.0, all_ends braid is m g there size ws spots ks inside.1 rest backs.1)

independent_ends : (g : List ℕ) (below : List (List (List ℕ))) (ws : List (List ℕ)) (ends : List Ends) (places : List Place) → AreEnds g below ws ends → AreEnds g below (independent_in ws places) (independent_in ends places)
independent_ends g below [] [] places h = tt
independent_ends g below [] (e ∷ ends) places h = absurd h
independent_ends g below (w ∷ ws) [] places h = absurd h
independent_ends g below (w ∷ ws) (e ∷ ends) [] h = tt
independent_ends g below (w ∷ ws) (e ∷ ends) (Independent ∷ places) h = (h.0, independent_ends g below ws ends places h.1)
independent_ends g below (w ∷ ws) (e ∷ ends) (Depends cells ∷ places) h = independent_ends g below ws ends places h.1

pub least_ends_are : (braid : BraidValue) → IsBraid braid → (m : ℕ) (g : List ℕ) → Contains (products braid m) g → length g ≡ braid.letters → (ws : List (List ℕ)) (spots : List Spot) (ks : List ℕ) (places : List Place) (below : List (List (List ℕ)))
    (basis : List (List ℕ)) (ends : List Ends) → AreNewWords braid m g ws spots ks → below ≡ lower_words braid m g → basis ≡ independent_in ws places → ends ≡ independent_in (ends_of spots ks) places → AreEnds g below basis ends
least_ends_are braid is m g there size ws spots ks places below basis ends h below_is basis_is ends_is =
    subst (λ (b : List (List (List ℕ))). AreEnds g b basis ends) (sym below_is)
    (subst (λ v. AreEnds g (lower_words braid m g) v ends) (sym basis_is)
    (subst (λ (es : List Ends). AreEnds g (lower_words braid m g) (independent_in ws places) es) (sym ends_is)
    (independent_ends g (lower_words braid m g) ws (ends_of spots ks) places (all_ends braid is m g there size ws spots ks h.inside h.words h.backs))))

-- ---- one by one

pub ends_count : (spots : List Spot) (ks : List ℕ) → length ks ≡ length spots → length (ends_of spots ks) ≡ length spots
ends_count [] ks e = refl
ends_count (s ∷ spots) [] e = absurd (omega arith)
ends_count (s ∷ spots) (k ∷ ks) e = ap suc (ends_count spots ks (omega (arith, e)))

pub ends_entry : (spots : List Spot) (ks : List ℕ) (i : ℕ) (s : Spot) (k : ℕ) (d : Ends) → length ks ≡ length spots → i < length spots → s ≡ get_or spots i s → k ≡ get_or ks i k → record { front = s.place; back = k } ≡ get_or (ends_of spots ks) i d
ends_entry [] ks i s k d e less at here = absurd (omega arith)
ends_entry (x ∷ spots) [] i s k d e less at here = absurd (omega arith)
ends_entry (x ∷ spots) (j ∷ ks) zero s k d e less at here = same s.place x.place k j (ap (λ (y : Spot). y.place) at) here
  where
    same : (a b k j : ℕ) → a ≡ b → k ≡ j → let left : Ends = record { front = a; back = k } in let right : Ends = record { front = b; back = j } in left ≡ right
    same a b k j p q = cc
ends_entry (x ∷ spots) (j ∷ ks) (suc i) s k d e less at here = ends_entry spots ks i s k d (omega (arith, e)) (omega (arith, less)) at here
