-- One word of a pass: a new one, one that is read from the left, or one that is read from the right.
use Rattle.std.proofs.Common.{◌≡◌, ℕ, zero, suc, ◌+◌, ◌-◌, ◌<◌, ◌≤◌, ◌&&◌, Bool, true, false, not, List, [], ◌∷◌, ◌++◌, drop, take, replicate, slice_index_or, length, map, get_or, refl, sym, ◌∙◌, ap, ap₂, subst, arith, inl, inr}
use Rattle.std.specs.Prelude.{slice_index, is_some}
use Rattle.std.specs.List.{Contains}
use Rattle.std.proofs.Math.Seq.{drop-cons}
use Rattle.std.proofs.lemmas.List.{append-nil, get_or-map, length-map, length-replicate, length-set}
use Rattle.std.proofs.lemmas.List.Elements.{All-from_recursion}
use Rattle.nichols_tensor.specs.Combination.{single}
use Rattle.nichols_tensor.specs.Positions.{word_at}
use Rattle.nichols_tensor.specs.Words.{IsWordOver, up_to}
use Rattle.nichols_tensor.specs.WordOrder.{IsRising}
use Rattle.nichols_tensor.proofs.Over.{letter_over}
use Rattle.nichols_tensor.proofs.Rising.{word_at_is_in}
use Rattle.nichols_braid.specs.Braid.{BraidValue, IsBraid, IsLetter}
use Rattle.nichols_braid.specs.Kernel.{is_killed}
use Rattle.nichols_braid.specs.Least.{is_least, normal_form}
use Rattle.nichols_braid.proofs.LeftLaws.{killed_is_ideal_from_left}
use Rattle.nichols_braid.proofs.Suffixes.{suffix_is_least}
use Rattle.nichols_echelon.specs.Cells.{AllBelow, Cell}
use Rattle.nichols_echelon.specs.Combination.{AllRowsBelow}
use Rattle.nichols_echelon.specs.Rows.{RowsValue}
use Rattle.nichols_echelon.specs.Split.{place_at}
use Rattle.nichols_echelon.specs.declared.rows.Place.{Place}
use Rattle.nichols_echelon.specs.declared.rows.Place.TheVariants.{Independent, Depends}
use Rattle.nichols_value.specs.declared.spot.Spot.{Spot}
use Rattle.nichols_value.specs.Block.{block_basis, left_lower_basis, lower_basis}
use Rattle.nichols_value.specs.Kept.{AreCellsOf, relation_at}
use Rattle.nichols_value.specs.Rule.{left_forms, right_forms}
use Rattle.nichols_value.proofs.KeptRows.{no_rows}
use Rattle.nichols_block.specs.Forms.{AreFormsOf}
use Rattle.nichols_block.specs.declared.words.Listed.{Listed}
use Rattle.nichols_block.specs.Places.{ArePlacesOf}
use Rattle.nichols_block.specs.Rows.{rows_by}
use Rattle.nichols_block.specs.Words.{AreListed, HasBackPlace, HasFrontPlace, IsListedEntry, block_new_words, but_last, is_left, is_right, listed_words}
use Rattle.nichols_block.specs.Pass.{IsOfBlock, IsPassing, IsSide, IsSumPushedAt, IsTable, is_both, is_related, least_more, new_cells, spots_more, with_row_of}
use Rattle.nichols_block.proofs.ListedWords.{IsListedWord, from_listed, left_of_listed, listed_words_rise, new_of_listed, right_of_listed}
use Rattle.nichols_block.proofs.RelatedWords.{related_of_listed}
use Rattle.nichols_block.proofs.Numbering.{IsNewRow, IsToldBy, new_row, numbering_more, numbering_pass, place_is_there}
use Rattle.nichols_block.proofs.PassSteps.{IsReadAt, lefts_more, lefts_pass, read_left, read_right, right_at, rights_more, rights_pass, table_more, table_pass}
use Rattle.nichols_block.proofs.Sides.{side_end, side_place, side_start}

-- ---- the word that the pass meets

abbrev pub words_in : List Listed → List (List ℕ)
words_in listed = map (λ (l : Listed). l.word) listed

pub record IsMet (braid : BraidValue) (m : ℕ) (g w : List ℕ) (rest : List (List ℕ)) (a b : ℕ) : Type 0 where
  pub own : IsOfBlock braid m g w
  pub some : 1 ≤ m
  pub rising : IsRising (w ∷ rest)
  pub first : IsLetter braid a
  pub last : IsLetter braid b
  pub front : w ≡ a ∷ drop 1 w
  pub back : w ≡ but_last w ++ b ∷ []

pub words_left : (listed : List Listed) (k : ℕ) (l : Listed) → k < length listed → l ≡ get_or listed k l → drop k (words_in listed) ≡ l.word ∷ drop (k + 1) (words_in listed)
words_left listed k l less at =
    drop-cons (words_in listed) k [] (subst (λ n. k < n) (sym (length-map listed (λ (x : Listed). x.word))) less)
    ∙ ap₂ (λ v n. v ∷ drop n (words_in listed)) (get_or-map (λ (x : Listed). x.word) listed k l [] less ∙ ap (λ (x : Listed). x.word) (sym at)) (let e : suc k ≡ k + 1 = omega arith in e)

pub first_back : (w : List ℕ) → 1 ≤ length w → w ≡ slice_index w 0 ∷ drop 1 w
first_back [] h = absurd (omega arith)
first_back (x ∷ w) h = refl

pub last_back : (w : List ℕ) → 1 ≤ length w → w ≡ but_last w ++ slice_index w (length w - 1) ∷ []
last_back [] h = absurd (omega arith)
last_back (x ∷ []) h = refl
last_back (x ∷ y ∷ w) h =
    ap (λ v. x ∷ v) (last_back (y ∷ w) (omega arith))
    ∙ ap₂ (λ n i. take n (x ∷ y ∷ w) ++ slice_index (x ∷ y ∷ w) i ∷ []) (let e : suc (length (y ∷ w) - 1) ≡ length (x ∷ y ∷ w) - 1 = omega arith in e) (let e : suc (length (y ∷ w) - 1) ≡ length (x ∷ y ∷ w) - 1 = omega arith in e)

pub word_is_met : (braid : BraidValue) (m : ℕ) (g : List ℕ) (listed : List Listed) (k : ℕ) (l : Listed) (a b : ℕ) → 1 ≤ m → AreListed braid m g listed → k < length listed → l ≡ get_or listed k l → a ≡ slice_index l.word 0 → b ≡ slice_index l.word (length l.word - 1) →
    IsMet braid m g l.word (drop (k + 1) (words_in listed)) a b
word_is_met braid m g listed k l a b some are less at a_is b_is = record {
  own = record { size = listed_word.size; over = listed_word.over; product = listed_word.product };
  some = some;
  rising = subst IsRising (words_left listed k l less at) (rising_drop k (words_in listed) (subst IsRising (sym are.words) (listed_words_rise braid m g)));
  first = subst (IsLetter braid) (sym a_is) (letter_over braid.letters l.word 0 listed_word.over (omega (arith, long)));
  last = subst (IsLetter braid) (sym b_is) (letter_over braid.letters l.word (length l.word - 1) listed_word.over (omega (arith, long)));
  front = first_back l.word long ∙ ap (λ x. x ∷ drop 1 l.word) (sym a_is);
  back = last_back l.word long ∙ ap (λ x. but_last l.word ++ x ∷ []) (sym b_is);
}
  where
    inside : k < length (words_in listed)
    inside = subst (λ n. k < n) (sym (length-map listed (λ (x : Listed). x.word))) less

    here : Contains (listed_words braid m g) l.word
    here =
        subst (λ vs. Contains vs l.word) are.words
        (subst (Contains (words_in listed)) (get_or-map (λ (x : Listed). x.word) listed k l [] less ∙ ap (λ (x : Listed). x.word) (sym at)) (word_at_is_in (words_in listed) k inside))

    listed_word : IsListedWord braid m g l.word
    listed_word = from_listed braid m g l.word here

    long : 1 ≤ length l.word
    long = omega (arith, some, listed_word.size)

    rising_drop : (n : ℕ) (ws : List (List ℕ)) → IsRising ws → IsRising (drop n ws)
    rising_drop zero ws h = h
    rising_drop (suc n) [] h = h
    rising_drop (suc n) (w ∷ ws) h = rising_drop n ws h.1

-- what its marks say
pub mark_right : (braid : BraidValue) (m : ℕ) (g : List ℕ) (listed : List Listed) (k : ℕ) (l : Listed) → AreListed braid m g listed → k < length listed → l ≡ get_or listed k l → is_least is_killed braid (but_last l.word) ≡ is_some l.right
mark_right braid m g listed k l are less at = sym (subst (λ (x : Listed). is_some x.right ≡ is_least is_killed braid (but_last x.word)) (sym at) (All-from_recursion (λ (x : Listed). is_some x.right ≡ is_least is_killed braid (but_last x.word)) listed are.right k l less))

pub mark_left : (braid : BraidValue) (m : ℕ) (g : List ℕ) (listed : List Listed) (k : ℕ) (l : Listed) → AreListed braid m g listed → k < length listed → l ≡ get_or listed k l → is_least is_killed braid (drop 1 l.word) ≡ is_some l.left
mark_left braid m g listed k l are less at = sym (subst (λ (x : Listed). is_some x.left ≡ is_least is_killed braid (drop 1 x.word)) (sym at) (All-from_recursion (λ (x : Listed). is_some x.left ≡ is_least is_killed braid (drop 1 x.word)) listed are.left k l less))

-- one of them says yes
pub some_mark : (braid : BraidValue) (m : ℕ) (g : List ℕ) (listed : List Listed) (k : ℕ) (l : Listed) → AreListed braid m g listed → k < length listed → l ≡ get_or listed k l → is_least is_killed braid (but_last l.word) ≡ false → is_least is_killed braid (drop 1 l.word) ≡ true
some_mark braid m g listed k l are less at other =
    elim (from_listed braid m g l.word here).least [
      | inl h ↦ absurd (let c : true ≡ false = sym h ∙ other in cc)
      | inr h ↦ h
    ]
  where
    here : Contains (listed_words braid m g) l.word
    here =
        subst (λ vs. Contains vs l.word) are.words
        (subst (Contains (words_in listed)) (get_or-map (λ (x : Listed). x.word) listed k l [] less ∙ ap (λ (x : Listed). x.word) (sym at))
        (word_at_is_in (words_in listed) k (subst (λ n. k < n) (sym (length-map listed (λ (x : Listed). x.word))) less)))

-- what holds of its entry
pub entry_known : (braid : BraidValue) (m : ℕ) (g : List ℕ) (listed : List Listed) (k : ℕ) (l : Listed) → AreListed braid m g listed → k < length listed → l ≡ get_or listed k l → IsListedEntry braid m g l
entry_known braid m g listed k l are less at = record {
  listed = subst (λ vs. Contains vs l.word) are.words
      (subst (Contains (words_in listed)) (get_or-map (λ (x : Listed). x.word) listed k l [] less ∙ ap (λ (x : Listed). x.word) (sym at))
      (word_at_is_in (words_in listed) k (subst (λ n. k < n) (sym (length-map listed (λ (x : Listed). x.word))) less)));
  front = subst (HasFrontPlace braid m g) (sym at) (All-from_recursion (HasFrontPlace braid m g) listed are.fronts k l less);
  back = subst (HasBackPlace braid m g) (sym at) (All-from_recursion (HasBackPlace braid m g) listed are.backs k l less);
}

-- how long it is
pub word_size : (braid : BraidValue) (m : ℕ) (g : List ℕ) (listed : List Listed) (k : ℕ) (l : Listed) → AreListed braid m g listed → k < length listed → l ≡ get_or listed k l → length l.word ≡ m
word_size braid m g listed k l are less at =
    (from_listed braid m g l.word
    (subst (λ vs. Contains vs l.word) are.words
    (subst (Contains (words_in listed)) (get_or-map (λ (x : Listed). x.word) listed k l [] less ∙ ap (λ (x : Listed). x.word) (sym at))
    (word_at_is_in (words_in listed) k (subst (λ n. k < n) (sym (length-map listed (λ (x : Listed). x.word))) less))))).size

-- the pass at the word
pub record IsAt (braid : BraidValue) (m : ℕ) (g : List ℕ) (places : List Place) (w : List ℕ) (rest : List (List ℕ)) (a b : ℕ) (rights lefts : List RowsValue) (spots : List Spot) (columns : List ℕ) (least : ℕ) : Type 0 where
  pub met : IsMet braid m g w rest a b
  pub passing : IsPassing braid m g places (w ∷ rest) rights lefts spots columns least
  pub first_most : a ≤ length lefts
  pub last_most : b ≤ length rights

pub at_word : (braid : BraidValue) (m : ℕ) (g : List ℕ) (places : List Place) (listed : List Listed) (k : ℕ) (l : Listed) (a b : ℕ) (rights lefts : List RowsValue) (spots : List Spot) (columns : List ℕ) (least : ℕ) → 1 ≤ m → AreListed braid m g listed → k < length listed →
    l ≡ get_or listed k l → a ≡ slice_index l.word 0 → b ≡ slice_index l.word (length l.word - 1) → IsPassing braid m g places (drop k (words_in listed)) rights lefts spots columns least →
    IsAt braid m g places l.word (drop (k + 1) (words_in listed)) a b rights lefts spots columns least
at_word braid m g places listed k l a b rights lefts spots columns least some are less at a_is b_is passing =
    let met : IsMet braid m g l.word (drop (k + 1) (words_in listed)) a b = word_is_met braid m g listed k l a b some are less at a_is b_is in record {
      met = met;
      passing = subst (λ ws. IsPassing braid m g places ws rights lefts spots columns least) (words_left listed k l less at) passing;
      first_most = omega (arith, met.first.1, passing.left_letters);
      last_most = omega (arith, met.last.1, passing.right_letters);
    }

-- ---- letters and rows

rows_count : (lists : List RowsValue) (a : ℕ) (cells : List Cell) (n : ℕ) → length lists ≡ n → length (with_row_of lists a cells) ≡ n
rows_count lists a cells n e = length-set lists (a - 1) _ ∙ e

-- where the next row of the last letter stands
spot_place : (braid : BraidValue) (m : ℕ) (g w : List ℕ) (rest : List (List ℕ)) (a b : ℕ) (places : List Place) (rights lefts : List RowsValue) (spots : List Spot) (columns : List ℕ) (least : ℕ) → IsMet braid m g w rest a b → is_least is_killed braid (but_last w) ≡ true →
    IsPassing braid m g places (w ∷ rest) rights lefts spots columns least → (length (rows_by rights b).rows < length (lower_basis braid m g b)) × (word_at (lower_basis braid m g b) (length (rows_by rights b).rows) ++ b ∷ [] ≡ w)
spot_place braid m g w rest a b places rights lefts spots columns least met is_first p =
    side_place (block_basis braid m g) (lower_basis braid m g b) (λ u. u ++ b ∷ []) (λ v. normal_form is_killed braid m (single v)) (is_right braid b) w rest (rows_by rights b) (right_at braid b w met.back ∙ is_first) (p.right b met.last)

both : (braid : BraidValue) (w : List ℕ) (s t : Bool) → is_least is_killed braid (but_last w) ≡ s → is_least is_killed braid (drop 1 w) ≡ t → is_both braid w ≡ s && t
both braid w s t e f = ap₂ (λ x y. x && y) e f

relates : (braid : BraidValue) (w : List ℕ) (s t : Bool) → is_least is_killed braid (but_last w) ≡ s → is_least is_killed braid w ≡ t → is_related braid w ≡ s && not t
relates braid w s t e f = ap₂ (λ x y. x && not y) e f

-- ---- a new word

table_by_place : (braid : BraidValue) (m : ℕ) (g w : List ℕ) (rest : List (List ℕ)) (spots : List Spot) (b k : ℕ) (p : Place) → IsLetter braid b → k < length (lower_basis braid m g b) → word_at (lower_basis braid m g b) k ++ b ∷ [] ≡ w →
    is_least is_killed braid (but_last w) ≡ true → IsToldBy braid w p → IsTable braid m g (w ∷ rest) spots → IsTable braid m g rest (spots_more spots b k p)
table_by_place braid m g w rest spots b k Independent lb less word first told t = table_pass braid m g w rest spots (relates braid w true true first told) t
table_by_place braid m g w rest spots b k (Depends cells) lb less word first told t = table_more braid m g w rest spots b k lb less word (relates braid w true false first told) t

pub new_row_met : (braid : BraidValue) → IsBraid braid → (m : ℕ) (g w : List ℕ) (rest : List (List ℕ)) (places : List Place) (rights lefts : List RowsValue) (spots : List Spot) (columns : List ℕ) (least : ℕ) (p : Place) → ArePlacesOf braid m g places →
    is_least is_killed braid (but_last w) ≡ true → is_least is_killed braid (drop 1 w) ≡ true → p ≡ place_at places (length columns) → IsPassing braid m g places (w ∷ rest) rights lefts spots columns least → IsNewRow braid m g w columns least p
new_row_met braid is m g w rest places rights lefts spots columns least p say first second at passing = new_row braid is m g places w rest columns least p say (both braid w true true first second) passing.new at

pub place_met : (braid : BraidValue) (m : ℕ) (g w : List ℕ) (rest : List (List ℕ)) (places : List Place) (rights lefts : List RowsValue) (spots : List Spot) (columns : List ℕ) (least : ℕ) → ArePlacesOf braid m g places → is_least is_killed braid (but_last w) ≡ true →
    is_least is_killed braid (drop 1 w) ≡ true → IsPassing braid m g places (w ∷ rest) rights lefts spots columns least → length columns < length places
place_met braid m g w rest places rights lefts spots columns least say first second passing =
    place_is_there (block_basis braid m g) (block_new_words braid m g) places (is_both braid) w rest columns least (both braid w true true first second) say.count passing.new

pub new_word_passes : (braid : BraidValue) → IsBraid braid → (m : ℕ) (g w : List ℕ) (rest : List (List ℕ)) (a b : ℕ) (places : List Place) (rights lefts : List RowsValue) (spots : List Spot) (columns : List ℕ) (least : ℕ) (p : Place)
    (new_rights new_lefts : List RowsValue) (new_spots : List Spot) (new_columns : List ℕ) (new_least : ℕ) → IsMet braid m g w rest a b → ArePlacesOf braid m g places → is_least is_killed braid (but_last w) ≡ true → is_least is_killed braid (drop 1 w) ≡ true →
    p ≡ place_at places (length columns) → IsPassing braid m g places (w ∷ rest) rights lefts spots columns least → new_rights ≡ with_row_of rights b (new_cells columns least p) → new_lefts ≡ with_row_of lefts a (new_cells columns least p) →
    new_spots ≡ spots_more spots b (length (rows_by rights b).rows) p → new_columns ≡ columns ++ least ∷ [] → new_least ≡ least_more least p → IsPassing braid m g places rest new_rights new_lefts new_spots new_columns new_least
new_word_passes braid is m g w rest a b places rights lefts spots columns least p new_rights new_lefts new_spots new_columns new_least met say first second at passing r l s c n =
    let row : IsNewRow braid m g w columns least p = new_row_met braid is m g w rest places rights lefts spots columns least p say first second at passing in
    let (less, word) = spot_place braid m g w rest a b places rights lefts spots columns least met first passing in
    subst (λ x. IsPassing braid m g places rest x new_lefts new_spots new_columns new_least) (sym r)
    (subst (λ x. IsPassing braid m g places rest (with_row_of rights b (new_cells columns least p)) x new_spots new_columns new_least) (sym l)
    (subst (λ (x : List Spot). IsPassing braid m g places rest (with_row_of rights b (new_cells columns least p)) (with_row_of lefts a (new_cells columns least p)) x new_columns new_least) (sym s)
    (subst (λ x. IsPassing braid m g places rest (with_row_of rights b (new_cells columns least p)) (with_row_of lefts a (new_cells columns least p)) (spots_more spots b (length (rows_by rights b).rows) p) x new_least) (sym c)
    (subst (λ x. IsPassing braid m g places rest (with_row_of rights b (new_cells columns least p)) (with_row_of lefts a (new_cells columns least p)) (spots_more spots b (length (rows_by rights b).rows) p) (columns ++ least ∷ []) x) (sym n)
    (record {
      right_letters = rows_count rights b (new_cells columns least p) braid.letters passing.right_letters;
      left_letters = rows_count lefts a (new_cells columns least p) braid.letters passing.left_letters;
      right = rights_more braid m g w rest rights b (new_cells columns least p) met.last passing.right_letters met.back first row.row row.below row.form passing.right;
      left = lefts_more braid m g w rest lefts a (new_cells columns least p) met.first passing.left_letters met.front second row.row row.below row.form passing.left;
      new = numbering_more braid is m g places w rest columns least p say (both braid w true true first second) passing.new at row;
      table = table_by_place braid m g w rest spots b (length (rows_by rights b).rows) p met.last less word first row.told passing.table;
    })))))

-- ---- a word that is read from the left

below_one : (n : ℕ) → suc n - 1 ≡ n
below_one n = omega arith

pub left_ready : (braid : BraidValue) → IsBraid braid → (m : ℕ) (g w : List ℕ) (rest : List (List ℕ)) (a b : ℕ) (places : List Place) (rights lefts : List RowsValue) (spots : List Spot) (columns : List ℕ) (least : ℕ) (cells : List Cell) → IsMet braid m g w rest a b →
    is_least is_killed braid (drop 1 w) ≡ false → IsPassing braid m g places (w ∷ rest) rights lefts spots columns least → AreCellsOf (left_lower_basis braid m g a) (normal_form is_killed braid (m - 1) (single (drop 1 w))) cells →
    IsReadAt braid m g w (rows_by lefts a) cells
left_ready braid is zero g w rest a b places rights lefts spots columns least cells met other passing are = absurd (omega (arith, met.some))
left_ready braid is (suc n) g w rest a b places rights lefts spots columns least cells met other passing are =
    read_left braid is n g w rest a lefts cells met.own.size met.own.over met.own.product met.first met.front other met.rising (passing.left a met.first)
    (subst (λ i. AreCellsOf (left_lower_basis braid (suc n) g a) (normal_form is_killed braid i (single (drop 1 w))) cells) (below_one n) are)

pub right_ready : (braid : BraidValue) → IsBraid braid → (m : ℕ) (g w : List ℕ) (rest : List (List ℕ)) (a b : ℕ) (places : List Place) (rights lefts : List RowsValue) (spots : List Spot) (columns : List ℕ) (least : ℕ) (cells : List Cell) → IsMet braid m g w rest a b →
    is_least is_killed braid (but_last w) ≡ false → IsPassing braid m g places (w ∷ rest) rights lefts spots columns least → AreCellsOf (lower_basis braid m g b) (normal_form is_killed braid (m - 1) (single (but_last w))) cells →
    IsReadAt braid m g w (rows_by rights b) cells
right_ready braid is zero g w rest a b places rights lefts spots columns least cells met other passing are = absurd (omega (arith, met.some))
right_ready braid is (suc n) g w rest a b places rights lefts spots columns least cells met other passing are =
    read_right braid is n g w rest b rights cells met.own.size met.own.over met.own.product met.last met.back other met.rising (passing.right b met.last)
    (subst (λ i. AreCellsOf (lower_basis braid (suc n) g b) (normal_form is_killed braid i (single (but_last w))) cells) (below_one n) are)

-- a wider table is wide enough
pub ready_below : (rows : List (List Cell)) (n width : ℕ) → n ≤ width → AllRowsBelow n rows → AllRowsBelow width rows
ready_below [] n width wide h = tt
ready_below (row ∷ rows) n width wide h = (wider row h.0, ready_below rows n width wide h.1)
  where
    wider : (cells : List Cell) → AllBelow n cells → AllBelow width cells
    wider [] b = tt
    wider (c ∷ cells) b = (omega (arith, b.0), wider cells b.1)

-- where w isn't least without its first letter, it isn't least
suffix_tells : (braid : BraidValue) → IsBraid braid → (w : List ℕ) (a : ℕ) → IsWordOver braid.letters w → w ≡ a ∷ drop 1 w → is_least is_killed braid (drop 1 w) ≡ false → is_least is_killed braid w ≡ false
suffix_tells braid is w a over word other = at (is_least is_killed braid w) refl
  where
    at : (s : Bool) → is_least is_killed braid w ≡ s → is_least is_killed braid w ≡ false
    at true e =
        absurd
        (let h : is_least is_killed braid (drop 1 w) ≡ true =
        suffix_is_least braid is.field is_killed (killed_is_ideal_from_left braid is) (a ∷ []) (drop 1 w) (subst (IsWordOver braid.letters) word over) (ap (is_least is_killed braid) (sym word) ∙ e) in
        let c : true ≡ false = sym h ∙ other in cc)
    at false e = e

pub left_word_passes : (braid : BraidValue) → IsBraid braid → (m : ℕ) (g w : List ℕ) (rest : List (List ℕ)) (a b : ℕ) (places : List Place) (rights lefts : List RowsValue) (spots : List Spot) (columns : List ℕ) (least : ℕ) (cells : List Cell) (new_rights : List RowsValue)
    (new_spots : List Spot) → IsMet braid m g w rest a b → is_least is_killed braid (but_last w) ≡ true → is_least is_killed braid (drop 1 w) ≡ false → IsPassing braid m g places (w ∷ rest) rights lefts spots columns least →
    IsReadAt braid m g w (rows_by lefts a) cells → IsSumPushedAt braid.field (rows_by lefts a).rows cells rights b new_rights → new_spots ≡ spots ++ record { letter = b; place = length (rows_by rights b).rows } ∷ [] →
    IsPassing braid m g places rest new_rights lefts new_spots columns least
left_word_passes braid is m g w rest a b places rights lefts spots columns least cells new_rights new_spots met first other passing read pushed s =
    let are : AreCellsOf (block_basis braid m g) (normal_form is_killed braid m (single w)) pushed.row = read.form pushed.row pushed.sum in
    let (less, word) = spot_place braid m g w rest a b places rights lefts spots columns least met first passing in
    subst (λ x. IsPassing braid m g places rest x lefts new_spots columns least) (sym pushed.closed)
    (subst (λ (x : List Spot). IsPassing braid m g places rest (with_row_of rights b pushed.row) lefts x columns least) (sym s)
    (record {
      right_letters = rows_count rights b pushed.row braid.letters passing.right_letters;
      left_letters = passing.left_letters;
      right = rights_more braid m g w rest rights b pushed.row met.last passing.right_letters met.back first are.row are.below are.form passing.right;
      left = lefts_pass braid m g w rest lefts other passing.left;
      new = numbering_pass (block_basis braid m g) (block_new_words braid m g) places (is_both braid) w rest columns least (both braid w true false first other) passing.new;
      table = table_more braid m g w rest spots b (length (rows_by rights b).rows) met.last less word
          (relates braid w true false first (suffix_tells braid is w a met.own.over met.front other)) passing.table;
    }))

-- ---- a word that is read from the right

pub right_word_passes : (braid : BraidValue) → IsBraid braid → (m : ℕ) (g w : List ℕ) (rest : List (List ℕ)) (a b : ℕ) (places : List Place) (rights lefts : List RowsValue) (spots : List Spot) (columns : List ℕ) (least : ℕ) (cells : List Cell) (new_lefts : List RowsValue) →
    IsMet braid m g w rest a b → is_least is_killed braid (drop 1 w) ≡ true → is_least is_killed braid (but_last w) ≡ false → IsPassing braid m g places (w ∷ rest) rights lefts spots columns least →
    IsReadAt braid m g w (rows_by rights b) cells → IsSumPushedAt braid.field (rows_by rights b).rows cells lefts a new_lefts → IsPassing braid m g places rest rights new_lefts spots columns least
right_word_passes braid is m g w rest a b places rights lefts spots columns least cells new_lefts met first other passing read pushed =
    let are : AreCellsOf (block_basis braid m g) (normal_form is_killed braid m (single w)) pushed.row = read.form pushed.row pushed.sum in
    subst (λ x. IsPassing braid m g places rest rights x spots columns least) (sym pushed.closed)
    (record {
      right_letters = passing.right_letters;
      left_letters = rows_count lefts a pushed.row braid.letters passing.left_letters;
      right = rights_pass braid m g w rest rights other passing.right;
      left = lefts_more braid m g w rest lefts a pushed.row met.first passing.left_letters met.front first are.row are.below are.form passing.left;
      new = numbering_pass (block_basis braid m g) (block_new_words braid m g) places (is_both braid) w rest columns least (both braid w false true other first) passing.new;
      table = table_pass braid m g w rest spots (ap (λ x. x && not (is_least is_killed braid w)) other) passing.table;
    })

-- ---- the beginning, and the end

pub pass_start : (braid : BraidValue) → IsBraid braid → (m : ℕ) (g : List ℕ) (places : List Place) (listed : List Listed) (rights lefts : List RowsValue) (n : ℕ) → 1 ≤ m → length g ≡ braid.letters → AreListed braid m g listed → n ≡ braid.letters →
    rights ≡ replicate n (record { rows = []; begun = [] }) → lefts ≡ replicate n (record { rows = []; begun = [] }) → IsPassing braid m g places (words_in listed) rights lefts [] [] 0
pass_start braid is m g places listed rights lefts n some size are letters r l =
    subst (λ ws. IsPassing braid m g places ws rights lefts [] [] 0) (sym are.words)
    (record {
      right_letters = ap length r ∙ length-replicate n _ ∙ letters;
      left_letters = ap length l ∙ length-replicate n _ ∙ letters;
      right = λ b lb.
          subst (IsSide (block_basis braid m g) (lower_basis braid m g b) (λ u. u ++ b ∷ []) (λ v. normal_form is_killed braid m (single v)) (is_right braid b) (listed_words braid m g)) (sym (each_none rights n b r))
          (side_start (block_basis braid m g) (lower_basis braid m g b) (λ u. u ++ b ∷ []) (λ v. normal_form is_killed braid m (single v)) (is_right braid b) (listed_words braid m g) (right_of_listed braid is m g some size b lb));
      left = λ a la.
          subst (IsSide (block_basis braid m g) (left_lower_basis braid m g a) (λ u. a ∷ u) (λ v. normal_form is_killed braid m (single v)) (is_left braid a) (listed_words braid m g)) (sym (each_none lefts n a l))
          (side_start (block_basis braid m g) (left_lower_basis braid m g a) (λ u. a ∷ u) (λ v. normal_form is_killed braid m (single v)) (is_left braid a) (listed_words braid m g) (left_of_listed braid m g some a la));
      new = record {
        done = [];
        ahead = block_new_words braid m g;
        places_done = [];
        places_ahead = places;
        parts = refl;
        places_parts = refl;
        as_many = refl;
        numbers = refl;
        words = new_of_listed braid m g some;
        count = refl;
        turns = λ p less. absurd (omega arith);
      };
      table = record { inside = tt; table = related_of_listed braid is m g some size };
    })
  where
    at_any : (k i : ℕ) → slice_index_or (replicate k (record { rows = []; begun = [] })) i no_rows ≡ no_rows
    at_any zero i = refl
    at_any (suc k) zero = refl
    at_any (suc k) (suc i) = at_any k i

    each_none : (lists : List RowsValue) (k b : ℕ) → lists ≡ replicate k (record { rows = []; begun = [] }) → rows_by lists b ≡ no_rows
    each_none lists k b e = ap (λ (xs : List RowsValue). rows_by xs b) e ∙ at_any k (b - 1)

pub pass_end : (braid : BraidValue) (m : ℕ) (g : List ℕ) (places : List Place) (rights lefts : List RowsValue) (spots : List Spot) (columns : List ℕ) (least : ℕ) → IsPassing braid m g places [] rights lefts spots columns least → AreFormsOf braid m g rights lefts spots
unfolding right_forms left_forms
pass_end braid m g places rights lefts spots columns least p = record {
  right = record {
    letters = p.right_letters;
    each = λ b lb. side_end (block_basis braid m g) (lower_basis braid m g b) (λ u. u ++ b ∷ []) (λ v. normal_form is_killed braid m (single v)) (is_right braid b) (rows_by rights b) (p.right b lb);
  };
  left = record {
    letters = p.left_letters;
    each = λ a la. side_end (block_basis braid m g) (left_lower_basis braid m g a) (λ u. a ∷ u) (λ v. normal_form is_killed braid m (single v)) (is_left braid a) (rows_by lefts a) (p.left a la);
  };
  inside = p.table.inside;
  table = sym (append-nil (map (relation_at (map (lower_basis braid m g) (up_to braid.letters)) (map (right_forms braid m g) (up_to braid.letters))) spots)) ∙ p.table.table;
}

-- no word is left behind the last
pub none_left : (listed : List Listed) → drop (length listed) (words_in listed) ≡ []
none_left [] = refl
none_left (l ∷ listed) = none_left listed
