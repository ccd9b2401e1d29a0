-- How a pass goes on at a new word: what its place says, and its number.
use Rattle.std.proofs.Common.{◌≡◌, ℕ, suc, ◌+◌, ◌<◌, Bool, true, false, not, cond, List, [], ◌∷◌, ◌++◌, length, slice_index, refl, sym, ◌∙◌, ap, ap₂, subst, arith, inl, inr, length-append}
use Rattle.std.specs.List.{filter, AllByRecursion, Contains}
use Rattle.std.specs.declared.cmp.Ordering.TheVariants.{Less}
use Rattle.std.proofs.lemmas.Bool.{cases_lt}
use Rattle.std.proofs.lemmas.List.Elements.{All-from_recursion}
use Rattle.std.proofs.lemmas.List.{get_or_append_left}
use Rattle.std.proofs.Math.Seq.{get_or-append_seam}
use Rattle.nichols_tensor.specs.Combination.{Combination, AllAmong, single, words_of, AllNonzero}
use Rattle.nichols_tensor.specs.Positions.{word_at}
use Rattle.nichols_tensor.specs.Relation.{PlainRelation}
use Rattle.nichols_tensor.specs.Words.{IsWordOver}
use Rattle.nichols_tensor.specs.WordOrder.{word_cmp, IsOrdered, IsRising}
use Rattle.nichols_tensor.specs.WordOrder.{IsBelowFirst as IsWordBelowFirst}
use Rattle.nichols_tensor.proofs.Entries.{contains_first, contains_later, from_filter, from_map}
use Rattle.nichols_tensor.proofs.Rising.{in_middle, position_below}
use Rattle.nichols_braid.specs.Braid.{BraidValue, IsBraid}
use Rattle.nichols_braid.specs.Kernel.{is_killed}
use Rattle.nichols_braid.specs.Least.{basis, is_least, normal_form}
use Rattle.nichols_braid.specs.LeastLaws.{IsNormalForm, IsOfEarlierWords}
use Rattle.nichols_braid.specs.NewWords.{is_new}
use Rattle.nichols_braid.specs.Product.{product_of}
use Rattle.nichols_braid.proofs.BraidLaws.{killed_is_linear}
use Rattle.nichols_braid.proofs.LookingBack.{normal_forms_look_back}
use Rattle.nichols_braid.proofs.NormalForms.{form_of_least}
use Rattle.nichols_braid.proofs.Reduction.{from_basis}
use Rattle.nichols_echelon.specs.Cells.{AllBelow, Cell, IsRow, columns_of}
use Rattle.nichols_echelon.specs.Cells.{AllNonzero as AllCellsNonzero, IsBelowFirst as IsColumnBelow, IsRising as AreColumnsRising}
use Rattle.nichols_echelon.specs.declared.rows.Place.{Place}
use Rattle.nichols_echelon.specs.declared.rows.Place.TheVariants.{Independent, Depends}
use Rattle.nichols_echelon.specs.Split.{place_at}
use Rattle.nichols_rows.specs.CombinationAt.{combination_at}
use Rattle.nichols_rows.specs.Places.{IsInside, dependent_in, independent_in}
use Rattle.nichols_value.specs.Block.{block_basis}
use Rattle.nichols_value.proofs.Blocks.{from_block_basis, normal_in_block, block_basis_rises}
use Rattle.nichols_value.proofs.RuleEntries.{word_form_is_normal}
use Rattle.nichols_block.specs.Pass.{IsNumbering, is_both, least_more, new_cells, cells_at_columns}
use Rattle.nichols_block.specs.Places.{ArePlacesOf, new_relations}
use Rattle.nichols_block.specs.Words.{block_new_words}
use Rattle.nichols_block.proofs.NewBlockWords.{block_new_words_rise, from_block_new_words}

-- ---- lists

independent_in-append : {X : Type 0} (xs ys : List X) (ps qs : List Place) → length ps ≡ length xs → independent_in (xs ++ ys) (ps ++ qs) ≡ independent_in xs ps ++ independent_in ys qs
independent_in-append [] ys [] qs e = refl
independent_in-append [] ys (p ∷ ps) qs e = absurd (omega arith)
independent_in-append (x ∷ xs) ys [] qs e = absurd (omega arith)
independent_in-append (x ∷ xs) ys (Independent ∷ ps) qs e = ap (λ zs. x ∷ zs) (independent_in-append xs ys ps qs (omega arith))
independent_in-append (x ∷ xs) ys (Depends cells ∷ ps) qs e = independent_in-append xs ys ps qs (omega arith)

in_dependent : (all xs : List (List ℕ)) (w : List ℕ) (ys : List (List ℕ)) (ps : List Place) (cells : List Cell) (qs : List Place) → length ps ≡ length xs →
    Contains (dependent_in all (xs ++ w ∷ ys) (ps ++ Depends cells ∷ qs)) (record { candidate = w; form = combination_at all cells })
in_dependent all [] w ys [] cells qs e = contains_first _ _
in_dependent all [] w ys (p ∷ ps) cells qs e = absurd (omega arith)
in_dependent all (x ∷ xs) w ys [] cells qs e = absurd (omega arith)
in_dependent all (x ∷ xs) w ys (Independent ∷ ps) cells qs e = in_dependent all xs w ys ps cells qs (omega arith)
in_dependent all (x ∷ xs) w ys (Depends ds ∷ ps) cells qs e = contains_later _ _ _ (in_dependent all xs w ys ps cells qs (omega arith))

-- cells whose combination is in order are a row
row_from_ordered : (ws : List (List ℕ)) → IsRising ws → (cells : List Cell) → AllBelow (length ws) cells → IsOrdered (combination_at ws cells) → IsRow cells
row_from_ordered ws rising cells below ordered = record { rising = up cells below ordered.rising; nonzero = nonzero cells ordered.nonzero }
  where
    nonzero : (ds : List Cell) → AllNonzero (combination_at ws ds) → AllCellsNonzero ds
    nonzero [] h = tt
    nonzero (d ∷ ds) h = (h.0, nonzero ds h.1)

    first : (c : Cell) (ds : List Cell) → c.column < length ws → AllBelow (length ws) ds → IsWordBelowFirst (word_at ws c.column) (words_of (combination_at ws ds)) → IsColumnBelow c.column (columns_of ds)
    first c [] inside b h = tt
    first c (d ∷ ds) inside b h = position_below ws c.column d.column rising inside b.0 h

    up : (ds : List Cell) → AllBelow (length ws) ds → IsRising (words_of (combination_at ws ds)) → AreColumnsRising (columns_of ds)
    up [] b h = tt
    up (d ∷ ds) b h = (first d ds b.0 b.1 h.0, up ds b.1 h.1)

-- ---- a word that isn't new

pub numbering_pass : (ws new : List (List ℕ)) (places : List Place) (test : List ℕ → Bool) (w : List ℕ) (rest : List (List ℕ)) (columns : List ℕ) (least : ℕ) → test w ≡ false →
    IsNumbering ws new places test (w ∷ rest) columns least → IsNumbering ws new places test rest columns least
numbering_pass ws new places test w rest columns least fails n = record {
  done = n.done;
  ahead = n.ahead;
  places_done = n.places_done;
  places_ahead = n.places_ahead;
  parts = n.parts;
  places_parts = n.places_parts;
  as_many = n.as_many;
  numbers = n.numbers;
  words = sym (ap (λ b. cond b (w ∷ filter test rest) (filter test rest)) fails) ∙ n.words;
  count = n.count;
  turns = n.turns;
}

-- ---- a new word

-- it is the next one, and its place is the next one
record IsNextNew (new : List (List ℕ)) (places : List Place) (w : List ℕ) (done : List (List ℕ)) (places_done : List Place) (behind : List (List ℕ)) (p : Place) : Type 0 where
  later : List (List ℕ)
  places_later : List Place
  parts : new ≡ done ++ w ∷ later
  places_parts : places ≡ places_done ++ p ∷ places_later
  words : behind ≡ later

next_new : (new : List (List ℕ)) (places : List Place) (test : List ℕ → Bool) (w : List ℕ) (rest done ahead : List (List ℕ)) (places_done places_ahead : List Place) → test w ≡ true → length places ≡ length new → new ≡ done ++ ahead →
    places ≡ places_done ++ places_ahead → length places_done ≡ length done → filter test (w ∷ rest) ≡ ahead → IsNextNew new places w done places_done (filter test rest) (place_at places (length done))
next_new new places test w rest done [] places_done ps passes count parts places_parts as_many words =
    absurd (let c : ◌≡◌ {A = List (List ℕ)} (w ∷ filter test rest) [] = sym (ap (λ b. cond b (w ∷ filter test rest) (filter test rest)) passes) ∙ words in cc)
next_new new places test w rest done (u ∷ ahead) places_done [] passes count parts places_parts as_many words =
    absurd
    (let e : length new ≡ length done + suc (length ahead) = ap length parts ∙ length-append done (u ∷ ahead) in
    let f : length places ≡ length places_done + 0 = ap length places_parts ∙ length-append places_done [] in omega arith)
next_new new places test w rest done (u ∷ ahead) places_done (p ∷ ps) passes count parts places_parts as_many words =
    let c : ◌≡◌ {A = List (List ℕ)} (w ∷ filter test rest) (u ∷ ahead) = sym (ap (λ b. cond b (w ∷ filter test rest) (filter test rest)) passes) ∙ words in
    let same : u ≡ w = cc in
    let at : place_at places (length done) ≡ p = ap₂ (λ (xs : List Place) n. place_at xs n) places_parts (sym as_many) ∙ get_or-append_seam places_done p ps Independent in record {
      later = ahead;
      places_later = ps;
      parts = parts ∙ ap (λ v. done ++ v ∷ ahead) same;
      places_parts = places_parts ∙ ap (λ (q : Place). places_done ++ q ∷ ps) (sym at);
      words = (cc);
    }

-- there is a place for it
pub place_is_there : (ws new : List (List ℕ)) (places : List Place) (test : List ℕ → Bool) (w : List ℕ) (rest : List (List ℕ)) (columns : List ℕ) (least : ℕ) → test w ≡ true → length places ≡ length new →
    IsNumbering ws new places test (w ∷ rest) columns least → length columns < length places
place_is_there ws new places test w rest columns least passes count n =
    let x : IsNextNew new places w n.done n.places_done (filter test rest) (place_at places (length n.done)) =
    next_new new places test w rest n.done n.ahead n.places_done n.places_ahead passes count n.parts n.places_parts n.as_many n.words in
    let e : length new ≡ length n.done + suc (length x.later) = ap length x.parts ∙ length-append n.done (w ∷ x.later) in
    let f : length columns ≡ length n.done = n.numbers in omega arith

-- whether the word is least, by its place
abbrev pub IsToldBy : BraidValue → List ℕ → Place → Type 0
IsToldBy braid w Independent = is_least is_killed braid w ≡ true
IsToldBy braid w (Depends cells) = is_least is_killed braid w ≡ false

-- what its place says
pub record IsNewRow (braid : BraidValue) (m : ℕ) (g : List ℕ) (w : List ℕ) (columns : List ℕ) (least : ℕ) (p : Place) : Type 0 where
  pub inside : IsInside (length columns) p
  pub row : IsRow (new_cells columns least p)
  pub below : AllBelow (length (block_basis braid m g)) (new_cells columns least p)
  pub form : combination_at (block_basis braid m g) (new_cells columns least p) ≡ normal_form is_killed braid m (single w)
  pub told : IsToldBy braid w p

independent_row : (braid : BraidValue) → IsBraid braid → (m : ℕ) (g w : List ℕ) (columns : List ℕ) (least : ℕ) (fronts backs : List (List ℕ)) → block_basis braid m g ≡ fronts ++ w ∷ backs → least ≡ length fronts → IsNewRow braid m g w columns least Independent
independent_row braid is m g w columns least fronts backs parts count = record {
  inside = tt;
  row = record { rising = (tt, tt); nonzero = (λ e. absurd (omega (arith, e)), tt) };
  below = (let size : length (block_basis braid m g) ≡ length fronts + suc (length backs) = ap length parts ∙ length-append fronts (w ∷ backs) in omega arith, tt);
  form =
      ap single (ap₂ (λ vs n. word_at vs n) parts count ∙ get_or-append_seam fronts w backs [])
      ∙ sym (form_of_least is_killed braid is.field m (killed_is_linear braid is m) w here);
  told = (from_basis is_killed braid m w here).2;
}
  where
    here : Contains (basis is_killed braid m) w
    here = (from_block_basis braid m g w (subst (λ vs. Contains vs w) (sym parts) (in_middle fronts w backs))).0

-- the words that it depends on have numbers
depends_row : (braid : BraidValue) → IsBraid braid → (m : ℕ) (g w : List ℕ) (columns : List ℕ) (least : ℕ) (done later : List (List ℕ)) (cells : List Cell) → block_new_words braid m g ≡ done ++ w ∷ later → length columns ≡ length done →
    AllBelow (length (block_new_words braid m g)) cells → combination_at (block_new_words braid m g) cells ≡ normal_form is_killed braid m (single w) → is_least is_killed braid w ≡ false →
    ((p : ℕ) → p < length columns → Contains (block_basis braid m g) (word_at (block_new_words braid m g) p) →
    (slice_index columns p < length (block_basis braid m g)) × (word_at (block_basis braid m g) (slice_index columns p) ≡ word_at (block_new_words braid m g) p)) →
    IsNewRow braid m g w columns least (Depends cells)
unfolding AllAmong
depends_row braid is m g w columns least done later cells parts numbers below form not_least turns = record {
  inside = inside cells below among earlier;
  row = row_from_ordered ws (block_basis_rises braid m g) (cells_at_columns columns cells) (turned_below cells below among earlier) (subst IsOrdered (sym whole) normal.ordered);
  below = turned_below cells below among earlier;
  form = whole;
  told = not_least;
}
  where
    ws : List (List ℕ)
    ws = block_basis braid m g

    new : List (List ℕ)
    new = block_new_words braid m g

    own : (length w ≡ m) × IsWordOver braid.letters w × (product_of braid w ≡ g) × (is_new is_killed braid w ≡ true)
    own = from_block_new_words braid m g w (subst (λ vs. Contains vs w) (sym parts) (in_middle done w later))

    normal : IsNormalForm is_killed braid m (single w) (normal_form is_killed braid m (single w))
    normal = word_form_is_normal braid is m w own.0 own.1

    among : AllAmong (combination_at new cells) ws
    among = subst (λ (f : Combination). AllAmong f ws) (sym form) (normal_in_block braid is m g w own.0 own.1 own.2)

    back : IsOfEarlierWords braid w (normal_form is_killed braid (length w) (single w))
    back = (normal_forms_look_back is_killed braid is.field w own.1 (killed_is_linear braid is (length w))).1 not_least

    earlier : AllByRecursion (λ t. word_cmp t.word w ≡ Less) (combination_at new cells)
    earlier = subst (AllByRecursion (λ t. word_cmp t.word w ≡ Less)) (ap (λ n. normal_form is_killed braid n (single w)) own.0 ∙ sym form) back.earlier

    there : (i : ℕ) → i < length new → word_cmp (word_at new i) w ≡ Less → i < length columns
    there i less before =
        let at : word_at new (length done) ≡ w = ap (λ vs. word_at vs (length done)) parts ∙ get_or-append_seam done w later [] in
        let size : length new ≡ length done + suc (length later) = ap length parts ∙ length-append done (w ∷ later) in
        let h : i < length done = position_below new i (length done) (block_new_words_rise braid m g) less (omega arith) (ap (word_cmp (word_at new i)) at ∙ before) in omega (arith, h, numbers)

    inside : (ds : List Cell) → AllBelow (length new) ds → AllAmong (combination_at new ds) ws → AllByRecursion (λ t. word_cmp t.word w ≡ Less) (combination_at new ds) → AllBelow (length columns) ds
    inside [] b a e = tt
    inside (d ∷ ds) b a e = (there d.column b.0 e.0, inside ds b.1 a.1 e.1)

    turned_below : (ds : List Cell) → AllBelow (length new) ds → AllAmong (combination_at new ds) ws → AllByRecursion (λ t. word_cmp t.word w ≡ Less) (combination_at new ds) → AllBelow (length ws) (cells_at_columns columns ds)
    turned_below [] b a e = tt
    turned_below (d ∷ ds) b a e = ((turns d.column (there d.column b.0 e.0) a.0).0, turned_below ds b.1 a.1 e.1)

    turned_form : (ds : List Cell) → AllBelow (length new) ds → AllAmong (combination_at new ds) ws → AllByRecursion (λ t. word_cmp t.word w ≡ Less) (combination_at new ds) → combination_at ws (cells_at_columns columns ds) ≡ combination_at new ds
    turned_form [] b a e = refl
    turned_form (d ∷ ds) b a e =
        ap₂ (λ v (f : Combination). record { word = v; coefficient = d.coefficient } ∷ f) (turns d.column (there d.column b.0 e.0) a.0).1 (turned_form ds b.1 a.1 e.1)

    whole : combination_at ws (cells_at_columns columns cells) ≡ normal_form is_killed braid m (single w)
    whole = turned_form cells below among earlier ∙ form

-- what the places say of a word that depends on others
depends_says : (braid : BraidValue) (m : ℕ) (g w : List ℕ) (f : Combination) → Contains (new_relations braid m g) (record { candidate = w; form = f }) → (f ≡ normal_form is_killed braid m (single w)) × (is_least is_killed braid w ≡ false)
unfolding new_relations
depends_says braid m g w f i =
    let (v, j, e) = from_map (relation_of m) (record { candidate = w; form = f }) (filter (λ u. not (is_least is_killed braid u)) (block_new_words braid m g)) i in
    let (k, h) = from_filter (λ u. not (is_least is_killed braid u)) v (block_new_words braid m g) j in
    let same : w ≡ v = ap (λ (r : PlainRelation). r.candidate) e in (
      ap (λ (r : PlainRelation). r.form) e ∙ ap (λ u. normal_form is_killed braid m (single u)) (sym same),
      ap (is_least is_killed braid) same ∙ not_back (is_least is_killed braid v) h,
    )
  where
    relation_of : ℕ → List ℕ → PlainRelation
    relation_of n u = record { candidate = u; form = normal_form is_killed braid n (single u) }

    not_back : (b : Bool) → not b ≡ true → b ≡ false
    not_back true e = cc
    not_back false e = refl

new_row_at : (braid : BraidValue) → IsBraid braid → (m : ℕ) (g w : List ℕ) (places : List Place) (columns : List ℕ) (least : ℕ) (done later : List (List ℕ)) (places_done places_later : List Place) → ArePlacesOf braid m g places →
    block_new_words braid m g ≡ done ++ w ∷ later → length columns ≡ length done → length places_done ≡ length done → least ≡ length (independent_in done places_done) →
    ((p : ℕ) → p < length columns → Contains (block_basis braid m g) (word_at (block_new_words braid m g) p) →
    (slice_index columns p < length (block_basis braid m g)) × (word_at (block_basis braid m g) (slice_index columns p) ≡ word_at (block_new_words braid m g) p)) →
    (p : Place) → places ≡ places_done ++ p ∷ places_later → IsInside (length (block_new_words braid m g)) p → IsNewRow braid m g w columns least p
new_row_at braid is m g w places columns least done later places_done places_later say parts numbers as_many count turns Independent places_parts inside =
    independent_row braid is m g w columns least (independent_in done places_done) (independent_in later places_later)
    (sym say.least ∙ ap₂ (λ vs (ps : List Place). independent_in vs ps) parts places_parts ∙ independent_in-append done (w ∷ later) places_done (Independent ∷ places_later) as_many) count
new_row_at braid is m g w places columns least done later places_done places_later say parts numbers as_many count turns (Depends cells) places_parts inside =
    let listed : Contains (new_relations braid m g) (record { candidate = w; form = combination_at (block_new_words braid m g) cells }) =
    subst (λ (rs : List PlainRelation). Contains rs (record { candidate = w; form = combination_at (block_new_words braid m g) cells })) say.others
    (subst (λ vs. Contains (dependent_in (block_new_words braid m g) vs places) (record { candidate = w; form = combination_at (block_new_words braid m g) cells })) (sym parts)
    (subst (λ (ps : List Place). Contains (dependent_in (block_new_words braid m g) (done ++ w ∷ later) ps) (record { candidate = w; form = combination_at (block_new_words braid m g) cells })) (sym places_parts)
    (in_dependent (block_new_words braid m g) done w later places_done cells places_later as_many))) in
    let (form, not_least) = depends_says braid m g w (combination_at (block_new_words braid m g) cells) listed in
    depends_row braid is m g w columns least done later cells parts numbers inside form not_least turns

-- the row of a new word
pub new_row : (braid : BraidValue) → IsBraid braid → (m : ℕ) (g : List ℕ) (places : List Place) (w : List ℕ) (rest : List (List ℕ)) (columns : List ℕ) (least : ℕ) (p : Place) → ArePlacesOf braid m g places → is_both braid w ≡ true →
    IsNumbering (block_basis braid m g) (block_new_words braid m g) places (is_both braid) (w ∷ rest) columns least → p ≡ place_at places (length columns) → IsNewRow braid m g w columns least p
new_row braid is m g places w rest columns least p say passes n at =
    let x : IsNextNew (block_new_words braid m g) places w n.done n.places_done (filter (is_both braid) rest) (place_at places (length n.done)) =
    next_new (block_new_words braid m g) places (is_both braid) w rest n.done n.ahead n.places_done n.places_ahead passes say.count n.parts n.places_parts n.as_many n.words in
    let there : length columns < length places = place_is_there (block_basis braid m g) (block_new_words braid m g) places (is_both braid) w rest columns least passes say.count n in
    let same : place_at places (length n.done) ≡ p = ap (place_at places) (sym n.numbers) ∙ sym at in
    new_row_at braid is m g w places columns least n.done x.later n.places_done x.places_later say x.parts n.numbers n.as_many n.count n.turns p
    (x.places_parts ∙ ap (λ (q : Place). n.places_done ++ q ∷ x.places_later) same)
    (subst (IsInside (length (block_new_words braid m g))) (sym at) (All-from_recursion (IsInside (length (block_new_words braid m g))) places say.inside (length columns) Independent there))

-- it gets its number
more_least : (done : List (List ℕ)) (w : List ℕ) (places_done : List Place) (p : Place) (least : ℕ) → length places_done ≡ length done → least ≡ length (independent_in done places_done) →
    least_more least p ≡ length (independent_in (done ++ w ∷ []) (places_done ++ p ∷ []))
more_least done w places_done Independent least as_many count =
    let e : length (independent_in done places_done ++ w ∷ []) ≡ length (independent_in done places_done) + 1 = length-append (independent_in done places_done) (w ∷ []) in
    let f : suc least ≡ length (independent_in done places_done ++ w ∷ []) = omega arith in
    f ∙ ap length (sym (independent_in-append done (w ∷ []) places_done (Independent ∷ []) as_many))
more_least done w places_done (Depends cells) least as_many count =
    let e : length (independent_in done places_done ++ []) ≡ length (independent_in done places_done) + 0 = length-append (independent_in done places_done) [] in
    let f : least ≡ length (independent_in done places_done ++ []) = omega arith in
    f ∙ ap length (sym (independent_in-append done (w ∷ []) places_done (Depends cells ∷ []) as_many))

-- of the least words it is the place
own_number : (braid : BraidValue) (m : ℕ) (g w : List ℕ) (columns : List ℕ) (least : ℕ) (p : Place) → IsNewRow braid m g w columns least p → combination_at (block_basis braid m g) (new_cells columns least p) ≡ normal_form is_killed braid m (single w) →
    Contains (block_basis braid m g) w → IsBraid braid → (least < length (block_basis braid m g)) × (word_at (block_basis braid m g) least ≡ w)
own_number braid m g w columns least Independent r form here is =
    let e : ◌≡◌ {A = Combination} (single (word_at (block_basis braid m g) least)) (single w) = form ∙ form_of_least is_killed braid is.field m (killed_is_linear braid is m) w (from_block_basis braid m g w here).0 in (r.below.0, ap first_word e)
  where
    first_word : Combination → List ℕ
    first_word [] = []
    first_word (t ∷ ts) = t.word
own_number braid m g w columns least (Depends cells) r form here is =
    absurd (let c : true ≡ false = sym (from_basis is_killed braid m w (from_block_basis braid m g w here).0).2 ∙ r.told in cc)

pub numbering_more : (braid : BraidValue) → IsBraid braid → (m : ℕ) (g : List ℕ) (places : List Place) (w : List ℕ) (rest : List (List ℕ)) (columns : List ℕ) (least : ℕ) (p : Place) → ArePlacesOf braid m g places → is_both braid w ≡ true →
    IsNumbering (block_basis braid m g) (block_new_words braid m g) places (is_both braid) (w ∷ rest) columns least → p ≡ place_at places (length columns) → IsNewRow braid m g w columns least p →
    IsNumbering (block_basis braid m g) (block_new_words braid m g) places (is_both braid) rest (columns ++ least ∷ []) (least_more least p)
numbering_more braid is m g places w rest columns least p say passes n at r =
    let x : IsNextNew new places w n.done n.places_done (filter (is_both braid) rest) (place_at places (length n.done)) =
    next_new new places (is_both braid) w rest n.done n.ahead n.places_done n.places_ahead passes say.count n.parts n.places_parts n.as_many n.words in
    let same : place_at places (length n.done) ≡ p = ap (place_at places) (sym n.numbers) ∙ sym at in
    let last : word_at new (length columns) ≡ w = ap₂ (λ vs i. word_at vs i) x.parts n.numbers ∙ get_or-append_seam n.done w x.later [] in
    record {
      done = n.done ++ w ∷ [];
      ahead = x.later;
      places_done = n.places_done ++ p ∷ [];
      places_ahead = x.places_later;
      parts = x.parts ∙ joined n.done w x.later;
      places_parts = x.places_parts ∙ ap (λ (q : Place). n.places_done ++ q ∷ x.places_later) same ∙ joined n.places_done p x.places_later;
      as_many = length-append n.places_done (p ∷ []) ∙ ap (λ i. i + 1) n.as_many ∙ sym (length-append n.done (w ∷ []));
      numbers = length-append columns (least ∷ []) ∙ ap (λ i. i + 1) n.numbers ∙ sym (length-append n.done (w ∷ []));
      words = x.words;
      count = more_least n.done w n.places_done p least n.as_many n.count;
      turns = turns last;
    }
  where
    ws : List (List ℕ)
    ws = block_basis braid m g

    new : List (List ℕ)
    new = block_new_words braid m g

    joined : {X : Type 0} (xs : List X) (y : X) (ys : List X) → xs ++ y ∷ ys ≡ (xs ++ y ∷ []) ++ ys
    joined [] y ys = refl
    joined (z ∷ xs) y ys = ap (λ zs. z ∷ zs) (joined xs y ys)

    turns : word_at new (length columns) ≡ w → (q : ℕ) → q < length (columns ++ least ∷ []) → Contains ws (word_at new q) →
        (slice_index (columns ++ least ∷ []) q < length ws) × (word_at ws (slice_index (columns ++ least ∷ []) q) ≡ word_at new q)
    turns last q less here =
        elim (cases_lt q (length columns)) [
          | inl before ↦
              let e : slice_index (columns ++ least ∷ []) q ≡ slice_index columns q = get_or_append_left columns (least ∷ []) 0 q before in
              let t : (slice_index columns q < length ws) × (word_at ws (slice_index columns q) ≡ word_at new q) = n.turns q before here in (subst (λ i. i < length ws) (sym e) t.0, ap (word_at ws) e ∙ t.1)
          | inr behind ↦
              let size : length (columns ++ least ∷ []) ≡ length columns + 1 = length-append columns (least ∷ []) in
              let at_end : q ≡ length columns = omega arith in
              let e : slice_index (columns ++ least ∷ []) q ≡ least = ap (slice_index (columns ++ least ∷ [])) at_end ∙ get_or-append_seam columns least [] 0 in
              let word : word_at new q ≡ w = ap (word_at new) at_end ∙ last in
              let t : (least < length ws) × (word_at ws least ≡ w) = own_number braid m g w columns least p r r.form (subst (Contains ws) word here) is in
              (subst (λ i. i < length ws) (sym e) t.0, ap (word_at ws) e ∙ t.1 ∙ sym word)
        ]
