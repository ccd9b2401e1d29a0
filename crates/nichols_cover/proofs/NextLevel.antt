-- What the places of the candidates' own rows say: the least words of a degree, by number, and the normal forms of the others.
use Rattle.std.proofs.Common.{◌≡◌, ℕ, zero, suc, ◌+◌, ◌-◌, ◌*◌, ◌<◌, ◌≤◌, ◌^◌, Bool, true, false, cond, List, [], ◌∷◌, ◌++◌, filter, length, take, drop, get_or, refl, sym, ◌∙◌, ap, ap₂, subst, arith, length-append, add-one}
use Rattle.std.specs.List.{AllByRecursion, range_with_len}
use Rattle.std.proofs.lemmas.List.{get_or-drop, get_or_default, length-drop, length-map, take_all}
use Rattle.std.proofs.lemmas.List.Filters.{length-filter_more}
use Rattle.std.proofs.lemmas.List.FromFn.{get_or-map-range_with_len, length-map-range_with_len, length-range_with_len}
use Rattle.nichols_field.specs.Field.{FieldValue, IsField}
use Rattle.nichols_field.proofs.FieldLaws.{one_is_element}
use Rattle.nichols_tensor.specs.Combination.{AllAmong, Combination, single}
use Rattle.nichols_tensor.specs.Positions.{word_at}
use Rattle.nichols_tensor.specs.Relation.{PlainRelation}
use Rattle.nichols_tensor.specs.Words.{IsWordOver}
use Rattle.nichols_tensor.proofs.Entries.{from_map}
use Rattle.nichols_tensor.proofs.Over.{all-append, all-weaker}
use Rattle.nichols_tensor.proofs.Pushed.{with_letters_length}
use Rattle.nichols_tensor.proofs.Rising.{word_at_is_in}
use Rattle.nichols_tensor.proofs.Tests.{all_of_entries}
use Rattle.nichols_braid.specs.Braid.{BraidValue}
use Rattle.nichols_braid.specs.Kernel.{Vanishing}
use Rattle.nichols_braid.specs.Least.{candidates, is_least}
use Rattle.nichols_braid.proofs.Candidates.{candidates_next, from_candidates}
use Rattle.nichols_braid.proofs.Degrees.{minus_degree, minus_over}
use Rattle.nichols_braid.proofs.LeastLaws.{basis_is_among_candidates}
use Rattle.nichols_braid.proofs.NormalForms.{form_is_normal, form_of_least}
use Rattle.nichols_braid.proofs.Reduction.{from_basis, in_basis}
use Rattle.nichols_echelon.specs.Cells.{AllBelow, Cell, IsRow}
use Rattle.nichols_echelon.specs.Cells.{AllElements as AllCellsElements}
use Rattle.nichols_echelon.specs.Combination.{AllRowsElements, AreRows, row_at}
use Rattle.nichols_echelon.specs.Rows.{RowsValue}
use Rattle.nichols_echelon.specs.Split.{IsPlace, IsSplit, place_at}
use Rattle.nichols_echelon.specs.declared.rows.Place.{Place}
use Rattle.nichols_echelon.specs.declared.rows.Place.TheVariants.{Independent, Depends}
use Rattle.nichols_echelon.proofs.Shapes.{all_rows, row_cons, row_nil}
use Rattle.nichols_rows.specs.CombinationAt.{combination_at}
use Rattle.nichols_rows.specs.Places.{IsInside}
use Rattle.nichols_cover.specs.declared.level.Level.{Level}
use Rattle.nichols_cover.specs.Cover.{cover_dimension, without_tables}
use Rattle.nichols_cover.specs.Ideal.{generators, in_ideal}
use Rattle.nichols_cover.specs.Laws.{IsQuadratic}
use Rattle.nichols_cover.specs.Level.{AreFormCells, IsMadeOf, IsQuadraticRelation, IsTable, StandsFor, candidate_form, least_words}
use Rattle.nichols_cover.specs.Rows.{AreProductRows, form_at, form_cells, forms_of, is_independent, number_at, numbered}
use Rattle.nichols_cover.specs.Units.{behind, unit_row, unit_rows}
use Rattle.nichols_cover.proofs.Forms.{number_more, number_none}
use Rattle.nichols_cover.proofs.InIdeal.{ideal_is_right_ideal}
use Rattle.nichols_cover.proofs.Levels.{AreSpanning, spanning}
use Rattle.nichols_cover.proofs.Units.{IsToldBy, behind_below, behind_elements, unit_rows_tell_least_words}

-- ---- entries that pass a test, by number

-- an entry that passes stands among those that do at the number of those before it
kept_at : {X : Type 0} (test : X → Bool) (xs : List X) (j : ℕ) (d : X) → j < length xs → test (get_or xs j d) ≡ true → (length (filter test (take j xs)) < length (filter test xs)) × (get_or (filter test xs) (length (filter test (take j xs))) d ≡ get_or xs j d)
kept_at test [] j d less passes = absurd (omega arith)
kept_at test (x ∷ xs) zero d less passes = at (test x) passes
  where
    at : (b : Bool) → b ≡ true → (0 < length (cond b (x ∷ filter test xs) (filter test xs))) × (get_or (cond b (x ∷ filter test xs) (filter test xs)) 0 d ≡ x)
    at true e = (omega arith, refl)
    at false e = absurd (let c : false ≡ true = e in cc)
kept_at test (x ∷ xs) (suc j) d less passes = at (test x) (kept_at test xs j d (omega arith) passes)
  where
    at : (b : Bool) → (length (filter test (take j xs)) < length (filter test xs)) × (get_or (filter test xs) (length (filter test (take j xs))) d ≡ get_or xs j d) →
        (length (cond b (x ∷ filter test (take j xs)) (filter test (take j xs))) < length (cond b (x ∷ filter test xs) (filter test xs)))
        × (get_or (cond b (x ∷ filter test xs) (filter test xs)) (length (cond b (x ∷ filter test (take j xs)) (filter test (take j xs)))) d ≡ get_or xs j d)
    at true (low, here) = (omega arith, here)
    at false (low, here) = (low, here)

-- ---- places of candidates

-- what a place has besides
abbrev IsGoodPlace : FieldValue → ℕ → ℕ → Place → Type 0
IsGoodPlace k others j Independent = Unit {0}
IsGoodPlace k others j (Depends cells) = AllBelow (others + j) cells × AllCellsElements k cells

-- the places of the candidates' own rows, which stood behind others
pub record AreOwnPlaces (k : FieldValue) (n : ℕ) (rs : List Combination) (m others : ℕ) (places : List Place) : Type 0 where
  count : length places ≡ length (candidates (in_ideal rs) (without_tables k n) m)
  told : (j : ℕ) → j < length (candidates (in_ideal rs) (without_tables k n) m) → IsToldBy (in_ideal rs) (without_tables k n) m others (word_at (candidates (in_ideal rs) (without_tables k n) m) j) (place_at places j)
  good : (j : ℕ) → j < length (candidates (in_ideal rs) (without_tables k n) m) → IsGoodPlace k others j (place_at places j)

independent_is : (vanishes : Vanishing) (braid : BraidValue) (m others : ℕ) (w : List ℕ) (p : Place) → IsToldBy vanishes braid m others w p → is_independent p ≡ is_least vanishes braid w
independent_is vanishes braid m others w Independent h = sym h
independent_is vanishes braid m others w (Depends cells) h = sym h.0

numbers_agree : (k : FieldValue) (n : ℕ) (rs : List Combination) (m others : ℕ) (places : List Place) → AreOwnPlaces k n rs m others places → (j : ℕ) → j ≤ length (candidates (in_ideal rs) (without_tables k n) m) →
    number_at places j ≡ length (filter (is_least (in_ideal rs) (without_tables k n)) (take j (candidates (in_ideal rs) (without_tables k n) m)))
numbers_agree k n rs m others places own zero within = number_none places
numbers_agree k n rs m others places own (suc j) within =
    let ws : List (List ℕ) = candidates (in_ideal rs) (without_tables k n) m in
    let least : List ℕ → Bool = is_least (in_ideal rs) (without_tables k n) in
    let inside : j < length (candidates (in_ideal rs) (without_tables k n) m) = omega arith in
    let here : j < length places = (let count : length places ≡ length (candidates (in_ideal rs) (without_tables k n) m) = own.count in omega arith) in
    let p : Place = place_at places j in
    ap (number_at places) (sym (add-one j)) ∙ number_more places j p here (get_or_default places j Independent p here)
    ∙ ap₂ (λ a b. a + cond b 1 0) (numbers_agree k n rs m others places own j (omega arith)) (independent_is (in_ideal rs) (without_tables k n) m others (word_at ws j) p (own.told j inside))
    ∙ sym (length-filter_more least ws j [] inside) ∙ ap (λ i. length (filter least (take i ws))) (add-one j)

-- the least words of the degree, by number
least_at : (k : FieldValue) → IsField k → (n : ℕ) (rs : List Combination) (m others : ℕ) (places : List Place) → AreOwnPlaces k n rs m others places → (j : ℕ) → j < length (candidates (in_ideal rs) (without_tables k n) m) →
    is_least (in_ideal rs) (without_tables k n) (word_at (candidates (in_ideal rs) (without_tables k n) m) j) ≡ true →
    (number_at places j < length (least_words k n rs m)) × (word_at (least_words k n rs m) (number_at places j) ≡ word_at (candidates (in_ideal rs) (without_tables k n) m) j)
least_at k is n rs m others places own j inside least =
    let braid : BraidValue = without_tables k n in
    let ws : List (List ℕ) = candidates (in_ideal rs) (without_tables k n) m in
    let same : least_words k n rs m ≡ filter (is_least (in_ideal rs) (without_tables k n)) (candidates (in_ideal rs) (without_tables k n) m) = basis_is_among_candidates (in_ideal rs) braid is (ideal_is_right_ideal rs braid is) m in
    let number : number_at places j ≡ length (filter (is_least (in_ideal rs) (without_tables k n)) (take j (candidates (in_ideal rs) (without_tables k n) m))) = numbers_agree k n rs m others places own j (omega arith) in
    let (low, here) = kept_at (is_least (in_ideal rs) braid) ws j [] inside least in
    (subst (λ us. number_at places j < length us) (sym same) (subst (λ a. a < length (filter (is_least (in_ideal rs) braid) ws)) (sym number) low), ap₂ word_at same number ∙ here)

-- ---- forms

numbered_elements : (k : FieldValue) (number : ℕ → ℕ) (cells : List Cell) → AllCellsElements k cells → AllCellsElements k (numbered number cells)
numbered_elements k number [] h = tt
numbered_elements k number (c ∷ cells) h = (h.0, numbered_elements k number cells h.1)

-- a combination of candidates that are least, by their numbers
numbered_form : (k : FieldValue) → IsField k → (n : ℕ) (rs : List Combination) (m others : ℕ) (places : List Place) → AreOwnPlaces k n rs m others places → (cells : List Cell) → AllBelow (length (candidates (in_ideal rs) (without_tables k n) m)) cells →
    AllAmong (combination_at (candidates (in_ideal rs) (without_tables k n) m) cells) (least_words k n rs m) →
    AllBelow (length (least_words k n rs m)) (numbered (number_at places) cells) × (combination_at (least_words k n rs m) (numbered (number_at places) cells) ≡ combination_at (candidates (in_ideal rs) (without_tables k n) m) cells)
unfolding AllAmong
numbered_form k is n rs m others places own [] below among = (tt, refl)
numbered_form k is n rs m others places own (c ∷ cells) below among =
    let ws : List (List ℕ) = candidates (in_ideal rs) (without_tables k n) m in
    let (low, here) = least_at k is n rs m others places own c.column below.0 (from_basis (in_ideal rs) (without_tables k n) m (word_at ws c.column) among.0).2 in
    let (rest, same) = numbered_form k is n rs m others places own cells below.1 among.1 in
    ((low, rest), ap₂ (λ (w : List ℕ) (f : Combination). record { word = w; coefficient = c.coefficient } ∷ f) here same)

form_cells_are : (k : FieldValue) → IsField k → (n : ℕ) (rs : List Combination) (m others : ℕ) (places : List Place) → AreOwnPlaces k n rs m others places → (j : ℕ) → j < length (candidates (in_ideal rs) (without_tables k n) m) →
    AreFormCells k (least_words k n rs m) (candidate_form k n rs m j) (form_at others places j)
unfolding AllAmong
form_cells_are k is n rs m others places own j inside = at (place_at places j) (own.told j inside) (own.good j inside)
  where
    braid : BraidValue
    braid = without_tables k n

    w : List ℕ
    w = word_at (candidates (in_ideal rs) (without_tables k n) m) j

    from : (length (word_at (candidates (in_ideal rs) (without_tables k n) m) j) ≡ m) × IsWordOver n (word_at (candidates (in_ideal rs) (without_tables k n) m) j)
    from = from_candidates (in_ideal rs) braid m w (word_at_is_in (candidates (in_ideal rs) braid m) j inside)

    at : (p : Place) → IsToldBy (in_ideal rs) (without_tables k n) m others (word_at (candidates (in_ideal rs) (without_tables k n) m) j) p → IsGoodPlace k others j p →
        AreFormCells k (least_words k n rs m) (candidate_form k n rs m j) (form_cells (number_at places) others (number_at places j) p)
    at Independent least good =
        let (low, here) = least_at k is n rs m others places own j inside least in
        record {
          below = (low, tt);
          elements = (one_is_element k is, tt);
          form = ap (λ v. record { word = v; coefficient = 1 } ∷ []) here ∙ sym (form_of_least (in_ideal rs) braid is m ((ideal_is_right_ideal rs braid is).linear m) w (in_basis (in_ideal rs) braid m w from.0 from.1 least));
        }
    at (Depends cells) (other, form) good =
        let ws : List (List ℕ) = candidates (in_ideal rs) (without_tables k n) m in
        let below : AllBelow (length (candidates (in_ideal rs) (without_tables k n) m)) (behind others cells) =
        all-weaker (λ (d : Cell). d.column < j) (λ (d : Cell). d.column < length ws) (λ d h. omega arith) (behind others cells) (behind_below others j cells good.0) in
        let among : AllAmong (combination_at (candidates (in_ideal rs) (without_tables k n) m) (behind others cells)) (least_words k n rs m) =
        subst (λ f. AllAmong f (least_words k n rs m)) form (form_is_normal (in_ideal rs) braid is m ((ideal_is_right_ideal rs braid is).linear m) (single w) (from.0, tt) (from.1, tt)).least in
        let (low, same) = numbered_form k is n rs m others places own (behind others cells) below among in
        record { below = low; elements = numbered_elements k (number_at places) (behind others cells) (behind_elements k others cells good.1); form = same ∙ sym form }

-- ---- the rows fit the elimination

units_are_rows : (n : ℕ) → AreRows (unit_rows n)
units_are_rows n = all_of_entries IsRow (unit_rows n) (λ row i. let (j, l, e) = from_map unit_row row (range_with_len 0 n) i in subst IsRow (sym e) (row_cons (record { column = j; coefficient = 1 }) [] (λ h. let c : ◌≡◌ {A = ℕ} 1 0 = h in cc) tt row_nil))

units_elements : (k : FieldValue) → IsField k → (n : ℕ) → AllRowsElements k (unit_rows n)
units_elements k is n = all_of_entries (AllCellsElements k) (unit_rows n) (λ row i. let (j, l, e) = from_map unit_row row (range_with_len 0 n) i in subst (AllCellsElements k) (sym e) (one_is_element k is, tt))

pub all_are_rows : (k : FieldValue) (n : ℕ) (forms : List (List Cell)) (count : ℕ) (rs : List Combination) (rows : List (List Cell)) (candidates : ℕ) → AreProductRows k n forms count rs rows → AreRows (rows ++ unit_rows candidates)
all_are_rows k n forms count rs rows candidates products =
    all-append IsRow rows (unit_rows candidates) (all_of_entries IsRow rows (λ row i. let (a, r, less, listed, own) = products.each row i in own.shape)) (units_are_rows candidates)

pub all_elements : (k : FieldValue) → IsField k → (n : ℕ) (forms : List (List Cell)) (count : ℕ) (rs : List Combination) (rows : List (List Cell)) (candidates : ℕ) → AreProductRows k n forms count rs rows → AllRowsElements k (rows ++ unit_rows candidates)
all_elements k is n forms count rs rows candidates products =
    all-append (AllCellsElements k) rows (unit_rows candidates) (all_of_entries (AllCellsElements k) rows (λ row i. let (a, r, less, listed, own) = products.each row i in own.elements)) (units_elements k is candidates)

pub all_count : (rows : List (List Cell)) (n : ℕ) → length (rows ++ unit_rows n) ≡ length rows + n
all_count rows n = length-append rows (unit_rows n) ∙ ap (λ m. length rows + m) (length-map (range_with_len 0 n) unit_row ∙ length-range_with_len 0 n)

-- ---- the next degree

good_at : (k : FieldValue) (rows : List (List Cell)) (n : ℕ) (places : List Place) → IsSplit k (rows ++ unit_rows n) places → (j : ℕ) → j < n → IsGoodPlace k (length rows) j (place_at (drop (length rows) places) j)
good_at k rows n places split j less =
    subst (IsGoodPlace k (length rows) j) (sym (get_or-drop (length rows) places j Independent)) (at (place_at places (length rows + j)) (split.each (length rows + j) (let count : length (rows ++ unit_rows n) ≡ length rows + n = all_count rows n in omega arith)))
  where
    at : (p : Place) → IsPlace k (rows ++ unit_rows n) places (length rows + j) p → IsGoodPlace k (length rows) j p
    at Independent h = tt
    at (Depends cells) h = (h.combination.earlier, h.combination.elements)

pub inside_at : (k : FieldValue) (rows : List (List Cell)) (n : ℕ) (places : List Place) → IsSplit k (rows ++ unit_rows n) places → (j : ℕ) → j < n → IsInside (length rows + j) (place_at (drop (length rows) places) j)
inside_at k rows n places split j less = at (place_at (drop (length rows) places) j) (good_at k rows n places split j less)
  where
    at : (p : Place) → IsGoodPlace k (length rows) j p → IsInside (length rows + j) p
    at Independent h = tt
    at (Depends cells) h = h.0

pub own_count : (k : FieldValue) (rows : List (List Cell)) (n : ℕ) (places : List Place) → IsSplit k (rows ++ unit_rows n) places → length (drop (length rows) places) ≡ n
own_count k rows n places split =
    let all : length places ≡ length rows + n = split.count ∙ all_count rows n in
    length-drop (length rows) places ∙ (let e : length places - length rows ≡ n = omega arith in e)

candidates_count : (k : FieldValue) (n : ℕ) (rs : List Combination) (m : ℕ) (level : Level) → StandsFor k n rs m level → length (candidates (in_ideal rs) (without_tables k n) (suc m)) ≡ level.count * n
unfolding cover_dimension
candidates_count k n rs m level stands =
    ap length (candidates_next (in_ideal rs) (without_tables k n) m) ∙ with_letters_length n (least_words k n rs m)
    ∙ (let count : level.count ≡ length (least_words k n rs m) = stands.count in let e : n * length (least_words k n rs m) ≡ length (least_words k n rs m) * n = omega arith in e ∙ ap (λ c. c * n) (sym count))

-- the level made of the places stands for the next degree
pub next_stands : (k : FieldValue) → IsField k → (n : ℕ) (rs : List Combination) → AllByRecursion (IsQuadratic n) rs → (m : ℕ) (level new : Level) (rows : List (List Cell)) (places : List Place) → StandsFor k n rs m level →
    AreProductRows k n level.forms.rows level.below rs rows → IsSplit k (rows ++ unit_rows (level.count * n)) places → level.count * n < 2 ^ 32 → new.below ≡ level.count → new.count ≡ number_at (drop (length rows) places) (length (drop (length rows) places)) →
    new.forms.rows ≡ forms_of (length rows) (drop (length rows) places) → StandsFor k n rs (suc m) new
unfolding cover_dimension forms_of
next_stands k is n rs shapes m level new rows places stands products split few below count forms = record {
  below = below ∙ stands.count;
  count = count ∙ numbers_agree k n rs (suc m) (length rows) own_places own (length own_places) (let c : length own_places ≡ length ws = own.count in omega arith)
      ∙ ap (λ xs. length (filter (is_least (in_ideal rs) braid) xs)) (take_all (length own_places) ws (let c : length own_places ≡ length ws = own.count in omega arith))
      ∙ ap length (sym (basis_is_among_candidates (in_ideal rs) braid is (ideal_is_right_ideal rs braid is) (suc m)));
  rows = size ∙ ap (λ c. c * n) (sym below);
  few = subst (λ c. c < 2 ^ 32) (sym size) few;
  forms = λ j less.
      let low : j < length (candidates (in_ideal rs) (without_tables k n) (suc m)) = subst (λ c. j < c) (size ∙ sym total) less in
      subst (AreFormCells k (least_words k n rs (suc m)) (candidate_form k n rs (suc m) j))
      (sym (ap (λ xs. row_at xs j) forms ∙ get_or-map-range_with_len (form_at (length rows) own_places) 0 (length own_places) j j [] (subst (λ c. j < c) (sym own.count) low) (let e : 0 + j ≡ j = omega arith in e)))
      (form_cells_are k is n rs (suc m) (length rows) own_places own j low);
}
  where
    braid : BraidValue
    braid = without_tables k n

    ws : List (List ℕ)
    ws = candidates (in_ideal rs) (without_tables k n) (suc m)

    own_places : List Place
    own_places = drop (length rows) places

    total : length (candidates (in_ideal rs) (without_tables k n) (suc m)) ≡ level.count * n
    total = candidates_count k n rs m level stands

    spans : AreSpanning k n rs (suc m) rows
    spans = spanning k is n rs shapes m level stands rows products

    own : AreOwnPlaces k n rs (suc m) (length rows) (drop (length rows) places)
    own = record {
      count = own_count k rows (level.count * n) places split ∙ sym total;
      told = λ j less. subst (IsToldBy (in_ideal rs) braid (suc m) (length rows) (word_at ws j)) (sym (get_or-drop (length rows) places j Independent))
          (unit_rows_tell_least_words (in_ideal rs) braid is (ideal_is_right_ideal rs braid is) (suc m) rows places spans.below spans.zero (subst (λ c. IsSplit k (rows ++ unit_rows c) places) (sym total) split) j less);
      good = λ j less. good_at k rows (level.count * n) places split j (subst (λ c. j < c) total less);
    }

    size : length new.forms.rows ≡ level.count * n
    size = ap length forms ∙ length-map-range_with_len (form_at (length rows) own_places) 0 (length own_places) ∙ own.count ∙ total

-- ---- as they are made

-- the places from one on
pub slice_is : (g : ℕ) (all places : List Place) → all ≡ places → take (length all - g) (drop g all) ≡ drop g places
slice_is g all places same = take_all (length all - g) (drop g all) (let e : length (drop g all) ≡ length all - g = length-drop g all in omega arith) ∙ ap (drop g) same

-- the forms of a level that stands for a degree
pub table_of : (k : FieldValue) (n : ℕ) (rs : List Combination) (m : ℕ) (level : Level) → StandsFor k n rs m level → IsTable k n level
unfolding cover_dimension
table_of k n rs m level stands = record {
  rows = stands.rows;
  few = stands.few;
  below = all_rows (AllBelow level.count) level.forms.rows (λ j less. subst (λ c. AllBelow c (row_at level.forms.rows j)) (sym stands.count) (stands.forms j less).below);
  elements = all_rows (AllCellsElements k) level.forms.rows (λ j less. (stands.forms j less).elements);
}

-- the generators of relations between words of two letters
pub quadratic_shapes : (k : FieldValue) (n : ℕ) (q : List PlainRelation) → AllByRecursion (IsQuadraticRelation k n) q → AllByRecursion (IsQuadratic n) (generators k q)
quadratic_shapes k n [] all = tt
quadratic_shapes k n (r ∷ q) all =
    ((minus_degree k 2 (single r.candidate) r.form (all.0.size, tt) all.0.form_size, minus_over k n (single r.candidate) r.form (all.0.over, tt) all.0.form_over), quadratic_shapes k n q all.1)

pub own_inside : (k : FieldValue) (rows all : List (List Cell)) (n others : ℕ) (places : List Place) → others ≡ length rows → all ≡ rows ++ unit_rows n → IsSplit k all places → (j : ℕ) → j < length (drop others places) → IsInside (others + j) (place_at (drop others places) j)
own_inside k rows all n others places others_is all_is split j less =
    subst (λ g. IsInside (g + j) (place_at (drop g places) j)) (sym others_is)
    (inside_at k rows n places (subst (λ xs. IsSplit k xs places) all_is split) j
    (subst (λ c. j < c) (own_count k rows n places (subst (λ xs. IsSplit k xs places) all_is split)) (subst (λ g. j < length (drop g places)) others_is less)))

pub own_few : (k : FieldValue) (rows all : List (List Cell)) (n others : ℕ) (places : List Place) → others ≡ length rows → all ≡ rows ++ unit_rows n → IsSplit k all places → length (drop others places) ≡ n
own_few k rows all n others places others_is all_is split =
    ap (λ g. length (drop g places)) others_is ∙ own_count k rows n places (subst (λ xs. IsSplit k xs places) all_is split)

pub next_made : (k : FieldValue) → IsField k → (n : ℕ) (q : List PlainRelation) → AllByRecursion (IsQuadraticRelation k n) q → (m : ℕ) (level : Level) (rows all : List (List Cell)) (others width : ℕ) (places : List Place) (new : Level) → StandsFor k n (generators k q) m level →
    AreProductRows k n level.forms.rows level.below (generators k q) rows → others ≡ length rows → width ≡ level.count * n → all ≡ rows ++ unit_rows width → IsSplit k all places → level.count * n < 2 ^ 32 → IsMadeOf others (drop others places) level.count new →
    StandsFor k n (generators k q) (suc m) new
next_made k is n q relations m level rows all others width places new stands products others_is width_is all_is split few made =
    next_stands k is n (generators k q) (quadratic_shapes k n q relations) m level new rows places stands products (subst (λ xs. IsSplit k xs places) (all_is ∙ ap (λ w. rows ++ unit_rows w) width_is) split) few made.below
    (made.count ∙ ap (λ g. number_at (drop g places) (length (drop g places))) others_is) (ap (λ (v : RowsValue). v.rows) made.forms ∙ ap (λ g. forms_of g (drop g places)) others_is)
