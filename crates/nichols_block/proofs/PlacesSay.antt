-- What the split of the rows of a block's new words says: the words with independent rows are the least words of the block, and the
-- combination of any other row is the normal form of its word.
use Rattle.std.proofs.Common.{◌≡◌, ℕ, suc, ◌<◌, Bool, true, false, not, cond, List, [], ◌∷◌, length, map, refl, sym, ◌∙◌, ap, ap₂, subst, arith}
use Rattle.std.specs.List.{filter, AllByRecursion, Contains}
use Rattle.std.specs.declared.cmp.Ordering.TheVariants.{Less}
use Rattle.nichols_field.specs.Field.{FieldValue}
use Rattle.nichols_tensor.specs.Combination.{Combination, AllAmong, single, minus}
use Rattle.nichols_tensor.specs.Positions.{word_at}
use Rattle.nichols_tensor.specs.Relation.{PlainRelation}
use Rattle.nichols_tensor.specs.Words.{IsWordOver, words_before}
use Rattle.nichols_tensor.specs.WordOrder.{word_cmp, IsRising}
use Rattle.nichols_tensor.proofs.AllWords.{in_words_before}
use Rattle.nichols_tensor.proofs.Rising.{word_at_is_in, words_at_rise}
use Rattle.nichols_braid.specs.Braid.{BraidValue, IsBraid}
use Rattle.nichols_braid.specs.Kernel.{is_killed}
use Rattle.nichols_braid.specs.Least.{is_least, basis, normal_form}
use Rattle.nichols_braid.specs.LeastLaws.{IsNormalForm, IsOfEarlierWords}
use Rattle.nichols_braid.specs.LinearTest.{IsLinearTest}
use Rattle.nichols_braid.specs.NewWords.{is_new}
use Rattle.nichols_braid.specs.Product.{product_of}
use Rattle.nichols_braid.proofs.BraidLaws.{killed_is_linear}
use Rattle.nichols_braid.proofs.LeastLaws.{normal_forms_are_unique}
use Rattle.nichols_braid.proofs.LeastWords.{not_least_at}
use Rattle.nichols_braid.proofs.LookingBack.{normal_forms_look_back}
use Rattle.nichols_braid.proofs.Congruences.{AreCongruent}
use Rattle.nichols_braid.proofs.NormalForms.{form_is}
use Rattle.nichols_braid.proofs.Reduction.{in_basis}
use Rattle.nichols_echelon.specs.Cells.{Cell, AllBelow}
use Rattle.nichols_echelon.specs.Cells.{AllElements as AllCellsElements}
use Rattle.nichols_echelon.specs.Combination.{IsDependent}
use Rattle.nichols_echelon.specs.Rows.{RowsValue}
use Rattle.nichols_echelon.specs.Split.{place_at, AllIndependent, IsPlace, IsSplit}
use Rattle.nichols_echelon.specs.declared.rows.Place.{Place}
use Rattle.nichols_echelon.specs.declared.rows.Place.TheVariants.{Independent, Depends}
use Rattle.nichols_echelon.proofs.Uniqueness.{place_independent}
use Rattle.nichols_rows.specs.CombinationAt.{combination_at}
use Rattle.nichols_rows.specs.Places.{independent_in, dependent_in}
use Rattle.nichols_rows.proofs.Rows.{congruent_by_rows, rows_of_congruent, combination_among, combination_elements, combination_is_ordered, below_more, cells_of}
use Rattle.nichols_rows.proofs.Split.{HaveEntries, places_inside, combined_as_weight, AllSaid, all_said}
use Rattle.nichols_value.specs.Block.{block_basis}
use Rattle.nichols_value.proofs.Blocks.{normal_in_block}
use Rattle.nichols_block.specs.NewRows.{AreNewRows}
use Rattle.nichols_block.specs.Places.{ArePlacesOf, new_relations}
use Rattle.nichols_block.specs.Rows.{AreNewDerivatives}
use Rattle.nichols_block.specs.Words.{block_new_words}
use Rattle.nichols_block.proofs.NewBlockWords.{from_block_new_words, block_new_words_rise, least_among_new, block_basis_among_new}
use Rattle.nichols_block.proofs.NewRowEntries.{row_number, rows_tell, new_rows_have_entries}

-- ---- combinations of rows

-- ---- the place of one word

-- what a place says of a word: it is least, or it isn't and has this normal form
abbrev IsSaid : BraidValue → ℕ → List (List ℕ) → List ℕ → Place → Type 0
IsSaid braid m all w Independent = is_least is_killed braid w ≡ true
IsSaid braid m all w (Depends cells) = (is_least is_killed braid w ≡ false) × (normal_form is_killed braid m (single w) ≡ combination_at all cells)

-- each word of a combination is an entry
among_each : (f : Combination) (ws : List (List ℕ)) → AllAmong f ws → AllByRecursion (λ t. Contains ws t.word) f
unfolding AllAmong
among_each f ws h = h

-- a new word that isn't least has a row that depends on those before it
not_least_depends : (braid : BraidValue) → IsBraid braid → (m : ℕ) (g : List ℕ) (rows : List (List Cell)) → HaveEntries braid.field rows (block_new_words braid (suc m) g) (row_number braid m g) →
    (i : ℕ) → i < length (block_new_words braid (suc m) g) → is_least is_killed braid (word_at (block_new_words braid (suc m) g) i) ≡ false → IsDependent braid.field rows i
not_least_depends braid is m g rows entries i within least = (
  cells,
  record {
    earlier = below;
    elements = elements;
    value = λ column.
        entries i column within
        ∙ rows_of_congruent k is.field (is_killed braid (suc m)) news (row_number braid m g) (rows_tell braid is m g) w (combination_at news cells) here (combination_among news cells all_below)
        (subst (λ f. is_killed braid (suc m) (minus k (single w) f) ≡ true) (sym all) normal.congruent) column
        ∙ sym (combined_as_weight k rows news (row_number braid m g) entries cells all_below column);
  },
)
  where
    k : FieldValue
    k = braid.field

    news : List (List ℕ)
    news = block_new_words braid (suc m) g

    w : List ℕ
    w = word_at news i

    here : Contains news w
    here = word_at_is_in news i within

    own : (length w ≡ suc m) × IsWordOver braid.letters w × (product_of braid w ≡ g) × (is_new is_killed braid w ≡ true)
    own = from_block_new_words braid (suc m) g w here

    form : Combination
    form = normal_form is_killed braid (suc m) (single w)

    normal : IsNormalForm is_killed braid (suc m) (single w) form
    normal = (normal_forms_are_unique is_killed braid is.field (suc m) (killed_is_linear braid is (suc m)) (single w) (own.0, tt) (own.1, tt)).0

    earlier : IsOfEarlierWords braid w form
    earlier = subst (λ n. IsOfEarlierWords braid w (normal_form is_killed braid n (single w))) own.0 ((normal_forms_look_back is_killed braid is.field w own.1 (killed_is_linear braid is (length w))).1 least)

    both : (f : Combination) → AllByRecursion (λ t. Contains (block_basis braid (suc m) g) t.word) f → AllByRecursion (λ t. word_cmp t.word w ≡ Less) f → AllByRecursion (λ t. Contains news t.word × (word_cmp t.word w ≡ Less)) f
    both [] a b = tt
    both (t ∷ f) a b = ((least_among_new braid is (suc m) g t.word a.0, b.0), both f a.1 b.1)

    found : (cells : List Cell) × AllBelow i cells × AllCellsElements k cells × (combination_at news cells ≡ form)
    found =
        cells_of k news (block_new_words_rise braid (suc m) g) i within form normal.elements
        (both form (among_each form (block_basis braid (suc m) g) (normal_in_block braid is (suc m) g w own.0 own.1 own.2)) earlier.earlier)

    cells : List Cell
    cells = found.0

    below : AllBelow i cells
    below = found.1

    elements : AllCellsElements k cells
    elements = found.2

    all : combination_at news cells ≡ form
    all = found.3

    all_below : AllBelow (length news) cells
    all_below = below_more i (length news) within cells below

independent_is_least : (braid : BraidValue) → IsBraid braid → (m : ℕ) (g : List ℕ) (rows : List (List Cell)) → HaveEntries braid.field rows (block_new_words braid (suc m) g) (row_number braid m g) →
    (i : ℕ) → i < length (block_new_words braid (suc m) g) → (IsDependent braid.field rows i → ⊥) → is_least is_killed braid (word_at (block_new_words braid (suc m) g) i) ≡ true
independent_is_least braid is m g rows entries i within none = at (is_least is_killed braid (word_at (block_new_words braid (suc m) g) i)) refl
  where
    at : (b : Bool) → is_least is_killed braid (word_at (block_new_words braid (suc m) g) i) ≡ b → b ≡ true
    at true e = refl
    at false e = absurd (none (not_least_depends braid is m g rows entries i within e))

place_says : (braid : BraidValue) → IsBraid braid → (m : ℕ) (g : List ℕ) (rows : List (List Cell)) → HaveEntries braid.field rows (block_new_words braid (suc m) g) (row_number braid m g) → (places : List Place) →
    ((i : ℕ) → i < length (block_new_words braid (suc m) g) → IsPlace braid.field rows places i (place_at places i)) → (i : ℕ) → i < length (block_new_words braid (suc m) g) → (p : Place) → IsPlace braid.field rows places i p →
    IsSaid braid (suc m) (block_new_words braid (suc m) g) (word_at (block_new_words braid (suc m) g) i) p
unfolding AllAmong
place_says braid is m g rows entries places each i within Independent h = independent_is_least braid is m g rows entries i within h
place_says braid is m g rows entries places each i within (Depends cells) h = (
  not_least_at is_killed braid is.field (suc m) linear w (own w here).0 f (before cells h.combination.earlier) congruent,
  form_is is_killed braid is.field (suc m) linear (single w) f (record {
    least = all_least cells h.combination.earlier h.independent;
    ordered = combination_is_ordered news rising cells h.shape all_below;
    elements = combination_elements k news cells h.combination.elements;
    congruent = congruent;
  }),
)
  where
    k : FieldValue
    k = braid.field

    linear : IsLinearTest braid.field (is_killed braid (suc m))
    linear = killed_is_linear braid is (suc m)

    news : List (List ℕ)
    news = block_new_words braid (suc m) g

    rising : IsRising news
    rising = block_new_words_rise braid (suc m) g

    w : List ℕ
    w = word_at news i

    here : Contains news w
    here = word_at_is_in news i within

    own : (v : List ℕ) → Contains news v → (length v ≡ suc m) × IsWordOver braid.letters v
    own v j = let (size, over, e, new) = from_block_new_words braid (suc m) g v j in (size, over)

    f : Combination
    f = combination_at news cells

    all_below : AllBelow (length news) cells
    all_below = below_more i (length news) within cells h.combination.earlier

    congruent : AreCongruent k (is_killed braid (suc m)) (single w) f
    congruent =
        congruent_by_rows k is.field (is_killed braid (suc m)) news (row_number braid m g) (rows_tell braid is m g) w f here (combination_among news cells all_below)
        (λ column. sym (entries i column within) ∙ h.combination.value column ∙ combined_as_weight k rows news (row_number braid m g) entries cells all_below column)

    before : (ds : List Cell) → AllBelow i ds → AllAmong (combination_at news ds) (words_before braid.letters w)
    before [] below = tt
    before (d ∷ ds) below =
        let there : Contains news (word_at news d.column) = word_at_is_in news d.column (omega (arith, below.0, within)) in (
          in_words_before braid.letters (word_at news d.column) w ((own (word_at news d.column) there).0 ∙ sym (own w here).0) (own (word_at news d.column) there).1 (words_at_rise news d.column i rising below.0 within),
          before ds below.1,
        )

    all_least : (ds : List Cell) → AllBelow i ds → AllIndependent places ds → AllAmong (combination_at news ds) (basis is_killed braid (suc m))
    all_least [] below independent = tt
    all_least (d ∷ ds) below independent =
        let inside : d.column < length news = omega (arith, below.0, within) in
        let there : Contains news (word_at news d.column) = word_at_is_in news d.column inside in (
          in_basis is_killed braid (suc m) (word_at news d.column) (own (word_at news d.column) there).0 (own (word_at news d.column) there).1
              (independent_is_least braid is m g rows entries d.column inside (place_independent k rows places d.column (place_at places d.column) independent.0 (each d.column inside))),
          all_least ds below.1 independent.1,
        )

-- ---- all of them

least_are_independent : (braid : BraidValue) (m : ℕ) (all ws : List (List ℕ)) (places : List Place) → AllSaid (IsSaid braid m all) ws places → independent_in ws places ≡ filter (is_least is_killed braid) ws
least_are_independent braid m all [] places h = refl
least_are_independent braid m all (w ∷ ws) [] h = absurd h
least_are_independent braid m all (w ∷ ws) (Independent ∷ places) h =
    ap (λ vs. w ∷ vs) (least_are_independent braid m all ws places h.1) ∙ ap (λ b. cond b (w ∷ filter (is_least is_killed braid) ws) (filter (is_least is_killed braid) ws)) (sym h.0)
least_are_independent braid m all (w ∷ ws) (Depends cells ∷ places) h =
    least_are_independent braid m all ws places h.1 ∙ ap (λ b. cond b (w ∷ filter (is_least is_killed braid) ws) (filter (is_least is_killed braid) ws)) (sym h.0.0)

-- the words that aren't least, with their normal forms
abbrev others_of : BraidValue → ℕ → List (List ℕ) → List PlainRelation
others_of braid m ws = map (λ w. record { candidate = w; form = normal_form is_killed braid m (single w) }) (filter (λ w. not (is_least is_killed braid w)) ws)

others_are_dependent : (braid : BraidValue) (m : ℕ) (all ws : List (List ℕ)) (places : List Place) → AllSaid (IsSaid braid m all) ws places → dependent_in all ws places ≡ others_of braid m ws
others_are_dependent braid m all [] places h = refl
others_are_dependent braid m all (w ∷ ws) [] h = absurd h
others_are_dependent braid m all (w ∷ ws) (Independent ∷ places) h =
    others_are_dependent braid m all ws places h.1 ∙ ap (λ b. map (λ v. record { candidate = v; form = normal_form is_killed braid m (single v) }) (cond (not b) (w ∷ others) others)) (sym h.0)
  where
    others : List (List ℕ)
    others = filter (λ v. not (is_least is_killed braid v)) ws
others_are_dependent braid m all (w ∷ ws) (Depends cells ∷ places) h =
    ap₂ (λ (f : Combination) (rs : List PlainRelation). record { candidate = w; form = f } ∷ rs) (sym h.0.1) (others_are_dependent braid m all ws places h.1)
    ∙ ap (λ b. map (λ v. record { candidate = v; form = normal_form is_killed braid m (single v) }) (cond (not b) (w ∷ others) others)) (sym h.0.0)
  where
    others : List (List ℕ)
    others = filter (λ v. not (is_least is_killed braid v)) ws

new_relations_are : (braid : BraidValue) (m : ℕ) (g : List ℕ) → new_relations braid m g ≡ others_of braid m (block_new_words braid m g)
unfolding new_relations
new_relations_are braid m g = refl

-- the places of a split of the rows of the new words
pub places_say : (braid : BraidValue) → IsBraid braid → (m : ℕ) (g : List ℕ) (lists : List RowsValue) (rows : List (List Cell)) (places : List Place) → AreNewDerivatives braid (suc m) g lists → AreNewRows braid (suc m) g lists rows →
    IsSplit braid.field rows places → ArePlacesOf braid (suc m) g places
places_say braid is m g lists rows places h r split = record {
  count = split.count ∙ r.count;
  inside = places_inside braid.field rows news places r.count split;
  least = least_are_independent braid (suc m) news news places said ∙ sym (block_basis_among_new braid is (suc m) g);
  others = others_are_dependent braid (suc m) news news places said ∙ sym (new_relations_are braid (suc m) g);
}
  where
    news : List (List ℕ)
    news = block_new_words braid (suc m) g

    entries : HaveEntries braid.field rows news (row_number braid m g)
    entries = new_rows_have_entries braid is m g lists rows h r

    count : length rows ≡ length news
    count = r.count

    each : (i : ℕ) → i < length news → IsPlace braid.field rows places i (place_at places i)
    each i within = split.each i (omega arith)

    said : AllSaid (IsSaid braid (suc m) news) news places
    said = all_said (IsSaid braid (suc m) news) news places (split.count ∙ count) (λ i within. place_says braid is m g rows entries places each i within (place_at places i) (each i within))
