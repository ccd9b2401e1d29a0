-- A degree of the cover from the one below: its least words and their forms, from the places of the rows of all candidates.
use Rattle.std.proofs.Common.{◌≡◌, ℕ, zero, suc, ◌+◌, ◌-◌, ◌*◌, ◌<◌, ◌≤◌, List, [], ◌∷◌, ◌++◌, map, length, take, get_or, refl, sym, ◌∙◌, ap, ap₂, subst, arith, inl, inr, append_assoc}
use Rattle.std.specs.List.{AllByRecursion, Contains, flat_map}
use Rattle.std.proofs.lemmas.List.{get_or-append-add, get_or-map, get_or_append_left, length-map, length-take-le}
use Rattle.std.proofs.lemmas.List.Concat.{get_or-flat_map}
use Rattle.std.proofs.lemmas.Bool.{cases_lt}
use Rattle.std.proofs.lemmas.List.Elements.{Contains-get_or}
use Rattle.nichols_field.specs.Field.{FieldValue, IsField, plus, times}
use Rattle.nichols_field.proofs.FieldLaws.{plus_zero, times_zero, zero_is_element}
use Rattle.nichols_tensor.specs.Combination.{AllAmong, Combination, HasSameValues, linear_map, scalar_multiple, single, value_at}
use Rattle.nichols_tensor.specs.Positions.{word_at}
use Rattle.nichols_tensor.specs.Product.{prefixed}
use Rattle.nichols_tensor.specs.Span.{IsSpanned}
use Rattle.nichols_tensor.specs.WordOrder.{IsRising}
use Rattle.nichols_tensor.specs.Words.{IsLetterOf, IsWordOver, up_to, with_letters}
use Rattle.nichols_tensor.proofs.Letters.{up_to_length}
use Rattle.nichols_tensor.proofs.Maps.{same_weight_on}
use Rattle.nichols_tensor.proofs.Over.{all_at}
use Rattle.nichols_tensor.proofs.Pushed.{pushed_length, with_letters_length}
use Rattle.nichols_tensor.proofs.Spans.{spanned_one, spanned_same, spanned_through}
use Rattle.nichols_tensor.proofs.Tests.{all_of_entries}
use Rattle.nichols_tensor.proofs.Values.{value_at-linear_map, weight}
use Rattle.nichols_braid.specs.Braid.{BraidValue}
use Rattle.nichols_braid.specs.Least.{candidates, normal_form}
use Rattle.nichols_braid.specs.RightProduct.{times_letter}
use Rattle.nichols_braid.proofs.Candidates.{candidates_next, candidates_rise}
use Rattle.nichols_braid.proofs.Forms.{among-linear_map}
use Rattle.nichols_braid.proofs.Reduction.{from_basis}
use Rattle.nichols_echelon.specs.Cells.{AllBelow, Cell, entry}
use Rattle.nichols_echelon.specs.Combination.{AllRowsBelow, row_at}
use Rattle.nichols_echelon.proofs.Entries.{entry_beyond}
use Rattle.nichols_rows.specs.CombinationAt.{combination_at}
use Rattle.nichols_rows.proofs.Rows.{combination_among}
use Rattle.nichols_value.proofs.FormCells.{entry_at_place}
use Rattle.nichols_block.proofs.SumForms.{below_by_entries}
use Rattle.nichols_cover.specs.declared.level.Level.{Level}
use Rattle.nichols_cover.specs.Cover.{cover_dimension, without_tables}
use Rattle.nichols_cover.specs.Ideal.{IsBetween, in_ideal}
use Rattle.nichols_cover.specs.Laws.{IsQuadratic}
use Rattle.nichols_cover.specs.Level.{AreFormCells, StandsFor, candidate_form, least_words}
use Rattle.nichols_cover.specs.Products.{IsProduct, followed, to_candidates}
use Rattle.nichols_cover.specs.Rows.{AreProductRows, IsProductRow, cells_followed, cells_of_word, product_entry}
use Rattle.nichols_cover.proofs.InIdeal.{ideal_is_decided}
use Rattle.nichols_cover.proofs.ProductSpans.{followed_word, products_of_least_words_suffice}
use Rattle.nichols_cover.proofs.ProductSums.{followed_fits, number_fits}
use Rattle.nichols_cover.proofs.Units.{RowsSpanZero, position_in, same_on_words}

-- ---- candidates by number

up_to_at : (n j d : ℕ) → j < n → get_or (up_to n) j d ≡ suc j
up_to_at zero j d less = absurd (omega arith)
up_to_at (suc n) j d less =
    elim (cases_lt j n) [
      | inl low ↦ get_or_append_left (up_to n) (suc n ∷ []) d j (let l : length (up_to n) ≡ n = up_to_length n in omega arith) ∙ up_to_at n j d low
      | inr high ↦
          let last : j ≡ length (up_to n) + 0 = (let l : length (up_to n) ≡ n = up_to_length n in omega arith) in
          ap (λ i. get_or (up_to n ++ suc n ∷ []) i d) last ∙ get_or-append-add (up_to n) (suc n ∷ []) 0 d ∙ (let l : length (up_to n) ≡ n = up_to_length n in let e : suc n ≡ suc j = omega arith in e)
    ]

-- the candidate with the letter x behind the word with number a
pub word_at_letters : (n : ℕ) (us : List (List ℕ)) (a x : ℕ) → a < length us → IsLetterOf n x → word_at (with_letters n us) (a * n + (x - 1)) ≡ word_at us a ++ x ∷ []
word_at_letters n us a x less letter =
    ap (λ i. get_or (with_letters n us) (i + (x - 1)) []) before
    ∙ get_or-flat_map behind_word us a (x - 1) [] [] less (let l : length (map (λ b. word_at us a ++ b ∷ []) (up_to n)) ≡ n = length-map (up_to n) (λ b. word_at us a ++ b ∷ []) ∙ up_to_length n in let low : 1 ≤ x = letter.0 in let high : x ≤ n = letter.1 in omega arith)
    ∙ get_or-map (λ b. word_at us a ++ b ∷ []) (up_to n) (x - 1) 0 [] (let l : length (up_to n) ≡ n = up_to_length n in let low : 1 ≤ x = letter.0 in let high : x ≤ n = letter.1 in omega arith)
    ∙ ap (λ b. word_at us a ++ b ∷ []) (up_to_at n (x - 1) 0 (let low : 1 ≤ x = letter.0 in let high : x ≤ n = letter.1 in omega arith) ∙ (let low : 1 ≤ x = letter.0 in let e : suc (x - 1) ≡ x = omega arith in e))
  where
    behind_word : List ℕ → List (List ℕ)
    behind_word u = map (λ b. u ++ b ∷ []) (up_to n)

    before : a * n ≡ length (flat_map (λ u. map (λ b. u ++ b ∷ []) (up_to n)) (take a us))
    before = sym (with_letters_length n (take a us) ∙ ap (λ l. n * l) (length-take-le a us (omega arith)) ∙ (let e : n * a ≡ a * n = omega arith in e))

-- cells with a letter behind are the combination with the letter behind
followed_cells_are : (n : ℕ) (us : List (List ℕ)) (y : ℕ) (cells : List Cell) → IsLetterOf n y → AllBelow (length us) cells → combination_at (with_letters n us) (cells_followed n y cells) ≡ times_letter (combination_at us cells) y
followed_cells_are n us y [] letter below = refl
followed_cells_are n us y (c ∷ cells) letter below =
    ap₂ (λ (w : List ℕ) (r : Combination). record { word = w; coefficient = c.coefficient } ∷ r) (word_at_letters n us c.column y below.0 letter) (followed_cells_are n us y cells letter below.1)

-- ---- the rows of products

-- the cells of u x y are the normal form of u x with y behind
word_cells : (k : FieldValue) (n : ℕ) (rs : List Combination) (m : ℕ) (level : Level) → StandsFor k n rs (suc m) level → (a : ℕ) → a < length (least_words k n rs m) → (w : List ℕ) → length w ≡ 2 → IsWordOver n w →
    AllBelow (length (candidates (in_ideal rs) (without_tables k n) (suc (suc m)))) (cells_of_word n level.forms.rows a w)
    × (combination_at (candidates (in_ideal rs) (without_tables k n) (suc (suc m))) (cells_of_word n level.forms.rows a w) ≡ followed rs (without_tables k n) (suc m) (word_at (least_words k n rs m) a ++ w))
unfolding cover_dimension
word_cells k n rs m level stands a less [] e over = absurd (omega arith)
word_cells k n rs m level stands a less (x ∷ []) e over = absurd (omega arith)
word_cells k n rs m level stands a less (x ∷ y ∷ z ∷ w) e over = absurd (omega arith)
word_cells k n rs m level stands a less (x ∷ y ∷ []) e over = (
  followed_fits n y (length us) (length ws) row over.1.0 wide form.below,
  ap (λ vs. combination_at vs (cells_followed n y row)) (candidates_next (in_ideal rs) braid (suc m))
      ∙ followed_cells_are n us y row over.1.0 form.below ∙ ap (λ f. times_letter f y) (form.form ∙ ap (λ v. normal_form (in_ideal rs) braid (suc m) (single v)) first)
      ∙ sym (ap (followed rs braid (suc m)) (sym (append_assoc u (x ∷ []) (y ∷ []))) ∙ followed_word rs braid (suc m) (u ++ x ∷ []) y size),
)
  where
    braid : BraidValue
    braid = without_tables k n

    us : List (List ℕ)
    us = least_words k n rs (suc m)

    ws : List (List ℕ)
    ws = candidates (in_ideal rs) (without_tables k n) (suc (suc m))

    u : List ℕ
    u = word_at (least_words k n rs m) a

    row : List Cell
    row = row_at level.forms.rows (a * n + (x - 1))

    inside : a * n + (x - 1) < length level.forms.rows
    inside =
        let most : a * n + x ≤ length (least_words k n rs m) * n = number_fits a (length (least_words k n rs m)) n x less over.0.1 in
        let some : 1 ≤ x = over.0.0 in
        let rows : length level.forms.rows ≡ length (least_words k n rs m) * n = stands.rows ∙ ap (λ b. b * n) stands.below in
        omega (arith, most, some, rows)

    form : AreFormCells k (least_words k n rs (suc m)) (candidate_form k n rs (suc m) (a * n + (x - 1))) (row_at level.forms.rows (a * n + (x - 1)))
    form = stands.forms (a * n + (x - 1)) inside

    wide : length (least_words k n rs (suc m)) * n ≤ length (candidates (in_ideal rs) (without_tables k n) (suc (suc m)))
    wide =
        let count : length (candidates (in_ideal rs) (without_tables k n) (suc (suc m))) ≡ n * length (least_words k n rs (suc m)) = ap length (candidates_next (in_ideal rs) braid (suc m)) ∙ with_letters_length n us in
        let same : n * length (least_words k n rs (suc m)) ≡ length (least_words k n rs (suc m)) * n = omega arith in
        omega (arith, count, same)

    first : word_at (candidates (in_ideal rs) (without_tables k n) (suc m)) (a * n + (x - 1)) ≡ word_at (least_words k n rs m) a ++ x ∷ []
    first = ap (λ vs. word_at vs (a * n + (x - 1))) (candidates_next (in_ideal rs) braid m) ∙ word_at_letters n (least_words k n rs m) a x less over.0

    size : length (word_at (least_words k n rs m) a ++ x ∷ []) ≡ suc m
    size = pushed_length u x ∙ ap suc (from_basis (in_ideal rs) braid m u (Contains-get_or (least_words k n rs m) a [] less)).0

-- what a combination r of words of two letters says of each of them
each_word : (n : ℕ) (P : List ℕ → Type 0) → ((w : List ℕ) → length w ≡ 2 → IsWordOver n w → P w) → (r : Combination) → IsQuadratic n r → AllByRecursion (λ t. P t.word) r
each_word n P says [] shape = tt
each_word n P says (t ∷ r) shape = (says t.word shape.0.0 shape.1.0, each_word n P says r (shape.0.1, shape.1.1))

record IsProductForm (k : FieldValue) (n : ℕ) (rs : List Combination) (m a : ℕ) (r : Combination) (row : List Cell) : Type 0 where
  below : AllBelow (length (candidates (in_ideal rs) (without_tables k n) (suc (suc m)))) row
  values : HasSameValues k (combination_at (candidates (in_ideal rs) (without_tables k n) (suc (suc m))) row) (to_candidates rs (without_tables k n) (suc m) (prefixed (word_at (least_words k n rs m) a) r))

product_form : (k : FieldValue) → IsField k → (n : ℕ) (rs : List Combination) (m : ℕ) (level : Level) → StandsFor k n rs (suc m) level → (a : ℕ) → a < length (least_words k n rs m) → (r : Combination) → IsQuadratic n r → (row : List Cell) → IsProductRow k n level.forms.rows a r row →
    IsProductForm k n rs m a r row
unfolding product_entry weight
product_form k is n rs m level stands a less r shape row own = record { below = below; values = λ w. same_on_words k is ws (combination_at ws row) (linear_map k image r) (combination_among ws row below) (among r shape) at w ∙ ap (λ f. value_at k f w) (sym (products r shape)) }
  where
    braid : BraidValue
    braid = without_tables k n

    ws : List (List ℕ)
    ws = candidates (in_ideal rs) (without_tables k n) (suc (suc m))

    image : List ℕ → Combination
    image w = combination_at (candidates (in_ideal rs) (without_tables k n) (suc (suc m))) (cells_of_word n level.forms.rows a w)

    cells_below : (w : List ℕ) → length w ≡ 2 → IsWordOver n w → AllBelow (length (candidates (in_ideal rs) (without_tables k n) (suc (suc m)))) (cells_of_word n level.forms.rows a w)
    cells_below w e over = (word_cells k n rs m level stands a less w e over).0

    products : (f : Combination) → IsQuadratic n f →
        to_candidates rs (without_tables k n) (suc m) (prefixed (word_at (least_words k n rs m) a) f) ≡ linear_map k (λ w. combination_at (candidates (in_ideal rs) (without_tables k n) (suc (suc m))) (cells_of_word n level.forms.rows a w)) f
    products [] h = refl
    products (t ∷ f) h =
        ap₂ (λ (x y : Combination). scalar_multiple k t.coefficient x ++ y) (sym (word_cells k n rs m level stands a less t.word h.0.0 h.1.0).1) (products f (h.0.1, h.1.1))

    among : (f : Combination) → IsQuadratic n f → AllAmong (linear_map k (λ w. combination_at (candidates (in_ideal rs) (without_tables k n) (suc (suc m))) (cells_of_word n level.forms.rows a w)) f) (candidates (in_ideal rs) (without_tables k n) (suc (suc m)))
    among f h = among-linear_map k image f ws (each_word n (λ w. AllAmong (image w) ws) (λ w e over. combination_among ws (cells_of_word n level.forms.rows a w) (cells_below w e over)) f h)

    nothing : (f : Combination) → IsQuadratic n f → (column : ℕ) → length (candidates (in_ideal rs) (without_tables k n) (suc (suc m))) ≤ column → product_entry k n level.forms.rows a f column ≡ 0
    nothing [] h column beyond = refl
    nothing (t ∷ f) h column beyond =
        ap₂ (plus k) (ap (times k t.coefficient) (entry_beyond k is (length ws) (cells_of_word n level.forms.rows a t.word) column (cells_below t.word h.0.0 h.1.0) beyond) ∙ times_zero k t.coefficient is) (nothing f (h.0.1, h.1.1) column beyond)
        ∙ plus_zero k 0 (zero_is_element k is)

    below : AllBelow (length (candidates (in_ideal rs) (without_tables k n) (suc (suc m)))) row
    below = below_by_entries k is (length ws) row own.shape own.elements (λ column beyond. own.entries column ∙ nothing r shape column beyond)

    at : (p : ℕ) → p < length (candidates (in_ideal rs) (without_tables k n) (suc (suc m))) →
        value_at k (combination_at (candidates (in_ideal rs) (without_tables k n) (suc (suc m))) row) (word_at (candidates (in_ideal rs) (without_tables k n) (suc (suc m))) p)
        ≡ value_at k (linear_map k (λ w. combination_at (candidates (in_ideal rs) (without_tables k n) (suc (suc m))) (cells_of_word n level.forms.rows a w)) r) (word_at (candidates (in_ideal rs) (without_tables k n) (suc (suc m))) p)
    at p within =
        let rising : IsRising (candidates (in_ideal rs) (without_tables k n) (suc (suc m))) = candidates_rise (in_ideal rs) braid (suc (suc m)) in
        sym (entry_at_place k ws rising row below p within) ∙ own.entries p
        ∙ same_weight_on k (λ w. entry k (cells_of_word n level.forms.rows a w) p) (λ w. value_at k (image w) (word_at ws p)) r
        (each_word n (λ w. entry k (cells_of_word n level.forms.rows a w) p ≡ value_at k (image w) (word_at ws p)) (λ w e over. entry_at_place k ws rising (cells_of_word n level.forms.rows a w) (cells_below w e over) p within) r shape)
        ∙ sym (value_at-linear_map k is image r (word_at ws p))

-- ---- they span what is zero

abbrev IsGiven : List (List ℕ) → List (List Cell) → Combination → Type 0
IsGiven ws rows g = (row : List Cell) × Contains rows row × (g ≡ combination_at ws row)

pub record AreSpanning (k : FieldValue) (n : ℕ) (rs : List Combination) (m : ℕ) (rows : List (List Cell)) : Type 0 where
  pub below : AllRowsBelow (length (candidates (in_ideal rs) (without_tables k n) m)) rows
  pub zero : RowsSpanZero (in_ideal rs) (without_tables k n) m rows

spanning_first : (k : FieldValue) → IsField k → (n : ℕ) (rs : List Combination) (forms rows : List (List Cell)) → AreProductRows k n forms 0 rs rows → AreSpanning k n rs 1 rows
spanning_first k is n rs forms rows products = record {
  below = all_of_entries (AllBelow (length ws)) rows (λ row i. absurd (none row i));
  zero = λ f among. (
    λ h. spanned_through k is Between (IsGiven ws rows) (λ g b. absurd (let size : length b.front + 2 + length b.back ≡ 1 = b.size in omega arith)) f ((ideal_is_decided rs (without_tables k n) is 1 f).0 h),
    λ s. (ideal_is_decided rs (without_tables k n) is 1 f).1 (spanned_through k is (IsGiven ws rows) Between (λ g given. absurd (none given.0 given.1)) f s),
  );
}
  where
    ws : List (List ℕ)
    ws = candidates (in_ideal rs) (without_tables k n) 1

    Between : Combination → Type 0
    Between g = IsBetween n (Contains rs) 1 g

    none : (row : List Cell) → Contains rows row → ⊥
    none row i = let (a, r, less, listed, own) = products.each row i in omega arith

spanning_later : (k : FieldValue) → IsField k → (n : ℕ) (rs : List Combination) → AllByRecursion (IsQuadratic n) rs → (m : ℕ) (level : Level) → StandsFor k n rs (suc m) level → (rows : List (List Cell)) → AreProductRows k n level.forms.rows level.below rs rows → AreSpanning k n rs (suc (suc m)) rows
unfolding cover_dimension
spanning_later k is n rs shapes m level stands rows products = record {
  below = all_of_entries (AllBelow (length ws)) rows (λ row i. (form_of row i).3.below);
  zero = λ f among. (
    λ h. spanned_through k is (IsProduct rs (without_tables k n) m) (IsGiven ws rows) to f ((products_of_least_words_suffice rs (without_tables k n) is shapes m f among).0 h),
    λ s. (products_of_least_words_suffice rs (without_tables k n) is shapes m f among).1 (spanned_through k is (IsGiven ws rows) (IsProduct rs (without_tables k n) m) from f s),
  );
}
  where
    ws : List (List ℕ)
    ws = candidates (in_ideal rs) (without_tables k n) (suc (suc m))

    us : List (List ℕ)
    us = least_words k n rs m

    shape_of : (r : Combination) → Contains rs r → IsQuadratic n r
    shape_of r i = all_at (IsQuadratic n) rs r shapes i

    form_of : (row : List Cell) → Contains rows row → (a : ℕ) × (r : Combination) × ((a < length (least_words k n rs m)) × Contains rs r) × IsProductForm k n rs m a r row
    form_of row i =
        let (a, r, less, listed, own) = products.each row i in
        let low : a < length (least_words k n rs m) = subst (λ b. a < b) stands.below less in
        (a, r, (low, listed), product_form k is n rs m level stands a low r (shape_of r listed) row own)

    to : (g : Combination) → IsProduct rs (without_tables k n) m g → IsSpanned k (λ x. (row : List Cell) × Contains rows row × (x ≡ combination_at (candidates (in_ideal rs) (without_tables k n) (suc (suc m))) row)) g
    to g (u, r, i, listed, e) =
        let (a, less, here) = position_in us u [] i in
        let (row, j, own) = products.all a r (subst (λ b. a < b) (sym stands.below) less) listed in
        let form : IsProductForm k n rs m a r row = product_form k is n rs m level stands a less r (shape_of r listed) row own in
        spanned_same k (IsGiven ws rows) g (combination_at ws row)
        (λ w. ap (λ x. value_at k x w) (e ∙ ap (λ v. to_candidates rs (without_tables k n) (suc m) (prefixed v r)) (sym here)) ∙ sym (form.values w))
        (spanned_one k is (IsGiven ws rows) (combination_at ws row) (row, j, refl))

    from : (g : Combination) → (row : List Cell) × Contains rows row × (g ≡ combination_at (candidates (in_ideal rs) (without_tables k n) (suc (suc m))) row) → IsSpanned k (IsProduct rs (without_tables k n) m) g
    from g (row, i, e) =
        let (a, r, (less, listed), form) = form_of row i in
        let product : Combination = to_candidates rs (without_tables k n) (suc m) (prefixed (word_at us a) r) in
        spanned_same k (IsProduct rs (without_tables k n) m) g product (λ w. ap (λ x. value_at k x w) e ∙ form.values w)
        (spanned_one k is (IsProduct rs (without_tables k n) m) product (word_at us a, r, Contains-get_or us a [] less, listed, refl))

pub spanning : (k : FieldValue) → IsField k → (n : ℕ) (rs : List Combination) → AllByRecursion (IsQuadratic n) rs → (m : ℕ) (level : Level) → StandsFor k n rs m level → (rows : List (List Cell)) → AreProductRows k n level.forms.rows level.below rs rows → AreSpanning k n rs (suc m) rows
spanning k is n rs shapes zero level stands rows products = spanning_first k is n rs level.forms.rows rows (subst (λ b. AreProductRows k n level.forms.rows b rs rows) stands.below products)
spanning k is n rs shapes (suc m) level stands rows products = spanning_later k is n rs shapes m level stands rows products
