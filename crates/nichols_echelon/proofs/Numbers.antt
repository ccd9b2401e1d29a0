-- Rows with numbered columns have the same entries, so the same rows depend on the rows before them.
use Rattle.std.proofs.Common.{◌≡◌, ◌≢◌, ◌<◌, ◌≤◌, ◌+◌, ◌-◌, ◌^◌, ◌⊎◌, ℕ, zero, suc, List, [], ◌∷◌, ◌++◌, sym, ◌∙◌, ap, ap₂, subst, arith, inl, inr, length, get_or, take, drop, Fits, w32}
use Rattle.std.specs.List.{Contains}
use Rattle.std.specs.List.Sorted.{IsStrictlyIncreasing}
use Rattle.std.proofs.lemmas.List.{drop_more, drop_all, take_more}
use Rattle.std.proofs.lemmas.List.Elements.{Contains-append_left, Contains-append_right, Contains-get_or}
use Rattle.std.proofs.lemmas.Bool.{cases_eq, cases_lt, cases_order}
use Rattle.nichols_field.specs.Field.{FieldValue, IsField, IsElement, plus, times}
use Rattle.nichols_field.proofs.FieldLaws.{plus_zero, times_zero, zero_is_element}
use Rattle.nichols_echelon.specs.Cells.{Cell, cell_value, entry, IsRow, IsBelowFirst, AllElements, AllBelow, columns_of}
use Rattle.nichols_echelon.specs.Combination.{row_at, combined_entry, IsCombination, AllRowsElements, AllRowsBelow, AreRows}
use Rattle.nichols_echelon.specs.Split.{place_at, IsPlace, IsSplit}
use Rattle.nichols_echelon.specs.Numbering.{all_columns, AllListed, IsNumbered, AreNumbered}
use Rattle.nichols_echelon.specs.declared.rows.Place.{Place}
use Rattle.nichols_echelon.specs.declared.rows.Place.TheVariants.{Independent, Depends}
use Rattle.nichols_echelon.proofs.Shapes.{row_nil, row_cons, row_front, columns_of-append, all_rows, row_of_all}
use Rattle.nichols_echelon.proofs.Entries.{entry-nil, entry-cons, entry_beyond, cell_here, cell_elsewhere}
use Rattle.nichols_echelon.proofs.Combinations.{combined_entry-nil, combined_entry-cons}

-- in a list that rises strictly an earlier number is less
pub rises : (columns : List ℕ) → IsStrictlyIncreasing columns → (i j : ℕ) → i < j → j < length columns → get_or columns i 0 < get_or columns j 0
rises columns h i zero l inside = absurd (omega arith)
rises columns h i (suc j) l inside =
    let step : get_or columns j 0 < get_or columns (j + 1) 0 = h j (omega arith) in
    let same : j + 1 ≡ suc j = omega arith in
    let last : get_or columns j 0 < get_or columns (suc j) 0 = subst (λ n. get_or columns j 0 < get_or columns n 0) same step in
    elim (cases_eq i j) [
      | inl e ↦ subst (λ n. get_or columns n 0 < get_or columns (suc j) 0) (sym e) last
      | inr n ↦ let before : get_or columns i 0 < get_or columns j 0 = rises columns h i j (omega arith) (omega arith) in omega arith
    ]

pub numbers_differ : (columns : List ℕ) → IsStrictlyIncreasing columns → (i j : ℕ) → i < length columns → j < length columns → get_or columns i 0 ≡ get_or columns j 0 → i ≡ j
numbers_differ columns h i j hi hj e =
    elim (cases_order i j) [
      | inl same ↦ same
      | inr (inl less) ↦ absurd (let l : get_or columns i 0 < get_or columns j 0 = rises columns h i j less hj in omega arith)
      | inr (inr more) ↦ absurd (let l : get_or columns j 0 < get_or columns i 0 = rises columns h j i more hi in omega arith)
    ]

-- each number is at most the column there
pub number_small : (columns : List ℕ) → IsStrictlyIncreasing columns → (i : ℕ) → i < length columns → i ≤ get_or columns i 0
number_small columns h zero inside = omega arith
number_small columns h (suc i) inside =
    let l : get_or columns i 0 < get_or columns (suc i) 0 = rises columns h i (suc i) (omega arith) inside in
    let m : i ≤ get_or columns i 0 = number_small columns h i (omega arith) in
    omega arith

-- a greater column has a greater number
mounts : (columns : List ℕ) → IsStrictlyIncreasing columns → (i j : ℕ) → i < length columns → j < length columns → get_or columns i 0 < get_or columns j 0 → i < j
mounts columns h i j hi hj less =
    elim (cases_order i j) [
      | inl same ↦ absurd (let e : get_or columns i 0 ≡ get_or columns j 0 = ap (λ n. get_or columns n 0) same in omega arith)
      | inr (inl before) ↦ before
      | inr (inr after) ↦ absurd (let l : get_or columns j 0 < get_or columns i 0 = rises columns h j i after hi in omega arith)
    ]

first_mounts : (columns : List ℕ) → IsStrictlyIncreasing columns → (x y : Cell) (xs ys : List Cell) → IsNumbered columns (x ∷ xs) (y ∷ ys) → IsBelowFirst x.column (columns_of xs) → IsBelowFirst y.column (columns_of ys)
first_mounts columns h x y [] [] n b = tt
first_mounts columns h x y [] (v ∷ vs) n b = absurd n.3
first_mounts columns h x y (u ∷ us) [] n b = absurd n.3
first_mounts columns h x y (u ∷ us) (v ∷ vs) n b = mounts columns h y.column v.column n.0 n.3.0 (omega (arith, n.1, n.3.1, b))

-- numbered cells are a row
pub numbered_shape : (columns : List ℕ) → IsStrictlyIncreasing columns → (xs ys : List Cell) → IsNumbered columns xs ys → IsRow xs → IsRow ys
numbered_shape columns h [] [] n r = row_nil
numbered_shape columns h [] (y ∷ ys) n r = absurd n
numbered_shape columns h (x ∷ xs) [] n r = absurd n
numbered_shape columns h (x ∷ xs) (y ∷ ys) n r =
    row_cons y ys (λ e. r.nonzero.0 (sym n.2 ∙ e)) (first_mounts columns h x y xs ys n r.rising.0) (numbered_shape columns h xs ys n.3 (row_front x xs r).2)

numbered_below : (columns : List ℕ) (xs ys : List Cell) → IsNumbered columns xs ys → AllBelow (length columns) ys
numbered_below columns [] [] n = tt
numbered_below columns [] (y ∷ ys) n = absurd n
numbered_below columns (x ∷ xs) [] n = absurd n
numbered_below columns (x ∷ xs) (y ∷ ys) n = (n.0, numbered_below columns xs ys n.3)

numbered_elements : (k : FieldValue) (columns : List ℕ) (xs ys : List Cell) → IsNumbered columns xs ys → AllElements k xs → AllElements k ys
numbered_elements k columns [] [] n h = tt
numbered_elements k columns [] (y ∷ ys) n h = absurd n
numbered_elements k columns (x ∷ xs) [] n h = absurd n
numbered_elements k columns (x ∷ xs) (y ∷ ys) n h = (subst (IsElement k) (sym n.2) h.0, numbered_elements k columns xs ys n.3 h.1)

-- one more cell at the end of both
pub numbered-push : (columns : List ℕ) (xs ys : List Cell) (x y : Cell) → IsNumbered columns xs ys → y.column < length columns → get_or columns y.column 0 ≡ x.column → y.coefficient ≡ x.coefficient → IsNumbered columns (xs ++ x ∷ []) (ys ++ y ∷ [])
numbered-push columns [] [] x y n inside at same = (inside, at, same, tt)
numbered-push columns [] (v ∷ vs) x y n inside at same = absurd n
numbered-push columns (u ∷ us) [] x y n inside at same = absurd n
numbered-push columns (u ∷ us) (v ∷ vs) x y n inside at same = (n.0, n.1, n.2, numbered-push columns us vs x y n.3 inside at same)

-- a place where a column stands, or none
find_column : (columns : List ℕ) (x n : ℕ) → ((r : ℕ) × (r < n) × (get_or columns r 0 ≡ x)) ⊎ ((r : ℕ) → r < n → get_or columns r 0 ≢ x)
find_column columns x zero = inr (λ r h. absurd (omega (arith, h)))
find_column columns x (suc n) =
    elim (find_column columns x n) [
      | inl found ↦ inl (found.0, omega (arith, found.1), found.2)
      | inr none ↦
          elim (cases_eq (get_or columns n 0) x) [
            | inl here ↦ inl (n, omega arith, here)
            | inr there ↦
                inr (λ r h e.
                elim (cases_eq r n) [
                  | inl same ↦ there (ap (λ i. get_or columns i 0) (sym same) ∙ e)
                  | inr other ↦ none r (omega arith) e
                ])
          ]
    ]

-- a numbered row has columns below the length of the list
row_below : (columns : List ℕ) (rows numbered : List (List Cell)) → AreNumbered columns rows numbered → (j : ℕ) → AllBelow (length columns) (row_at numbered j)
row_below columns rows numbered all j = numbered_below columns (row_at rows j) (row_at numbered j) (all.each j)

module _ (k : FieldValue) (is : IsField k) (columns : List ℕ) (rising : IsStrictlyIncreasing columns) where
  same_number : (i j : ℕ) → i < length columns → j < length columns → get_or columns i 0 ≡ get_or columns j 0 → i ≡ j
  same_number i j hi hj e = numbers_differ columns rising i j hi hj e

  -- the entry at a number is that at its column
  entry_numbered : (xs ys : List Cell) (r : ℕ) → IsNumbered columns xs ys → r < length columns → entry k ys r ≡ entry k xs (get_or columns r 0)
  entry_numbered [] [] r n inside = entry-nil k r ∙ sym (entry-nil k (get_or columns r 0))
  entry_numbered [] (y ∷ ys) r n inside = absurd n
  entry_numbered (x ∷ xs) [] r n inside = absurd n
  entry_numbered (x ∷ xs) (y ∷ ys) r n inside =
      entry-cons k y ys r ∙ ap₂ (plus k) cell (entry_numbered xs ys r n.3 inside) ∙ sym (entry-cons k x xs (get_or columns r 0))
    where
      cell : cell_value y r ≡ cell_value x (get_or columns r 0)
      cell =
          elim (cases_eq y.column r) [
            | inl here ↦ cell_here y r here ∙ n.2 ∙ sym (cell_here x (get_or columns r 0) (sym n.1 ∙ ap (λ i. get_or columns i 0) here))
            | inr there ↦ cell_elsewhere y r there ∙ sym (cell_elsewhere x (get_or columns r 0) (λ e. there (same_number y.column r n.0 inside (n.1 ∙ e))))
          ]

  -- a column that doesn't occur has no entry
  entry_absent : (xs ys : List Cell) (x : ℕ) → IsNumbered columns xs ys → ((r : ℕ) → r < length columns → get_or columns r 0 ≢ x) → entry k xs x ≡ 0
  entry_absent [] [] x n none = entry-nil k x
  entry_absent [] (y ∷ ys) x n none = absurd n
  entry_absent (c ∷ xs) [] x n none = absurd n
  entry_absent (c ∷ xs) (y ∷ ys) x n none =
      entry-cons k c xs x ∙ ap₂ (plus k) (cell_elsewhere c x (λ e. none y.column n.0 (n.1 ∙ e))) (entry_absent xs ys x n.3 none) ∙ plus_zero k 0 (zero_is_element k is)

  module _ (rows numbered : List (List Cell)) (all : AreNumbered columns rows numbered) where
    row_numbered : (j r : ℕ) → r < length columns → entry k (row_at numbered j) r ≡ entry k (row_at rows j) (get_or columns r 0)
    row_numbered j r inside = entry_numbered (row_at rows j) (row_at numbered j) r (all.each j) inside

    row_absent : (j x : ℕ) → ((r : ℕ) → r < length columns → get_or columns r 0 ≢ x) → entry k (row_at rows j) x ≡ 0
    row_absent j x none = entry_absent (row_at rows j) (row_at numbered j) x (all.each j) none

    combined_numbered : (cells : List Cell) (r : ℕ) → r < length columns → combined_entry k numbered cells r ≡ combined_entry k rows cells (get_or columns r 0)
    combined_numbered [] r inside = combined_entry-nil k numbered r ∙ sym (combined_entry-nil k rows (get_or columns r 0))
    combined_numbered (c ∷ cells) r inside =
        combined_entry-cons k numbered c cells r
        ∙ ap₂ (λ a b. plus k (times k c.coefficient a) b) (row_numbered c.column r inside) (combined_numbered cells r inside)
        ∙ sym (combined_entry-cons k rows c cells (get_or columns r 0))

    combined_absent : (cells : List Cell) (x : ℕ) → ((r : ℕ) → r < length columns → get_or columns r 0 ≢ x) → combined_entry k rows cells x ≡ 0
    combined_absent [] x none = combined_entry-nil k rows x
    combined_absent (c ∷ cells) x none =
        combined_entry-cons k rows c cells x
        ∙ ap₂ (λ a b. plus k (times k c.coefficient a) b) (row_absent c.column x none) (combined_absent cells x none)
        ∙ ap (λ m. plus k m 0) (times_zero k c.coefficient is) ∙ plus_zero k 0 (zero_is_element k is)

    beyond : (j r : ℕ) → length columns ≤ r → entry k (row_at numbered j) r ≡ 0
    beyond j r above = entry_beyond k is (length columns) (row_at numbered j) r (row_below columns rows numbered all j) above

    combined_beyond : (cells : List Cell) (r : ℕ) → length columns ≤ r → combined_entry k numbered cells r ≡ 0
    combined_beyond [] r above = combined_entry-nil k numbered r
    combined_beyond (c ∷ cells) r above =
        combined_entry-cons k numbered c cells r ∙ ap₂ (λ a b. plus k (times k c.coefficient a) b) (beyond c.column r above) (combined_beyond cells r above)
        ∙ ap (λ m. plus k m 0) (times_zero k c.coefficient is) ∙ plus_zero k 0 (zero_is_element k is)

    to_rows : (j : ℕ) (cells : List Cell) → IsCombination k numbered j cells → IsCombination k rows j cells
    to_rows j cells c = record {
      earlier = c.earlier;
      elements = c.elements;
      value = λ x.
          elim (find_column columns x (length columns)) [
            | inl found ↦
                subst (λ y. entry k (row_at rows j) y ≡ combined_entry k rows cells y) found.2
                (sym (row_numbered j found.0 found.1) ∙ c.value found.0 ∙ combined_numbered cells found.0 found.1)
            | inr none ↦ row_absent j x none ∙ sym (combined_absent cells x none)
          ];
    }

    to_numbered : (j : ℕ) (cells : List Cell) → IsCombination k rows j cells → IsCombination k numbered j cells
    to_numbered j cells c = record {
      earlier = c.earlier;
      elements = c.elements;
      value = λ r.
          elim (cases_lt r (length columns)) [
            | inl inside ↦
                row_numbered j r inside ∙ c.value (get_or columns r 0) ∙ sym (combined_numbered cells r inside)
            | inr above ↦ beyond j r above ∙ sym (combined_beyond cells r above)
          ];
    }

    place_to_rows : (places : List Place) (j : ℕ) (place : Place) → IsPlace k numbered places j place → IsPlace k rows places j place
    place_to_rows places j Independent h = λ dependent. h (dependent.0, to_numbered j dependent.0 dependent.1)
    place_to_rows places j (Depends cells) h = record { combination = to_rows j cells h.combination; independent = h.independent; shape = h.shape }

    pub split_to_rows : (places : List Place) → IsSplit k numbered places → IsSplit k rows places
    split_to_rows places s = record {
      count = s.count ∙ all.count;
      each = λ j h. place_to_rows places j (place_at places j) (s.each j (omega (arith, all.count)));
    }

pub rows_below : (columns : List ℕ) (rows numbered : List (List Cell)) → AreNumbered columns rows numbered → AllRowsBelow (length columns) numbered
rows_below columns rows numbered all = all_rows (AllBelow (length columns)) numbered (λ j h. row_below columns rows numbered all j)

pub rows_elements : (k : FieldValue) (columns : List ℕ) (rows numbered : List (List Cell)) → AreNumbered columns rows numbered → AllRowsElements k rows → AllRowsElements k numbered
rows_elements k columns rows numbered all h =
    all_rows (AllElements k) numbered (λ j l. numbered_elements k columns (row_at rows j) (row_at numbered j) (all.each j) (row_of_all (AllElements k) rows tt h j))

pub rows_shape : (columns : List ℕ) → IsStrictlyIncreasing columns → (rows numbered : List (List Cell)) → AreNumbered columns rows numbered → AreRows rows → AreRows numbered
rows_shape columns rising rows numbered all h =
    all_rows IsRow numbered (λ j l. numbered_shape columns rising (row_at rows j) (row_at numbered j) (all.each j) (row_of_all IsRow rows row_nil h j))

-- the columns of all rows
pub all_columns-drop : (rows : List (List Cell)) (i : ℕ) → i < length rows → all_columns (drop i rows) ≡ columns_of (row_at rows i) ++ all_columns (drop (i + 1) rows)
unfolding all_columns
all_columns-drop rows i h = ap all_columns (drop_more rows i [] h)

listed_more : (columns : List ℕ) (cells : List Cell) → ((x : ℕ) → Contains (columns_of cells) x → Contains columns x) → AllListed columns cells
listed_more columns [] h = tt
listed_more columns (c ∷ cells) h =
    (h c.column (Contains-get_or (columns_of (c ∷ cells)) 0 0 (omega arith)), listed_more columns cells (λ x g. h x (Contains-append_right (c.column ∷ []) (columns_of cells) x g)))

contains_all : (rows : List (List Cell)) (j x : ℕ) → j < length rows → Contains (columns_of (row_at rows j)) x → Contains (all_columns rows) x
unfolding all_columns
contains_all [] j x h c = absurd (omega (arith, h))
contains_all (row ∷ rows) zero x h c = Contains-append_left (columns_of row) (all_columns rows) x c
contains_all (row ∷ rows) (suc j) x h c = Contains-append_right (columns_of row) (all_columns rows) x (contains_all rows j x (omega arith) c)

pub all_listed : (columns : List ℕ) (rows : List (List Cell)) → ((x : ℕ) → Contains (all_columns rows) x → Contains columns x) → (j : ℕ) → j < length rows → AllListed columns (row_at rows j)
all_listed columns rows h j inside = listed_more columns (row_at rows j) (λ x c. h x (contains_all rows j x inside c))

-- the columns of the cells up to the next
pub columns_of_more : (cells : List Cell) (i : ℕ) (c : Cell) → i < length cells → c ≡ get_or cells i c → columns_of (take (i + 1) cells) ≡ columns_of (take i cells) ++ c.column ∷ []
columns_of_more cells i c h e = ap columns_of (take_more cells i c h ∙ ap (λ (d : Cell). take i cells ++ d ∷ []) (sym e)) ∙ columns_of-append (take i cells) (c ∷ [])

pub all_columns-none : (rows : List (List Cell)) (i : ℕ) → length rows ≤ i → all_columns (drop i rows) ≡ []
unfolding all_columns
all_columns-none rows i h = ap all_columns (drop_all i rows h)

pub numbered_more : (columns : List ℕ) (cells : List Cell) (i : ℕ) (c : Cell) (out next : List Cell) (y : Cell) → i < length cells → c ≡ get_or cells i c → next ≡ out ++ y ∷ [] → IsNumbered columns (take i cells) out →
    y.column < length columns → get_or columns y.column 0 ≡ c.column → y.coefficient ≡ c.coefficient → IsNumbered columns (take (i + 1) cells) next
numbered_more columns cells i c out next y h e n old inside at same =
    subst (λ (ys : List Cell). IsNumbered columns (take (i + 1) cells) ys) (sym n)
    (subst (λ (xs : List Cell). IsNumbered columns xs (out ++ y ∷ [])) (sym (take_more cells i c h ∙ ap (λ (d : Cell). take i cells ++ d ∷ []) (sym e))) (numbered-push columns (take i cells) out c y old inside at same))

-- numbers below 2 to the 32 that rise strictly are at most so many
pub few_columns : (columns : List ℕ) → IsStrictlyIncreasing columns → ((i : ℕ) → Fits w32 (get_or columns i 0)) → length columns ≤ 2 ^ 32
few_columns columns h bound =
    elim (cases_eq (length columns) 0) [
      | inl none ↦ omega arith
      | inr some ↦
          let last : length columns - 1 ≤ get_or columns (length columns - 1) 0 = number_small columns h (length columns - 1) (omega arith) in
          let fits : Fits w32 (get_or columns (length columns - 1) 0) = bound (length columns - 1) in
          omega arith
    ]
