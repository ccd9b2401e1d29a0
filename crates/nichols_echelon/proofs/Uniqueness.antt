-- Over independent rows a combination is unique, and so is a split.
use Rattle.std.proofs.Common.{◌≡◌, ◌≢◌, ◌<◌, ℕ, zero, suc, List, [], ◌∷◌, refl, sym, ◌∙◌, ap, ap₂, subst, arith, inl, inr, length, ◌⊎◌, ◌↔◌}
use Rattle.std.proofs.lemmas.Bool.{cases_eq, cases_lt}
use Rattle.std.proofs.lemmas.List.{ext_get_or, get_or_past}
use Rattle.nichols_field.specs.Field.{FieldValue, IsField, IsElement, plus, times, negative}
use Rattle.nichols_field.proofs.FieldLaws.{plus_zero, times_assoc, times_comm, times_plus, times_zero, zero_is_element, times_is_element, has_reciprocal}
use Rattle.nichols_field.proofs.FieldAlgebra.{zero_plus, zero_times, one_times, same_from_difference, difference_of_same, negative_twice}
use Rattle.nichols_echelon.specs.Cells.{Cell, entry, IsRow, AllElements, AllBelow}
use Rattle.nichols_echelon.specs.Combination.{row_at, combined_entry, IsDependent, AllFree, AreEqualCombinations}
use Rattle.nichols_echelon.specs.Split.{place_at, AllIndependent, IsPlace, IsSplit}
use Rattle.nichols_echelon.specs.declared.rows.Place.{Place}
use Rattle.nichols_echelon.specs.declared.rows.Place.TheVariants.{Independent, Depends}
use Rattle.nichols_echelon.proofs.Shapes.{all_both}
use Rattle.nichols_echelon.proofs.Entries.{entry-nil, entry-cons, entry_is_element, entry-without_other, entry-without_same, scalar_multiple, without, cell_elsewhere, row_from_entries}
use Rattle.nichols_echelon.proofs.Combinations.{combined_split, combined_entry-nil, combined_entry-scalar_multiple, combined_is_element, all_below-without, all_below-scalar_multiple, all_elements-scalar_multiple, minus, entry-minus, combined_entry-minus, all_below-minus}
use Rattle.nichols_tensor.proofs.Over.{all-append, all-weaker}

-- a r + s ≡ 0 and a b ≡ 1 give r as a multiple of s
solved : (k : FieldValue) → IsField k → (a b r s : ℕ) → IsElement k r → times k a b ≡ 1 → plus k (times k a r) s ≡ 0 → r ≡ times k (times k (negative k 1) b) s
solved k is a b r s er inverse h =
    same_from_difference k r (times k (times k (negative k 1) b) s) is er (times_is_element k (times k (negative k 1) b) s is)
    (ap (plus k r) (ap (times k (negative k 1)) (times_assoc k (negative k 1) b s) ∙ negative_twice k (times k b s) is (times_is_element k b s is))
    ∙ ap (λ v. plus k v (times k b s)) (sym (sym (times_assoc k b a r) ∙ ap (λ v. times k v r) (times_comm k b a ∙ inverse) ∙ one_times k r er))
    ∙ sym (times_plus k b (times k a r) s) ∙ ap (times k b) h ∙ times_zero k b is)

-- each position with a coefficient other than 0 is that of an independent row
abbrev pub AreIndependent : FieldValue → List (List Cell) → List Cell → Type 0
AreIndependent k rows cells = (j : ℕ) → entry k cells j ≢ 0 → IsDependent k rows j → ⊥

-- a combination of independent rows that is 0 has each coefficient 0
pub independent_zero : (k : FieldValue) → IsField k → (rows : List (List Cell)) (n : ℕ) (cells : List Cell) → AllBelow n cells → AreIndependent k rows cells →
    ((column : ℕ) → combined_entry k rows cells column ≡ 0) → (j : ℕ) → entry k cells j ≡ 0
independent_zero k is rows n [] below free none j = entry-nil k j
independent_zero k is rows zero (c ∷ cells) below free none j = absurd (omega (arith, below.0))
independent_zero k is rows (suc n) (c ∷ cells) below free none j =
    at (cases_eq (entry k all n) 0) (λ e. independent_zero k is rows n (without n all) (all_below-without n all below) still (rest_none e))
  where
    all : List Cell
    all = c ∷ cells

    still : AreIndependent k rows (without n all)
    still i nonzero dependent =
        elim (cases_eq i n) [
          | inl same ↦ nonzero (ap (entry k (without n all)) same ∙ entry-without_same k is n all)
          | inr other ↦ free i (λ e. nonzero (entry-without_other k is n all i other ∙ e)) dependent
        ]

    rest_none : entry k all n ≡ 0 → (column : ℕ) → combined_entry k rows (without n all) column ≡ 0
    rest_none e column =
        sym (combined_split k is rows n all column
        ∙ ap (λ v. plus k (times k v (entry k (row_at rows n) column)) (combined_entry k rows (without n all) column)) e
        ∙ ap (λ v. plus k v (combined_entry k rows (without n all) column)) (zero_times k (entry k (row_at rows n) column) is)
        ∙ zero_plus k (combined_entry k rows (without n all) column) (combined_is_element k is rows (without n all) column))
        ∙ none column

    depends : (b : ℕ) → times k (entry k all n) b ≡ 1 → IsDependent k rows n
    depends b inverse = (
      scalar_multiple k (times k (negative k 1) b) (without n all),
      record {
        earlier = all_below-scalar_multiple k (times k (negative k 1) b) n (without n all) (all_below-without n all below);
        elements = all_elements-scalar_multiple k is (times k (negative k 1) b) (without n all);
        value = λ column.
            solved k is (entry k all n) b (entry k (row_at rows n) column) (combined_entry k rows (without n all) column) (entry_is_element k is (row_at rows n) column) inverse
            (sym (combined_split k is rows n all column) ∙ none column)
            ∙ sym (combined_entry-scalar_multiple k is rows (times k (negative k 1) b) (without n all) column);
      },
    )

    at : (entry k all n ≡ 0) ⊎ (entry k all n ≡ 0 → ⊥) → (entry k all n ≡ 0 → (i : ℕ) → entry k (without n all) i ≡ 0) → entry k all j ≡ 0
    at (inl zero_there) rest =
        elim (cases_eq j n) [
          | inl same ↦ ap (entry k all) same ∙ zero_there
          | inr other ↦ sym (entry-without_other k is n all j other) ∙ rest zero_there j
        ]
    at (inr nonzero) rest =
        let r : (b : ℕ) × IsElement k b × (times k (entry k all n) b ≡ 1) = has_reciprocal k (entry k all n) is (entry_is_element k is all n) nonzero in
        absurd (free n nonzero (depends r.0 r.2))

free_entries : (k : FieldValue) → IsField k → (rows : List (List Cell)) (cells : List Cell) → AllFree k rows cells → AreIndependent k rows cells
free_entries k is rows [] free j nonzero dependent = nonzero (entry-nil k j)
free_entries k is rows (c ∷ cells) free j nonzero dependent =
    elim (cases_eq c.column j) [
      | inl same ↦ free.0 (subst (λ i. IsDependent k rows i) (sym same) dependent)
      | inr other ↦
          free_entries k is rows cells free.1 j
          (λ e. nonzero (entry-cons k c cells j ∙ ap₂ (plus k) (cell_elsewhere c j other) e ∙ plus_zero k 0 (zero_is_element k is))) dependent
    ]

free_scalar_multiple : (k : FieldValue) (rows : List (List Cell)) (a : ℕ) (cells : List Cell) → AllFree k rows cells → AllFree k rows (scalar_multiple k a cells)
unfolding scalar_multiple
free_scalar_multiple k rows a [] free = tt
free_scalar_multiple k rows a (c ∷ cells) free = (free.0, free_scalar_multiple k rows a cells free.1)

free_minus : (k : FieldValue) (rows : List (List Cell)) (xs ys : List Cell) → AllFree k rows xs → AllFree k rows ys → AllFree k rows (minus k xs ys)
unfolding minus
free_minus k rows xs ys hx hy = all-append (λ c. IsDependent k rows c.column → ⊥) xs (scalar_multiple k (negative k 1) ys) hx (free_scalar_multiple k rows (negative k 1) ys hy)

-- two rows of positions of independent rows with the same combination are the same
pub combination_is_unique : (k : FieldValue) → IsField k → (rows : List (List Cell)) (n : ℕ) (xs ys : List Cell) → IsRow xs → IsRow ys → AllElements k xs → AllElements k ys →
    AllBelow n xs → AllBelow n ys → AllFree k rows xs → AllFree k rows ys → ((column : ℕ) → combined_entry k rows xs column ≡ combined_entry k rows ys column) → xs ≡ ys
combination_is_unique k is rows n xs ys rx ry ex ey bx by fx fy same =
    row_from_entries k is xs ys rx ry ex ey
    (λ j. same_from_difference k (entry k xs j) (entry k ys j) is (entry_is_element k is xs j) (entry_is_element k is ys j)
    (sym (entry-minus k is xs ys j)
    ∙ independent_zero k is rows n (minus k xs ys) (all_below-minus k n xs ys bx by) (free_entries k is rows (minus k xs ys) (free_minus k rows xs ys fx fy))
    (λ column. combined_entry-minus k is rows xs ys column ∙ ap (λ v. plus k v (times k (negative k 1) (combined_entry k rows ys column))) (same column) ∙ difference_of_same k (combined_entry k rows ys column) is) j))

-- past the last row each position is dependent
free_inside : (k : FieldValue) (rows : List (List Cell)) (j : ℕ) → (IsDependent k rows j → ⊥) → j < length rows
free_inside k rows j free =
    elim (cases_lt j (length rows)) [
      | inl inside ↦ inside
      | inr past ↦
          absurd (free (
            [],
            record {
              earlier = tt;
              elements = tt;
              value = λ column. ap (λ (r : List Cell). entry k r column) (get_or_past rows j [] past) ∙ entry-nil k column ∙ sym (combined_entry-nil k rows column);
            },
          ))
    ]

pub free_below : (k : FieldValue) (rows : List (List Cell)) (cells : List Cell) → AllFree k rows cells → AllBelow (length rows) cells
free_below k rows cells free = all-weaker (λ c. IsDependent k rows c.column → ⊥) (λ c. c.column < length rows) (λ c f. free_inside k rows c.column f) cells free

-- the law as it is stated
pub unique_combination : (k : FieldValue) (rows : List (List Cell)) (xs ys : List Cell) → IsField k → IsRow xs → IsRow ys → AllElements k xs → AllElements k ys → AllFree k rows xs → AllFree k rows ys → AreEqualCombinations k rows xs ys → xs ≡ ys
unique_combination k rows xs ys is rx ry ex ey fx fy same =
    combination_is_unique k is rows (length rows) xs ys rx ry ex ey (free_below k rows xs fx) (free_below k rows ys fy) fx fy same

-- the kind of a place is determined by the rows
pub kind_of_place : (k : FieldValue) (rows : List (List Cell)) (places : List Place) (j : ℕ) (place : Place) → IsPlace k rows places j place → (place ≡ Independent) ↔ (IsDependent k rows j → ⊥)
kind_of_place k rows places j Independent h = (λ e. h, λ f. refl)
kind_of_place k rows places j (Depends cells) h = (λ e. absurd (cc), λ f. absurd (f (cells, h.combination)))

pub kind_is_determined : (k : FieldValue) (rows : List (List Cell)) (places : List Place) (j : ℕ) → IsSplit k rows places → j < length rows → (place_at places j ≡ Independent) ↔ (IsDependent k rows j → ⊥)
kind_is_determined k rows places j split inside = kind_of_place k rows places j (place_at places j) (split.each j inside)

-- a position that a split calls independent is that of an independent row
pub place_independent : (k : FieldValue) (rows : List (List Cell)) (places : List Place) (j : ℕ) (place : Place) → place ≡ Independent → IsPlace k rows places j place → IsDependent k rows j → ⊥
place_independent k rows places j Independent e h = h
place_independent k rows places j (Depends cells) e h = cc

pub all_free : (k : FieldValue) (rows : List (List Cell)) (places : List Place) (n : ℕ) (cells : List Cell) → ((j : ℕ) → j < n → IsPlace k rows places j (place_at places j)) →
    AllBelow n cells → AllIndependent places cells → AllFree k rows cells
all_free k rows places n cells split below independent =
    all_both (λ c. c.column < n) (λ c. place_at places c.column ≡ Independent) (λ c. IsDependent k rows c.column → ⊥)
    (λ c b i. place_independent k rows places c.column (place_at places c.column) i (split c.column b)) cells below independent

same_places : (k : FieldValue) → IsField k → (rows : List (List Cell)) (ps qs : List Place) (j : ℕ) (p q : Place) →
    ((i : ℕ) → i < j → IsPlace k rows ps i (place_at ps i)) → ((i : ℕ) → i < j → IsPlace k rows qs i (place_at qs i)) → IsPlace k rows ps j p → IsPlace k rows qs j q → p ≡ q
same_places k is rows ps qs j Independent Independent lower_p lower_q hp hq = refl
same_places k is rows ps qs j Independent (Depends ys) lower_p lower_q hp hq = absurd (hp (ys, hq.combination))
same_places k is rows ps qs j (Depends xs) Independent lower_p lower_q hp hq = absurd (hq (xs, hp.combination))
same_places k is rows ps qs j (Depends xs) (Depends ys) lower_p lower_q hp hq =
    ap Depends (combination_is_unique k is rows j xs ys hp.shape hq.shape hp.combination.elements hq.combination.elements hp.combination.earlier hq.combination.earlier
    (all_free k rows ps j xs lower_p hp.combination.earlier hp.independent) (all_free k rows qs j ys lower_q hq.combination.earlier hq.independent)
    (λ column. sym (hp.combination.value column) ∙ hq.combination.value column))

-- rows have one split
pub split_is_unique : (k : FieldValue) (rows : List (List Cell)) (ps qs : List Place) → IsField k → IsSplit k rows ps → IsSplit k rows qs → ps ≡ qs
split_is_unique k rows ps qs is hp hq =
    ext_get_or Independent ps qs (hp.count ∙ sym hq.count)
    (λ j below.
    let inside : j < length rows = omega (arith, hp.count) in
    same_places k is rows ps qs j (place_at ps j) (place_at qs j) (λ i less. hp.each i (omega arith)) (λ i less. hq.each i (omega arith)) (hp.each j inside) (hq.each j inside))
