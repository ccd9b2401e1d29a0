-- Rows that are read as combinations.
use Rattle.std.proofs.Common.{arith, refl, sym, subst, ◌∙◌, ◌≡◌, ◌<◌, ℕ, zero, suc, List, [], ◌∷◌, length, map, slice_index_or}
use Rattle.std.proofs.lemmas.List.{get_or-map, length-map}
use Rattle.std.proofs.lemmas.List.Elements.{All-from_recursion}
use Rattle.nichols_echelon.specs.Cells.{AllBelow, IsRow}
use Rattle.nichols_echelon.specs.Rows.{RowsValue}
use Rattle.nichols_rows.specs.CombinationAt.{combination_at}
use Rattle.nichols_value.specs.Kept.{AreCellsOf, AreFormRows, AreFormRowsOfEach, HaveRowEach, forms_over, forms_over_each}

-- no rows
abbrev pub no_rows : RowsValue
no_rows = record { rows = []; begun = [] }

-- the row that gives the k-th form
pub row_of_form : (ws : List (List ℕ)) (r : RowsValue) (k : ℕ) → AreFormRows (length ws) r → k < length (forms_over ws r)
    → AreCellsOf ws (slice_index_or (forms_over ws r) k []) (slice_index_or r.rows k [])
row_of_form ws r k shape inside =
    let place : k < length r.rows = subst (λ (n : ℕ). k < n) (length-map r.rows (combination_at ws)) inside in
    record {
      row = All-from_recursion IsRow r.rows shape.shape k [] place;
      below = All-from_recursion (AllBelow (length ws)) r.rows shape.below k [] place;
      form = sym (get_or-map (combination_at ws) r.rows k [] [] place);
    }

-- the rows over the words of a place: there are such rows, and such a row, and it gives the form
pub record IsRowOfEach (lists : List (List (List ℕ))) (derivs : List RowsValue) (j k : ℕ) : Type 0 where
  pub list : j < length lists
  pub letter : j < length derivs
  pub place : k < length (slice_index_or derivs j no_rows).rows
  pub cells : AreCellsOf (slice_index_or lists j []) (slice_index_or (slice_index_or (forms_over_each lists derivs) j []) k []) (slice_index_or (slice_index_or derivs j no_rows).rows k [])

pub row_of_each : (lists : List (List (List ℕ))) (derivs : List RowsValue) (j k : ℕ) → AreFormRowsOfEach lists derivs
    → k < length (slice_index_or (forms_over_each lists derivs) j []) → IsRowOfEach lists derivs j k
row_of_each [] derivs j k shape inside = absurd (omega arith)
row_of_each (ws ∷ lists) [] j k shape inside = absurd shape
row_of_each (ws ∷ lists) (r ∷ derivs) zero k shape inside = record {
  list = omega arith;
  letter = omega arith;
  place = subst (λ (n : ℕ). k < n) (length-map r.rows (combination_at ws)) inside;
  cells = row_of_form ws r k shape.0 inside;
}
row_of_each (ws ∷ lists) (r ∷ derivs) (suc j) k shape inside =
    let rest = row_of_each lists derivs j k shape.1 inside in
    record { list = omega arith; letter = omega arith; place = rest.place; cells = rest.cells }

-- as many forms as words, for each letter
pub forms_each : (basis : List (List ℕ)) (lists : List (List (List ℕ))) (right : List RowsValue) (j : ℕ) → HaveRowEach lists right
    → length (slice_index_or (map (forms_over basis) right) j []) ≡ length (slice_index_or lists j [])
forms_each basis [] [] j each = refl
forms_each basis [] (r ∷ right) j each = absurd each
forms_each basis (ws ∷ lists) [] j each = absurd each
forms_each basis (ws ∷ lists) (r ∷ right) zero each = length-map r.rows (combination_at basis) ∙ each.0
forms_each basis (ws ∷ lists) (r ∷ right) (suc j) each = forms_each basis lists right j each.1
