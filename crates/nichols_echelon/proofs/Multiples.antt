-- Multiples of rows.
use Rattle.std.proofs.Common.{◌≡◌, ◌≢◌, ◌<◌, ◌+◌, ℕ, List, [], ◌∷◌, ◌++◌, take, length, get_or, refl, sym, ◌∙◌, ap, ap₂, subst, inl, inr}
use Rattle.std.proofs.lemmas.List.{map-append, take_more}
use Rattle.nichols_field.specs.Field.{FieldValue, IsElement, IsField, times}
use Rattle.nichols_field.proofs.FieldLaws.{times_eq_zero, times_is_element}
use Rattle.nichols_field.proofs.FieldAlgebra.{one_times}
use Rattle.nichols_echelon.specs.Cells.{AllBelow, AllElements, AllNonzero, Cell, IsRising, IsRow, columns_of, entry, multiple_of}
use Rattle.nichols_echelon.proofs.Entries.{entry-scalar_multiple, scalar_multiple}

pub multiple_entry : (k : FieldValue) → IsField k → (by : ℕ) (cells : List Cell) (column : ℕ) → entry k (multiple_of k by cells) column ≡ times k by (entry k cells column)
unfolding scalar_multiple
multiple_entry k is by cells column = entry-scalar_multiple k is by cells column

pub multiple_elements : (k : FieldValue) → IsField k → (by : ℕ) (cells : List Cell) → AllElements k (multiple_of k by cells)
multiple_elements k is by [] = tt
multiple_elements k is by (c ∷ cells) = (times_is_element k by c.coefficient is, multiple_elements k is by cells)

pub multiple_below : (k : FieldValue) (by n : ℕ) (cells : List Cell) → AllBelow n cells → AllBelow n (multiple_of k by cells)
multiple_below k by n [] h = tt
multiple_below k by n (c ∷ cells) h = (h.0, multiple_below k by n cells h.1)

same_columns : (k : FieldValue) (by : ℕ) (cells : List Cell) → columns_of (multiple_of k by cells) ≡ columns_of cells
same_columns k by [] = refl
same_columns k by (c ∷ cells) = ap (λ (cs : List ℕ). c.column ∷ cs) (same_columns k by cells)

all_nonzero : (k : FieldValue) → IsField k → (by : ℕ) → IsElement k by → by ≢ 0 → (cells : List Cell) → AllElements k cells → AllNonzero cells → AllNonzero (multiple_of k by cells)
all_nonzero k is by element nonzero [] e h = tt
all_nonzero k is by element nonzero (c ∷ cells) e h = (
  (λ none. elim (times_eq_zero k by c.coefficient is element e.0 none) [ inl z ↦ nonzero z | inr z ↦ h.0 z ]),
  all_nonzero k is by element nonzero cells e.1 h.1,
)

-- a multiple of a row by an element other than 0 is a row
pub multiple_row : (k : FieldValue) → IsField k → (by : ℕ) → IsElement k by → by ≢ 0 → (cells : List Cell) → AllElements k cells → IsRow cells → IsRow (multiple_of k by cells)
multiple_row k is by element nonzero cells e h = record {
  rising = subst IsRising (sym (same_columns k by cells)) h.rising;
  nonzero = all_nonzero k is by element nonzero cells e h.nonzero;
}

-- by 1 it is the row
pub multiple_one : (k : FieldValue) (by : ℕ) (cells : List Cell) → by ≡ 1 → AllElements k cells → cells ≡ multiple_of k by cells
multiple_one k by [] one e = refl
multiple_one k by (c ∷ cells) one e =
    ap₂ (λ (n : ℕ) (cs : List Cell). record { column = c.column; coefficient = n } ∷ cs) (sym (ap (λ n. times k n c.coefficient) one ∙ one_times k c.coefficient e.0)) (multiple_one k by cells one e.1)

-- one cell more
pub multiple_more : (k : FieldValue) (by : ℕ) (cells : List Cell) (i : ℕ) (c : Cell) → i < length cells → c ≡ get_or cells i c →
    multiple_of k by (take i cells) ++ record { column = c.column; coefficient = times k by c.coefficient } ∷ [] ≡ multiple_of k by (take (i + 1) cells)
multiple_more k by cells i c less at =
    sym (map-append (λ (d : Cell). (let e : Cell = record { column = d.column; coefficient = times k by d.coefficient } in e)) (take i cells) (c ∷ []))
    ∙ ap (multiple_of k by) (sym (take_more cells i c less ∙ ap (λ (d : Cell). take i cells ++ d ∷ []) (sym at)))
