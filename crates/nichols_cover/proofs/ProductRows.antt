-- The rows of products, put behind one another.
use Rattle.std.proofs.Common.{◌≡◌, ℕ, ◌+◌, ◌<◌, List, [], ◌∷◌, ◌++◌, length, take, get_or, sym, ◌∙◌, ap, ap₂, subst, arith, inl, inr, append_assoc}
use Rattle.std.proofs.lemmas.Bool.{cases_lt}
use Rattle.std.proofs.lemmas.List.{append-nil, map-append, take_more}
use Rattle.std.proofs.lemmas.List.Elements.{Contains-append_left, Contains-append_right, Contains-append_cases, Contains-push, Contains-push_cases}
use Rattle.nichols_field.specs.Field.{FieldValue, IsField, plus}
use Rattle.nichols_field.proofs.FieldAlgebra.{zero_plus}
use Rattle.nichols_tensor.specs.Combination.{Combination}
use Rattle.nichols_tensor.specs.Relation.{PlainRelation}
use Rattle.nichols_tensor.proofs.Entries.{contains_none}
use Rattle.nichols_echelon.specs.Cells.{Cell}
use Rattle.nichols_echelon.specs.Rows.{RowsValue}
use Rattle.nichols_echelon.specs.Sums.{IsDrained, IsZero, sum_at}
use Rattle.nichols_cover.specs.Ideal.{generator, generators}
use Rattle.nichols_cover.specs.Rows.{AreProductRows, ArePut, AreRowsOf, IsProductRow, product_entry}
use Rattle.nichols_cover.proofs.ProductSums.{product_entry_is_element}

-- ---- rows of a list

no_rows : {X : Type 0} (Is : X → List Cell → Type 0) → AreRowsOf Is [] []
no_rows Is = record { each = λ row i. absurd (contains_none row i); all = λ x i. absurd (contains_none x i) }

one_row_more : {X : Type 0} (Is : X → List Cell → Type 0) (xs : List X) (rows : List (List Cell)) (x : X) (row : List Cell) → AreRowsOf Is xs rows → Is x row → AreRowsOf Is (xs ++ x ∷ []) (rows ++ row ∷ [])
one_row_more Is xs rows x row r own = record {
  each = λ other i. elim (Contains-push_cases rows row other i) [
    | inl j ↦ let (y, l, is) = r.each other j in (y, Contains-append_left xs (x ∷ []) y l, is)
    | inr e ↦ (x, Contains-push xs x, subst (Is x) e own)
  ];
  all = λ y i. elim (Contains-push_cases xs x y i) [
    | inl j ↦ let (other, l, is) = r.all y j in (other, Contains-append_left rows (row ∷ []) other l, is)
    | inr e ↦ (row, Contains-push rows row, subst (λ z. Is z row) e own)
  ];
}

-- ---- one least word

pub put_start : (k : FieldValue) (n : ℕ) (forms : List (List Cell)) (i : ℕ) (rows : RowsValue) → rows.begun ≡ [] → ArePut k n forms i [] rows rows
put_start k n forms i rows begun = record {
  added = [];
  closed = ap₂ (λ (xs : List (List Cell)) (ys : List Cell). record { rows = xs; begun = ys }) (sym (append-nil rows.rows)) begun;
  rows = no_rows (IsProductRow k n forms i);
}

-- the sums of a product were taken into a row
pub put_more : (k : FieldValue) → IsField k → (n : ℕ) (forms : List (List Cell)) (i : ℕ) (rs : List PlainRelation) (j : ℕ) (r : PlainRelation) (before middle after : RowsValue) (initial values : List ℕ) → j < length rs → r ≡ get_or rs j r → IsZero k initial →
    ((place : ℕ) → sum_at k values place ≡ plus k (sum_at k initial place) (product_entry k n forms i (generator k r) place)) → IsDrained k values middle after →
    ArePut k n forms i (generators k (take j rs)) before middle → ArePut k n forms i (generators k (take (j + 1) rs)) before after
put_more k is n forms i rs j r before middle after initial values less item zero sums drained put = record {
  added = put.added ++ drained.cells ∷ [];
  closed = drained.closed ∙ ap (λ (xs : List (List Cell)). record { rows = xs; begun = [] }) (ap (λ (v : RowsValue). v.rows ++ drained.cells ∷ []) put.closed ∙ append_assoc before.rows put.added (drained.cells ∷ []));
  rows = subst (λ gs. AreRowsOf (IsProductRow k n forms i) gs (put.added ++ drained.cells ∷ [])) (sym longer) (one_row_more (IsProductRow k n forms i) (generators k (take j rs)) put.added (generator k r) drained.cells put.rows own);
}
  where
    longer : generators k (take (j + 1) rs) ≡ generators k (take j rs) ++ generator k r ∷ []
    longer = ap (generators k) (take_more rs j r less ∙ ap (λ (s : PlainRelation). take j rs ++ s ∷ []) (sym item)) ∙ map-append (generator k) (take j rs) (r ∷ [])

    own : IsProductRow k n forms i (generator k r) drained.cells
    own = record {
      shape = drained.sums.row;
      elements = drained.sums.elements;
      entries = λ column.
          drained.sums.entries column ∙ sums column ∙ ap (λ m. plus k m (product_entry k n forms i (generator k r) column)) (zero column)
          ∙ zero_plus k (product_entry k n forms i (generator k r) column) (product_entry_is_element k is n forms i (generator k r) column);
    }

-- ---- all of them

pub products_start : (k : FieldValue) (n : ℕ) (forms : List (List Cell)) (rs : List Combination) → AreProductRows k n forms 0 rs []
products_start k n forms rs = record { each = λ row i. absurd (contains_none row i); all = λ i r less listed. absurd (omega arith) }

pub products_more : (k : FieldValue) (n : ℕ) (forms : List (List Cell)) (count : ℕ) (rs : List Combination) (before after : RowsValue) → AreProductRows k n forms count rs before.rows → ArePut k n forms count rs before after → AreProductRows k n forms (count + 1) rs after.rows
products_more k n forms count rs before after done put = subst (AreProductRows k n forms (count + 1) rs) (sym (ap (λ (v : RowsValue). v.rows) put.closed)) (record {
  each = λ row i. elim (Contains-append_cases before.rows put.added row i) [
    | inl j ↦ let (a, r, less, listed, is) = done.each row j in (a, r, omega arith, listed, is)
    | inr j ↦ let (r, listed, is) = put.rows.each row j in (count, r, omega arith, listed, is)
  ];
  all = λ a r less listed. elim (cases_lt a count) [
    | inl low ↦ let (row, i, is) = done.all a r low listed in (row, Contains-append_left before.rows put.added row i, is)
    | inr high ↦
        let (row, i, is) = put.rows.all r listed in
        let same : count ≡ a = omega arith in
        (row, Contains-append_right before.rows put.added row i, subst (λ b. IsProductRow k n forms b r row) same is)
  ];
})
