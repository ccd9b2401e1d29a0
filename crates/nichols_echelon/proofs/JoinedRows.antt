-- Rows in parts.
use Rattle.std.proofs.Common.{◌≡◌, ◌<◌, ◌≤◌, ◌+◌, ℕ, zero, suc, List, [], ◌∷◌, ◌++◌, refl, sym, ◌∙◌, ap, ap₂, subst, arith, inl, inr, length, get_or, append-nil, append_assoc, add-one, take, take_all, ◌-◌}
use Rattle.std.specs.List.{AllByRecursion}
use Rattle.std.proofs.lemmas.Bool.{cases_lt}
use Rattle.std.proofs.lemmas.List.{length_push, get_or_append_left, get_or_push, get_or_read, take_more}
use Rattle.nichols_field.specs.Field.{FieldValue, IsField, plus, times}
use Rattle.nichols_field.proofs.FieldLaws.{plus_assoc, plus_zero, times_plus, times_zero}
use Rattle.nichols_echelon.specs.Cells.{Cell, entry}
use Rattle.nichols_echelon.specs.Combination.{row_at}
use Rattle.nichols_echelon.specs.Parts.{cells_behind, joined_row, joined_rows, part_at}
use Rattle.nichols_echelon.specs.Rows.{RowsValue}
use Rattle.nichols_echelon.specs.Sums.{sum_at}
use Rattle.nichols_echelon.proofs.CellsBehind.{behind-append, behind_none}
use Rattle.nichols_echelon.proofs.Entries.{entry-nil, entry-append}
use Rattle.nichols_echelon.proofs.Shapes.{all_back, all_front}
use Rattle.nichols_echelon.proofs.Summing.{sum_is_element}

-- ---- one row

pub joined_first : (lists : List RowsValue) (offsets : List ℕ) (k : ℕ) → joined_row lists offsets k 0 ≡ []
unfolding joined_row
joined_first lists offsets k = refl

pub joined_more : (lists : List RowsValue) (offsets : List ℕ) (k a : ℕ) →
    joined_row lists offsets k (suc a) ≡ joined_row lists offsets k a ++ cells_behind (get_or offsets a 0) (row_at (part_at lists a).rows k)
unfolding joined_row
joined_more lists offsets k a = refl

-- what holds of each cell of a row holds of those of a part
pub part_of_joined : (P : Cell → Type 0) (lists : List RowsValue) (offsets : List ℕ) (k n : ℕ) → AllByRecursion P (joined_row lists offsets k n) → (a : ℕ) → a < n →
    AllByRecursion P (cells_behind (get_or offsets a 0) (row_at (part_at lists a).rows k))
unfolding joined_row
part_of_joined P lists offsets k zero h a less = absurd (omega (arith, less))
part_of_joined P lists offsets k (suc n) h a less =
    elim (cases_lt a n) [
      | inl before ↦ part_of_joined P lists offsets k n (all_front P (joined_row lists offsets k n) (cells_behind (get_or offsets n 0) (row_at (part_at lists n).rows k)) h) a before
      | inr past ↦
          let same : n ≡ a = omega (arith, less, past) in
          subst (λ b. AllByRecursion P (cells_behind (get_or offsets b 0) (row_at (part_at lists b).rows k))) same
          (all_back P (joined_row lists offsets k n) (cells_behind (get_or offsets n 0) (row_at (part_at lists n).rows k)) h)
    ]

-- a part with no cell
pub joined_skip : (lists : List RowsValue) (offsets : List ℕ) (k a : ℕ) → row_at (part_at lists a).rows k ≡ [] → joined_row lists offsets k (suc a) ≡ joined_row lists offsets k a
joined_skip lists offsets k a none =
    joined_more lists offsets k a ∙ ap (λ (cs : List Cell). joined_row lists offsets k a ++ cells_behind (get_or offsets a 0) cs) none ∙ append-nil (joined_row lists offsets k a)

-- a part with a last cell
pub joined_end : (lists : List RowsValue) (offsets : List ℕ) (k a : ℕ) (front : List Cell) (last : Cell) → row_at (part_at lists a).rows k ≡ front ++ last ∷ [] →
    (before : List Cell) × (joined_row lists offsets k (suc a) ≡ before ++ record { column = get_or offsets a 0 + last.column; coefficient = last.coefficient } ∷ [])
joined_end lists offsets k a front last parts = (
  joined_row lists offsets k a ++ cells_behind (get_or offsets a 0) front,
  joined_more lists offsets k a ∙ ap (λ (cs : List Cell). joined_row lists offsets k a ++ cells_behind (get_or offsets a 0) cs) parts
      ∙ ap (λ (cs : List Cell). joined_row lists offsets k a ++ cs) (behind-append (get_or offsets a 0) front (last ∷ []))
      ∙ sym (append_assoc (joined_row lists offsets k a) (cells_behind (get_or offsets a 0) front) (record { column = get_or offsets a 0 + last.column; coefficient = last.coefficient } ∷ [])),
)

-- sums to which a part more was added
pub added_more : (k : FieldValue) → IsField k → (by : ℕ) (lists : List RowsValue) (offsets : List ℕ) (row a : ℕ) (initial values next : List ℕ) →
    ((place : ℕ) → sum_at k values place ≡ plus k (sum_at k initial place) (times k by (entry k (joined_row lists offsets row a) place))) →
    ((place : ℕ) → sum_at k next place ≡ plus k (sum_at k values place) (times k by (entry k (cells_behind (get_or offsets a 0) (row_at (part_at lists a).rows row)) place))) →
    (place : ℕ) → sum_at k next place ≡ plus k (sum_at k initial place) (times k by (entry k (joined_row lists offsets row (a + 1)) place))
added_more k is by lists offsets row a initial values next before step place =
    let v : ℕ = sum_at k initial place in
    let t : ℕ = entry k (joined_row lists offsets row a) place in
    let part : List Cell = cells_behind (get_or offsets a 0) (row_at (part_at lists a).rows row) in
    step place ∙ ap (λ m. plus k m (times k by (entry k part place))) (before place) ∙ plus_assoc k v (times k by t) (times k by (entry k part place))
    ∙ ap (plus k v) (sym (times_plus k by t (entry k part place)) ∙ ap (times k by) (sym (entry-append k is (joined_row lists offsets row a) part place)
    ∙ ap (λ (cs : List Cell). entry k cs place) (sym (joined_more lists offsets row a) ∙ ap (joined_row lists offsets row) (sym (add-one a)))))

pub added_none : (k : FieldValue) → IsField k → (by : ℕ) (lists : List RowsValue) (offsets : List ℕ) (row : ℕ) (values : List ℕ) →
    (place : ℕ) → sum_at k values place ≡ plus k (sum_at k values place) (times k by (entry k (joined_row lists offsets row 0) place))
added_none k is by lists offsets row values place =
    let v : ℕ = sum_at k values place in
    sym (ap (λ (cs : List Cell). plus k v (times k by (entry k cs place))) (joined_first lists offsets row)
    ∙ ap (λ m. plus k v (times k by m)) (entry-nil k place) ∙ ap (plus k v) (times_zero k by is) ∙ plus_zero k v (sum_is_element k is values place))

-- ---- all rows

pub joined_count : (lists : List RowsValue) (offsets : List ℕ) (n : ℕ) → length (joined_rows lists offsets n) ≡ n
unfolding joined_rows
joined_count lists offsets zero = refl
joined_count lists offsets (suc n) =
    let more : length (joined_rows lists offsets n ++ joined_row lists offsets n (length lists) ∷ []) ≡ length (joined_rows lists offsets n) + 1 = length_push (joined_rows lists offsets n) (joined_row lists offsets n (length lists)) in
    let before : length (joined_rows lists offsets n) ≡ n = joined_count lists offsets n in
    omega (arith, more, before)

pub joined_at : (lists : List RowsValue) (offsets : List ℕ) (n k : ℕ) → k < n → row_at (joined_rows lists offsets n) k ≡ joined_row lists offsets k (length lists)
unfolding joined_rows
joined_at lists offsets zero k less = absurd (omega (arith, less))
joined_at lists offsets (suc n) k less =
    let count : length (joined_rows lists offsets n) ≡ n = joined_count lists offsets n in
    elim (cases_lt k n) [
      | inl before ↦ get_or_append_left (joined_rows lists offsets n) (joined_row lists offsets n (length lists) ∷ []) [] k (omega (arith, before, count)) ∙ joined_at lists offsets n k before
      | inr past ↦
          let same : n ≡ k = omega (arith, less, past) in
          get_or_push (joined_rows lists offsets n) (joined_row lists offsets n (length lists)) [] k (count ∙ same) ∙ ap (λ j. joined_row lists offsets j (length lists)) same
    ]

-- rows in one part alone
pub whole_row : (rows : RowsValue) (k : ℕ) → joined_row (rows ∷ []) (0 ∷ []) k 1 ≡ row_at rows.rows k
unfolding joined_row
whole_row rows k = behind_none (row_at rows.rows k)

whole_taken : (r : RowsValue) (n : ℕ) → n ≤ length r.rows → joined_rows (r ∷ []) (0 ∷ []) n ≡ take n r.rows
unfolding joined_rows
whole_taken r zero less = refl
whole_taken r (suc n) less =
    ap₂ (λ (xs : List (List Cell)) (x : List Cell). xs ++ x ∷ []) (whole_taken r n (omega (arith, less))) (whole_row r n)
    ∙ sym (take_more r.rows n [] (omega (arith, less))) ∙ ap (λ m. take m r.rows) (add-one n)

pub whole_rows : (r : RowsValue) → joined_rows (r ∷ []) (0 ∷ []) (length r.rows) ≡ r.rows
whole_rows r = whole_taken r (length r.rows) (omega arith) ∙ take_all (length r.rows) r.rows (omega arith)

-- ---- parts that were read

pub cells_read : (lists : List RowsValue) (a k : ℕ) (r : RowsValue) (cells : List Cell) → a < length lists → r ≡ get_or lists a r → cells ≡ get_or r.rows k [] → cells ≡ row_at (part_at lists a).rows k
cells_read lists a k r cells less at e = e ∙ ap (λ (s : RowsValue). get_or s.rows k []) (get_or_read lists a r less at (record { rows = []; begun = [] }))

-- of the parts left, the last has a cell
pub last_here : (lists : List RowsValue) (offsets : List ℕ) (k left : ℕ) (r : RowsValue) (cells front : List Cell) (last : Cell) → 0 < left → left ≤ length lists →
    joined_row lists offsets k (length lists) ≡ joined_row lists offsets k left → r ≡ get_or lists (left - 1) r → cells ≡ get_or r.rows k [] → cells ≡ front ++ last ∷ [] →
    (before : List Cell) × (joined_row lists offsets k (length lists) ≡ before ++ record { column = get_or offsets (left - 1) 0 + last.column; coefficient = last.coefficient } ∷ [])
last_here lists offsets k left r cells front last some most same at e parts =
    let more : left ≡ suc (left - 1) = omega (arith, some) in
    let end : (before : List Cell) × (joined_row lists offsets k (suc (left - 1)) ≡ before ++ record { column = get_or offsets (left - 1) 0 + last.column; coefficient = last.coefficient } ∷ []) =
    joined_end lists offsets k (left - 1) front last (sym (cells_read lists (left - 1) k r cells (omega (arith, some, most)) at e) ∙ parts) in
    (end.0, same ∙ ap (joined_row lists offsets k) more ∙ end.1)

-- it has none
pub none_here : (lists : List RowsValue) (offsets : List ℕ) (k left : ℕ) (r : RowsValue) (cells : List Cell) → 0 < left → left ≤ length lists →
    joined_row lists offsets k (length lists) ≡ joined_row lists offsets k left → r ≡ get_or lists (left - 1) r → cells ≡ get_or r.rows k [] → cells ≡ [] →
    joined_row lists offsets k (length lists) ≡ joined_row lists offsets k (left - 1)
none_here lists offsets k left r cells some most same at e none =
    let more : left ≡ suc (left - 1) = omega (arith, some) in
    same ∙ ap (joined_row lists offsets k) more ∙ joined_skip lists offsets k (left - 1) (sym (cells_read lists (left - 1) k r cells (omega (arith, some, most)) at e) ∙ none)

-- the row asked for is there, and is the row in parts
pub inside_parts : (lists : List RowsValue) (offsets : List ℕ) (count k : ℕ) (now : List (List Cell)) → joined_rows lists offsets count ≡ now → k < length now → k < count
inside_parts lists offsets count k now view less = let size : length now ≡ count = ap (λ (rows : List (List Cell)). length rows) (sym view) ∙ joined_count lists offsets count in omega (arith, size, less)

pub row_in_parts : (lists : List RowsValue) (offsets : List ℕ) (count k : ℕ) (now : List (List Cell)) → joined_rows lists offsets count ≡ now → k < length now → joined_row lists offsets k (length lists) ≡ row_at now k
row_in_parts lists offsets count k now view less = sym (joined_at lists offsets count k (inside_parts lists offsets count k now view less)) ∙ ap (λ (rows : List (List Cell)). row_at rows k) view
