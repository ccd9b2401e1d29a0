-- Rows of one cell behind rows that span what candidates have of zero: an elimination of both finds the least words and the normal forms.
use Rattle.std.proofs.Common.{◌≡◌, ◌↔◌, ℕ, zero, suc, ◌+◌, ◌-◌, ◌<◌, ◌≤◌, Bool, true, false, cond, nat_lt, List, [], ◌∷◌, ◌++◌, map, length, get_or, refl, sym, ◌∙◌, ap, ap₂, subst, arith, inl, inr, length-append}
use Rattle.std.specs.List.{AllByRecursion, Contains, range_with_len}
use Rattle.std.specs.declared.cmp.Ordering.TheVariants.{Less}
use Rattle.std.proofs.lemmas.Bool.{cases_lt}
use Rattle.std.proofs.lemmas.Bool.Decides.{Decides-ltb, nat_tests}
use Rattle.std.proofs.lemmas.List.{get_or_append_left, get_or-append-add, length-map}
use Rattle.std.proofs.lemmas.List.Elements.{Contains-get_or}
use Rattle.std.proofs.lemmas.List.FromFn.{get_or-map-range_with_len, length-range_with_len}
use Rattle.nichols_field.specs.Field.{FieldValue, IsField, IsElement, plus, times, negative}
use Rattle.nichols_field.proofs.FieldLaws.{plus_zero, plus_assoc, opposite_sum, times_one, times_zero, times_assoc, zero_is_element, times_is_element}
use Rattle.nichols_field.proofs.FieldAlgebra.{one_times}
use Rattle.nichols_tensor.specs.Combination.{Combination, value_at, HasSameValues, AllElements, AllAmong, single, scalar_multiple, minus, words_of}
use Rattle.nichols_tensor.specs.Positions.{word_at}
use Rattle.nichols_tensor.specs.Words.{words_before}
use Rattle.nichols_tensor.specs.WordOrder.{word_cmp, IsRising}
use Rattle.nichols_tensor.proofs.AllWords.{in_words_before}
use Rattle.nichols_tensor.proofs.Entries.{contains_none, contains_cases}
use Rattle.nichols_tensor.proofs.Enumeration.{among-append, among-scalar_multiple}
use Rattle.nichols_tensor.proofs.Ordered.{is_in_or_not, zero_at_others}
use Rattle.nichols_tensor.proofs.Over.{all_at, all_of_words, all-append, all-weaker}
use Rattle.nichols_tensor.proofs.Rising.{word_at_is_in, position_of, words_at_rise}
use Rattle.nichols_tensor.proofs.Values.{value_is_element, value_at-minus}
use Rattle.nichols_braid.specs.Braid.{BraidValue}
use Rattle.nichols_braid.specs.Kernel.{Vanishing}
use Rattle.nichols_braid.specs.Least.{is_least, basis, normal_form, candidates}
use Rattle.nichols_braid.specs.LinearTest.{IsLinearTest}
use Rattle.nichols_braid.specs.RightIdealTest.{IsRightIdealTest}
use Rattle.nichols_braid.proofs.Congruences.{AreCongruent, congruent_same, congruent_left, congruent_zero, congruent-append, reduced_with_elements}
use Rattle.nichols_braid.proofs.LeastWords.{not_least_at}
use Rattle.nichols_braid.proofs.NormalForms.{form_is}
use Rattle.nichols_braid.proofs.Reduction.{in_basis}
use Rattle.nichols_braid.proofs.Spanning.{IsSpanning, candidates_span, reduced_to_earlier_entries}
use Rattle.nichols_echelon.specs.Cells.{Cell, entry, IsRow, AllElements as AllCellsElements, AllBelow, IsBelowFirst, columns_of}
use Rattle.nichols_echelon.specs.Combination.{row_at, combined_entry, IsCombination, IsDependent, AllRowsBelow}
use Rattle.nichols_echelon.specs.Split.{place_at, IsPlace, IsSplit, IsReduction, AllIndependent}
use Rattle.nichols_echelon.specs.declared.rows.Place.{Place}
use Rattle.nichols_echelon.specs.declared.rows.Place.TheVariants.{Independent, Depends}
use Rattle.nichols_echelon.proofs.Combinations.{combined_entry-nil, combined_entry-cons, combined_entry-append}
use Rattle.nichols_echelon.proofs.Entries.{entry_beyond}
use Rattle.nichols_echelon.proofs.Shapes.{row_of_all, row_front, row_cons, row_nil}
use Rattle.nichols_rows.specs.CombinationAt.{combination_at}
use Rattle.nichols_rows.proofs.Rows.{combination_among, combination_elements, combination_is_ordered, cells_of}
use Rattle.nichols_value.proofs.FormCells.{entry_at_place}
use Rattle.nichols_tensor.specs.Span.{IsSpanned}
use Rattle.nichols_cover.specs.Units.{unit_row, unit_rows, behind}
use Rattle.nichols_tensor.proofs.Spans.{spanned_one, value_of_more}

-- the rows have what candidates have of what is zero in the algebra: their combinations span it
abbrev pub RowsSpanZero : Vanishing → BraidValue → ℕ → List (List Cell) → Type 0
RowsSpanZero vanishes braid m rows =
    (f : Combination) → AllAmong f (candidates vanishes braid m) →
    (vanishes braid m f ≡ true) ↔ IsSpanned braid.field (λ g. (row : List Cell) × Contains rows row × (g ≡ combination_at (candidates vanishes braid m) row)) f

-- what the place of a candidate's row says, behind so many other rows
abbrev pub IsToldBy : Vanishing → BraidValue → ℕ → ℕ → List ℕ → Place → Type 0
IsToldBy vanishes braid m others w Independent = is_least vanishes braid w ≡ true
IsToldBy vanishes braid m others w (Depends cells) =
    (is_least vanishes braid w ≡ false) × (normal_form vanishes braid m (single w) ≡ combination_at (candidates vanishes braid m) (behind others cells))

-- ---- the rows

given_row : (rows : List (List Cell)) (n i : ℕ) → i < length rows → row_at (rows ++ unit_rows n) i ≡ row_at rows i
given_row rows n i less = get_or_append_left rows (unit_rows n) [] i less

unit_at : (rows : List (List Cell)) (n j : ℕ) → j < n → row_at (rows ++ unit_rows n) (length rows + j) ≡ unit_row j
unit_at rows n j less = get_or-append-add rows (unit_rows n) j [] ∙ get_or-map-range_with_len unit_row 0 n j j [] less (let e : 0 + j ≡ j = omega arith in e)

units_below : (a n : ℕ) → AllRowsBelow (a + n) (map unit_row (range_with_len a n))
units_below a zero = tt
units_below a (suc n) = ((omega arith, tt), subst (λ b. AllRowsBelow b (map unit_row (range_with_len (a + 1) n))) (let e : a + 1 + n ≡ a + suc n = omega arith in e) (units_below (a + 1) n))

all_rows_below : (rows : List (List Cell)) (n : ℕ) → AllRowsBelow n rows → (i : ℕ) → AllBelow n (row_at (rows ++ unit_rows n) i)
all_rows_below rows n below i =
    row_of_all (AllBelow n) (rows ++ unit_rows n) tt
    (all-append (AllBelow n) rows (unit_rows n) below (subst (λ b. AllRowsBelow b (unit_rows n)) (let e : 0 + n ≡ n = omega arith in e) (units_below 0 n))) i

-- ---- the combination of words that a combination of rows is

total : FieldValue → List (List ℕ) → List (List Cell) → List Cell → Combination
total k ws rows [] = []
total k ws rows (c ∷ cells) = scalar_multiple k c.coefficient (combination_at ws (row_at rows c.column)) ++ total k ws rows cells

total_value : (k : FieldValue) → IsField k → (ws : List (List ℕ)) → IsRising ws → (rows : List (List Cell)) → ((i : ℕ) → AllBelow (length ws) (row_at rows i)) → (cells : List Cell) (p : ℕ) → p < length ws →
    value_at k (total k ws rows cells) (word_at ws p) ≡ combined_entry k rows cells p
unfolding total
total_value k is ws rising rows below [] p less = sym (combined_entry-nil k rows p)
total_value k is ws rising rows below (c ∷ cells) p less =
    value_of_more k is c.coefficient (combination_at ws (row_at rows c.column)) (total k ws rows cells) (word_at ws p)
    ∙ ap₂ (λ x y. plus k (times k c.coefficient x) y) (sym (entry_at_place k ws rising (row_at rows c.column) (below c.column) p less)) (total_value k is ws rising rows below cells p less)
    ∙ sym (combined_entry-cons k rows c cells p)

total_among : (k : FieldValue) (ws : List (List ℕ)) (rows : List (List Cell)) → ((i : ℕ) → AllBelow (length ws) (row_at rows i)) → (cells : List Cell) → AllAmong (total k ws rows cells) ws
unfolding total AllAmong
total_among k ws rows below [] = tt
total_among k ws rows below (c ∷ cells) =
    among-append (scalar_multiple k c.coefficient (combination_at ws (row_at rows c.column))) (total k ws rows cells) ws
    (among-scalar_multiple k c.coefficient (combination_at ws (row_at rows c.column)) ws (combination_among ws (row_at rows c.column) (below c.column))) (total_among k ws rows below cells)

-- combinations of words of the list with the same values at these have the same values
pub same_on_words : (k : FieldValue) → IsField k → (ws : List (List ℕ)) (f g : Combination) → AllAmong f ws → AllAmong g ws → ((p : ℕ) → p < length ws → value_at k f (word_at ws p) ≡ value_at k g (word_at ws p)) → HasSameValues k f g
unfolding AllAmong
same_on_words k is ws f g fa ga h v =
    elim (is_in_or_not v ws) [
      | inl i ↦ let (p, less, here) = position_of ws v i in subst (λ u. value_at k f u ≡ value_at k g u) here (h p less)
      | inr none ↦ outside f fa none ∙ sym (outside g ga none)
    ]
  where
    outside : (f : Combination) → AllAmong f ws → (Contains ws v → ⊥) → value_at k f v ≡ 0
    outside f among none = zero_at_others k is f v (λ j. none (all_at (λ u. Contains ws u) (words_of f) v (all_of_words (λ u. Contains ws u) f among) j))

-- ---- what stands behind the given rows

pub behind_below : (g n : ℕ) (cells : List Cell) → AllBelow (g + n) cells → AllBelow n (behind g cells)
behind_below g n [] h = tt
behind_below g n (c ∷ cells) h = at (nat_lt c.column g) refl (behind_below g n cells h.1)
  where
    at : (b : Bool) → nat_lt c.column g ≡ b → AllBelow n (behind g cells) → AllBelow n (cond b (behind g cells) (record { column = c.column - g; coefficient = c.coefficient } ∷ behind g cells))
    at true e rest = rest
    at false e rest = ((let low : c.column < g + n = h.0 in let high : g ≤ c.column = grind (arith, nat_tests) in omega arith), rest)

pub behind_elements : (k : FieldValue) (g : ℕ) (cells : List Cell) → AllCellsElements k cells → AllCellsElements k (behind g cells)
behind_elements k g [] h = tt
behind_elements k g (c ∷ cells) h = at (nat_lt c.column g) (behind_elements k g cells h.1)
  where
    at : (b : Bool) → AllCellsElements k (behind g cells) → AllCellsElements k (cond b (behind g cells) (record { column = c.column - g; coefficient = c.coefficient } ∷ behind g cells))
    at true rest = rest
    at false rest = (h.0, rest)

later_columns : (c : Cell) (cells : List Cell) → IsRow (c ∷ cells) → AllByRecursion (λ (d : Cell). c.column < d.column) cells
later_columns c [] h = tt
later_columns c (d ∷ cells) h =
    let (nonzero, first, rest) = row_front c (d ∷ cells) h in (first, all-weaker (λ (e : Cell). d.column < e.column) (λ (e : Cell). c.column < e.column) (λ e l. let m : c.column < d.column = first in omega arith) cells (later_columns d cells rest))

behind_first : (g x : ℕ) (cells : List Cell) → g ≤ x → AllByRecursion (λ (d : Cell). x < d.column) cells → IsBelowFirst (x - g) (columns_of (behind g cells))
behind_first g x [] low h = tt
behind_first g x (d ∷ cells) low h = at (nat_lt d.column g) refl
  where
    at : (b : Bool) → nat_lt d.column g ≡ b → IsBelowFirst (x - g) (columns_of (cond b (behind g cells) (record { column = d.column - g; coefficient = d.coefficient } ∷ behind g cells)))
    at true e = absurd (let high : x < d.column = h.0 in let less : d.column < g = (Decides-ltb d.column g).0 e in omega arith)
    at false e = let high : x < d.column = h.0 in omega arith

behind_row : (g : ℕ) (cells : List Cell) → IsRow cells → IsRow (behind g cells)
behind_row g [] h = row_nil
behind_row g (c ∷ cells) h = at (nat_lt c.column g) refl (behind_row g cells (row_front c cells h).2)
  where
    at : (b : Bool) → nat_lt c.column g ≡ b → IsRow (behind g cells) → IsRow (cond b (behind g cells) (record { column = c.column - g; coefficient = c.coefficient } ∷ behind g cells))
    at true e rest = rest
    at false e rest =
        let high : g ≤ c.column = grind (arith, nat_tests) in
        row_cons (record { column = c.column - g; coefficient = c.coefficient }) (behind g cells) (row_front c cells h).0 (behind_first g c.column cells high (later_columns c cells h)) rest

-- ---- a combination of rows, up to what is zero in the algebra

-- each given row gives a combination that is zero in the algebra
abbrev AllVanish : (Combination → Bool) → List (List ℕ) → List (List Cell) → Type 0
AllVanish test ws rows = (row : List Cell) → Contains rows row → test (combination_at ws row) ≡ true

total_congruent : (k : FieldValue) → IsField k → (test : Combination → Bool) → IsLinearTest k test → (ws : List (List ℕ)) (rows : List (List Cell)) → AllVanish test ws rows → (cells : List Cell) → AllBelow (length rows + length ws) cells → AllCellsElements k cells →
    AreCongruent k test (total k ws (rows ++ unit_rows (length ws)) cells) (combination_at ws (behind (length rows) cells))
unfolding total
total_congruent k is test l ws rows vanish [] below elements = congruent_same k is test l [] [] (λ w. refl)
total_congruent k is test l ws rows vanish (c ∷ cells) below elements = at (nat_lt c.column (length rows)) refl (total_congruent k is test l ws rows vanish cells below.1 elements.1)
  where
    n : ℕ
    n = length ws

    all : List (List Cell)
    all = rows ++ unit_rows (length ws)

    at : (b : Bool) → nat_lt c.column (length rows) ≡ b → AreCongruent k test (total k ws (rows ++ unit_rows (length ws)) cells) (combination_at ws (behind (length rows) cells)) →
        AreCongruent k test (scalar_multiple k c.coefficient (combination_at ws (row_at (rows ++ unit_rows (length ws)) c.column)) ++ total k ws (rows ++ unit_rows (length ws)) cells)
        (combination_at ws (cond b (behind (length rows) cells) (record { column = c.column - length rows; coefficient = c.coefficient } ∷ behind (length rows) cells)))
    at true e rest =
        let less : c.column < length rows = (Decides-ltb c.column (length rows)).0 e in
        let f : Combination = scalar_multiple k c.coefficient (combination_at ws (row_at all c.column)) in
        let zero_row : test (combination_at ws (row_at rows c.column)) ≡ true = vanish (row_at rows c.column) (Contains-get_or rows c.column [] less) in
        let passes : test (scalar_multiple k c.coefficient (combination_at ws (row_at (rows ++ unit_rows (length ws)) c.column))) ≡ true =
        l.keeps_multiples c.coefficient (combination_at ws (row_at all c.column)) (subst (λ r. test (combination_at ws r) ≡ true) (sym (given_row rows n c.column less)) zero_row) in
        congruent-append k is test l f [] (total k ws all cells) (combination_at ws (behind (length rows) cells)) (congruent_zero k is test l f passes) rest
    at false e rest =
        let high : length rows ≤ c.column = grind (arith, nat_tests) in
        let bound : c.column < length rows + length ws = below.0 in
        let p : ℕ = c.column - length rows in
        let split : c.column ≡ length rows + (c.column - length rows) = omega arith in
        let less : c.column - length rows < length ws = omega arith in
        let row : row_at (rows ++ unit_rows (length ws)) c.column ≡ unit_row (c.column - length rows) = ap (row_at all) split ∙ unit_at rows n p less in
        let same : scalar_multiple k c.coefficient (combination_at ws (row_at (rows ++ unit_rows (length ws)) c.column)) ≡ record { word = word_at ws (c.column - length rows); coefficient = c.coefficient } ∷ [] =
        ap (λ r. scalar_multiple k c.coefficient (combination_at ws r)) row ∙ ap (λ m. record { word = word_at ws p; coefficient = m } ∷ []) (times_one k c.coefficient elements.0) in
        let one : Combination = record { word = word_at ws p; coefficient = c.coefficient } ∷ [] in
        congruent-append k is test l (scalar_multiple k c.coefficient (combination_at ws (row_at all c.column))) one (total k ws all cells) (combination_at ws (behind (length rows) cells))
        (congruent_same k is test l (scalar_multiple k c.coefficient (combination_at ws (row_at all c.column))) one (λ v. ap (λ x. value_at k x v) same)) rest

-- ---- a word's own row

own_value : (k : FieldValue) (ws : List (List ℕ)) → IsRising ws → (j p : ℕ) → j < length ws → p < length ws → entry k (unit_row j) p ≡ value_at k (single (word_at ws j)) (word_at ws p)
own_value k ws rising j p less within = entry_at_place k ws rising (unit_row j) (less, tt) p within

-- where a word's row is a combination of rows, the word is congruent to what stands behind the given ones
row_congruent : (k : FieldValue) → IsField k → (test : Combination → Bool) → IsLinearTest k test → (ws : List (List ℕ)) → IsRising ws → (rows : List (List Cell)) → AllRowsBelow (length ws) rows → AllVanish test ws rows → (j : ℕ) → j < length ws → (cells : List Cell) →
    IsCombination k (rows ++ unit_rows (length ws)) (length rows + j) cells → AreCongruent k test (single (word_at ws j)) (combination_at ws (behind (length rows) cells))
unfolding AllAmong
row_congruent k is test l ws rising rows narrow vanish j less cells c =
    let all : List (List Cell) = rows ++ unit_rows (length ws) in
    let below : (i : ℕ) → AllBelow (length ws) (row_at (rows ++ unit_rows (length ws)) i) = all_rows_below rows (length ws) narrow in
    congruent_left k is test l (total k ws all cells) (single (word_at ws j)) (combination_at ws (behind (length rows) cells))
    (same_on_words k is ws (total k ws all cells) (single (word_at ws j)) (total_among k ws all below cells) (word_at_is_in ws j less, tt)
    (λ p within. total_value k is ws rising all below cells p within ∙ sym (c.value p) ∙ ap (λ r. entry k r p) (unit_at rows (length ws) j less) ∙ own_value k ws rising j p less within))
    (total_congruent k is test l ws rows vanish cells (all-weaker (λ (d : Cell). d.column < length rows + j) (λ (d : Cell). d.column < length rows + length ws) (λ d h. omega arith) cells c.earlier) c.elements)

-- ---- a word that isn't least has a row that depends

record IsMadeOf (k : FieldValue) (ws : List (List ℕ)) (rows : List (List Cell)) (bound : ℕ) (f : Combination) (cells : List Cell) : Type 0 where
  earlier : AllBelow bound cells
  elements : AllCellsElements k cells
  values : (p : ℕ) → p < length ws → combined_entry k rows cells p ≡ value_at k f (word_at ws p)

pub position_in : {X : Type 0} (xs : List X) (x d : X) → Contains xs x → (i : ℕ) × (i < length xs) × (get_or xs i d ≡ x)
position_in [] x d h = absurd (contains_none x h)
position_in (y ∷ xs) x d h =
    elim (contains_cases y xs x h) [
      | inl e ↦ (0, omega arith, sym e)
      | inr later ↦ let (i, less, same) = position_in xs x d later in (suc i, omega arith, same)
    ]

from_given : (k : FieldValue) → IsField k → (ws : List (List ℕ)) → IsRising ws → (rows : List (List Cell)) → AllRowsBelow (length ws) rows → (f : Combination) →
    IsSpanned k (λ g. (row : List Cell) × Contains rows row × (g ≡ combination_at ws row)) f → (cells : List Cell) × IsMadeOf k ws (rows ++ unit_rows (length ws)) (length rows) f cells
from_given k is ws rising rows narrow _ (IsSpanned.none f nothing) = ([], record { earlier = tt; elements = tt; values = λ p less. combined_entry-nil k (rows ++ unit_rows (length ws)) p ∙ sym (nothing (word_at ws p)) })
from_given k is ws rising rows narrow _ (IsSpanned.more f c g h (row, i, e) s same) =
    let (cells, q) = from_given k is ws rising rows narrow h s in
    let (a, less, here) = position_in rows row [] i in
    let all : List (List Cell) = rows ++ unit_rows (length ws) in
    let found : row_at (rows ++ unit_rows (length ws)) a ≡ row = given_row rows (length ws) a less ∙ here in (
      record { column = a; coefficient = times k 1 c } ∷ cells,
      record {
        earlier = (less, q.earlier);
        elements = (times_is_element k 1 c is, q.elements);
        values = λ p within.
            let v : List ℕ = word_at ws p in
            combined_entry-cons k all (record { column = a; coefficient = times k 1 c }) cells p
            ∙ ap₂ (λ x y. plus k (times k (times k 1 c) x) y)
            (ap (λ r. entry k r p) found ∙ entry_at_place k ws rising row (subst (AllBelow (length ws)) found (all_rows_below rows (length ws) narrow a)) p within ∙ ap (λ x. value_at k x v) (sym e)) (q.values p within)
            ∙ ap (λ x. plus k x (value_at k h v)) (times_assoc k 1 c (value_at k g v) ∙ one_times k (times k c (value_at k g v)) (times_is_element k c (value_at k g v) is))
            ∙ sym (same v ∙ value_of_more k is c g h v);
      },
    )

shifted : ℕ → List Cell → List Cell
shifted g cells = map (λ (c : Cell). record { column = g + c.column; coefficient = c.coefficient }) cells

total_shifted : (k : FieldValue) → IsField k → (ws : List (List ℕ)) (rows : List (List Cell)) (cells : List Cell) → AllBelow (length ws) cells → AllCellsElements k cells →
    total k ws (rows ++ unit_rows (length ws)) (shifted (length rows) cells) ≡ combination_at ws cells
unfolding total shifted
total_shifted k is ws rows [] below elements = refl
total_shifted k is ws rows (c ∷ cells) below elements =
    ap₂ (λ (x y : Combination). x ++ y)
    (ap (λ r. scalar_multiple k c.coefficient (combination_at ws r)) (unit_at rows (length ws) c.column below.0) ∙ ap (λ m. record { word = word_at ws c.column; coefficient = m } ∷ []) (times_one k c.coefficient elements.0))
    (total_shifted k is ws rows cells below.1 elements.1)

shifted_below : (g n : ℕ) (cells : List Cell) → AllBelow n cells → AllBelow (g + n) (shifted g cells)
unfolding shifted
shifted_below g n [] h = tt
shifted_below g n (c ∷ cells) h = ((let low : c.column < n = h.0 in omega arith), shifted_below g n cells h.1)

shifted_elements : (k : FieldValue) (g : ℕ) (cells : List Cell) → AllCellsElements k cells → AllCellsElements k (shifted g cells)
unfolding shifted
shifted_elements k g [] h = tt
shifted_elements k g (c ∷ cells) h = (h.0, shifted_elements k g cells h.1)

-- beyond the columns all is 0
combined_beyond : (k : FieldValue) → IsField k → (n : ℕ) (rows : List (List Cell)) → ((i : ℕ) → AllBelow n (row_at rows i)) → (cells : List Cell) (p : ℕ) → n ≤ p → combined_entry k rows cells p ≡ 0
combined_beyond k is n rows below [] p high = combined_entry-nil k rows p
combined_beyond k is n rows below (c ∷ cells) p high =
    combined_entry-cons k rows c cells p
    ∙ ap₂ (plus k) (ap (times k c.coefficient) (entry_beyond k is n (row_at rows c.column) p (below c.column) high) ∙ times_zero k c.coefficient is) (combined_beyond k is n rows below cells p high)
    ∙ plus_zero k 0 (zero_is_element k is)

-- the row of a word that is a combination of words before it, up to a combination of given rows, depends
depends : (k : FieldValue) → IsField k → (ws : List (List ℕ)) → IsRising ws → (rows : List (List Cell)) → AllRowsBelow (length ws) rows → (j : ℕ) → j < length ws → (f : Combination) → AllElements k f →
    AllByRecursion (λ t. Contains ws t.word × (word_cmp t.word (word_at ws j) ≡ Less)) f → IsSpanned k (λ g. (row : List Cell) × Contains rows row × (g ≡ combination_at ws row)) (minus k (single (word_at ws j)) f) →
    IsDependent k (rows ++ unit_rows (length ws)) (length rows + j)
depends k is ws rising rows narrow j less f elements before s =
    let all : List (List Cell) = rows ++ unit_rows (length ws) in
    let below : (i : ℕ) → AllBelow (length ws) (row_at (rows ++ unit_rows (length ws)) i) = all_rows_below rows (length ws) narrow in
    let (given, q) = from_given k is ws rising rows narrow (minus k (single (word_at ws j)) f) s in
    let (units, low, unit_elements, made) = cells_of k ws rising j less f elements before in
    let inside : AllBelow (length ws) units = all-weaker (λ (d : Cell). d.column < j) (λ (d : Cell). d.column < length ws) (λ d h. omega arith) units low in
    let cells : List Cell = given ++ shifted (length rows) units in (
      cells,
      record {
        earlier = all-append (λ (d : Cell). d.column < length rows + j) given (shifted (length rows) units) (all-weaker (λ (d : Cell). d.column < length rows) (λ (d : Cell). d.column < length rows + j) (λ d h. omega arith) given q.earlier) (shifted_below (length rows) j units low);
        elements = all-append (λ (d : Cell). IsElement k d.coefficient) given (shifted (length rows) units) q.elements (shifted_elements k (length rows) units unit_elements);
        value = λ p. elim (cases_lt p (length ws)) [
          | inl within ↦
              let v : List ℕ = word_at ws p in
              ap (λ r. entry k r p) (unit_at rows (length ws) j less) ∙ own_value k ws rising j p less within
              ∙ sym (combined_entry-append k is all given (shifted (length rows) units) p
              ∙ ap₂ (plus k) (q.values p within) (sym (total_value k is ws rising all below (shifted (length rows) units) p within) ∙ ap (λ g. value_at k g v) (total_shifted k is ws rows units inside unit_elements ∙ made))
              ∙ ap (λ x. plus k x (value_at k f v)) (value_at-minus k is (single (word_at ws j)) f v)
              ∙ plus_assoc k (value_at k (single (word_at ws j)) v) (times k (negative k 1) (value_at k f v)) (value_at k f v)
              ∙ ap (plus k (value_at k (single (word_at ws j)) v)) (opposite_sum k (value_at k f v) is) ∙ plus_zero k (value_at k (single (word_at ws j)) v) (value_is_element k is (single (word_at ws j)) v))
          | inr beyond ↦ entry_beyond k is (length ws) (row_at all (length rows + j)) p (below (length rows + j)) beyond ∙ sym (combined_beyond k is (length ws) all below cells p beyond)
        ];
      },
    )

-- ---- what a place says

words_are_before : (vanishes : Vanishing) (braid : BraidValue) (m : ℕ) (ws : List (List ℕ)) → IsSpanning vanishes braid m ws → (j : ℕ) → j < length ws → (cells : List Cell) → AllBelow j cells → AllAmong (combination_at ws cells) (words_before braid.letters (word_at ws j))
unfolding AllAmong
words_are_before vanishes braid m ws s j less [] h = tt
words_are_before vanishes braid m ws s j less (c ∷ cells) h =
    let low : c.column < j = h.0 in
    let here : Contains ws (word_at ws c.column) = word_at_is_in ws c.column (omega arith) in (
      in_words_before braid.letters (word_at ws c.column) (word_at ws j) (s.degree (word_at ws c.column) here ∙ sym (s.degree (word_at ws j) (word_at_is_in ws j less))) (s.over (word_at ws c.column) here) (words_at_rise ws c.column j s.rising low less),
      words_are_before vanishes braid m ws s j less cells h.1,
    )

abbrev IsGiven : List (List ℕ) → List (List Cell) → Combination → Type 0
IsGiven ws rows g = (row : List Cell) × Contains rows row × (g ≡ combination_at ws row)

independent_is_least : (vanishes : Vanishing) (braid : BraidValue) → IsField braid.field → (m : ℕ) → IsLinearTest braid.field (vanishes braid m) → (ws : List (List ℕ)) → IsSpanning vanishes braid m ws → (rows : List (List Cell)) → AllRowsBelow (length ws) rows →
    ((f : Combination) → AllAmong f ws → vanishes braid m f ≡ true → IsSpanned braid.field (IsGiven ws rows) f) → (j : ℕ) → j < length ws → (IsDependent braid.field (rows ++ unit_rows (length ws)) (length rows + j) → ⊥) → is_least vanishes braid (word_at ws j) ≡ true
unfolding AllAmong
independent_is_least vanishes braid is m l ws s rows narrow spans j less free = at (is_least vanishes braid (word_at ws j)) refl
  where
    k : FieldValue
    k = braid.field

    among : (f : Combination) → AllByRecursion (λ t. Contains ws t.word × (word_cmp t.word (word_at ws j) ≡ Less)) f → AllAmong f ws
    among [] h = tt
    among (t ∷ f) h = (h.0.0, among f h.1)

    at : (b : Bool) → is_least vanishes braid (word_at ws j) ≡ b → is_least vanishes braid (word_at ws j) ≡ true
    at true e = e
    at false e =
        let w : List ℕ = word_at ws j in
        let (f, before, elements, c) = reduced_with_elements k is (vanishes braid m) l (λ v. Contains ws v × (word_cmp v w ≡ Less)) (single w)
        (reduced_to_earlier_entries vanishes braid is m l ws s w (s.degree w (word_at_is_in ws j less)) e) in
        absurd (free (depends k is ws s.rising rows narrow j less f elements before
        (spans (minus k (single w) f) (among-append (single w) (scalar_multiple k (negative k 1) f) ws (word_at_is_in ws j less, tt) (among-scalar_multiple k (negative k 1) f ws (among f before))) c)))

-- behind rows that span what candidates have of zero, the row of one cell of a candidate is independent exactly where it is least, and
-- else its cells behind these rows are its normal form
abbrev UnitRowsTellLeastWords : Type 0
UnitRowsTellLeastWords =
    (vanishes : Vanishing) (braid : BraidValue) → IsField braid.field → IsRightIdealTest braid (vanishes braid) → (m : ℕ) (rows : List (List Cell)) (places : List Place) →
    AllRowsBelow (length (candidates vanishes braid m)) rows → RowsSpanZero vanishes braid m rows →
    IsSplit braid.field (rows ++ unit_rows (length (candidates vanishes braid m))) places → (j : ℕ) → j < length (candidates vanishes braid m) →
    IsToldBy vanishes braid m (length rows) (word_at (candidates vanishes braid m) j) (place_at places (length rows + j))

pub unit_rows_tell_least_words : UnitRowsTellLeastWords
unfolding AllAmong
unit_rows_tell_least_words vanishes braid is ideal m rows places narrow spans split j less = at (place_at places (length rows + j)) refl
  where
    k : FieldValue
    k = braid.field

    ws : List (List ℕ)
    ws = candidates vanishes braid m

    l : IsLinearTest braid.field (vanishes braid m)
    l = ideal.linear m

    s : IsSpanning vanishes braid m (candidates vanishes braid m)
    s = candidates_span vanishes braid is ideal m

    vanish : AllVanish (vanishes braid m) (candidates vanishes braid m) rows
    vanish row i =
        (spans (combination_at ws row) (combination_among ws row (all_at (AllBelow (length ws)) rows row narrow i))).1
        (spanned_one k is (IsGiven ws rows) (combination_at ws row) (row, i, refl))

    -- there are as many rows as that
    inside : (p : ℕ) → p < length (candidates vanishes braid m) → length rows + p < length (rows ++ unit_rows (length (candidates vanishes braid m)))
    inside p h =
        let whole : length (rows ++ unit_rows (length (candidates vanishes braid m))) ≡ length rows + length (unit_rows (length (candidates vanishes braid m))) = length-append rows (unit_rows (length ws)) in
        let units : length (unit_rows (length (candidates vanishes braid m))) ≡ length (candidates vanishes braid m) = length-map (range_with_len 0 (length ws)) unit_row ∙ length-range_with_len 0 (length ws) in
        omega arith

    least_at : (p : ℕ) → p < length (candidates vanishes braid m) → place_at places (length rows + p) ≡ Independent → is_least vanishes braid (word_at (candidates vanishes braid m) p) ≡ true
    least_at p h e =
        independent_is_least vanishes braid is m l ws s rows narrow (λ f among. (spans f among).0) p h
        (subst (IsPlace k (rows ++ unit_rows (length ws)) places (length rows + p)) e (split.each (length rows + p) (inside p h)))

    all_least : (cells : List Cell) → AllBelow (length rows + length (candidates vanishes braid m)) cells → AllIndependent places cells → AllAmong (combination_at (candidates vanishes braid m) (behind (length rows) cells)) (basis vanishes braid m)
    all_least [] h i = tt
    all_least (c ∷ cells) h i = one (nat_lt c.column (length rows)) refl (all_least cells h.1 i.1)
      where
        one : (b : Bool) → nat_lt c.column (length rows) ≡ b → AllAmong (combination_at (candidates vanishes braid m) (behind (length rows) cells)) (basis vanishes braid m) →
            AllAmong (combination_at (candidates vanishes braid m) (cond b (behind (length rows) cells) (record { column = c.column - length rows; coefficient = c.coefficient } ∷ behind (length rows) cells))) (basis vanishes braid m)
        one true e rest = rest
        one false e rest =
            let high : length rows ≤ c.column = grind (arith, nat_tests) in
            let bound : c.column < length rows + length (candidates vanishes braid m) = h.0 in
            let p : ℕ = c.column - length rows in
            let split_column : c.column ≡ length rows + (c.column - length rows) = omega arith in
            let low : c.column - length rows < length (candidates vanishes braid m) = omega arith in
            let here : Contains ws (word_at ws p) = word_at_is_in ws p low in
            (in_basis vanishes braid m (word_at ws p) (s.degree (word_at ws p) here) (s.over (word_at ws p) here) (least_at p low (subst (λ q. place_at places q ≡ Independent) split_column i.0)), rest)

    told : (cells : List Cell) → IsReduction braid.field (rows ++ unit_rows (length (candidates vanishes braid m))) places (length rows + j) cells →
        (is_least vanishes braid (word_at (candidates vanishes braid m) j) ≡ false) × (normal_form vanishes braid m (single (word_at (candidates vanishes braid m) j)) ≡ combination_at (candidates vanishes braid m) (behind (length rows) cells))
    told cells r =
        let w : List ℕ = word_at ws j in
        let f : Combination = combination_at ws (behind (length rows) cells) in
        let congruent : AreCongruent k (vanishes braid m) (single w) f = row_congruent k is (vanishes braid m) l ws s.rising rows narrow vanish j less cells r.combination in
        let low : AllBelow j (behind (length rows) cells) = behind_below (length rows) j cells r.combination.earlier in
        let within : AllBelow (length ws) (behind (length rows) cells) = all-weaker (λ (d : Cell). d.column < j) (λ (d : Cell). d.column < length ws) (λ d h. omega arith) (behind (length rows) cells) low in (
          not_least_at vanishes braid is m l w (s.degree w (word_at_is_in ws j less)) f (words_are_before vanishes braid m ws s j less (behind (length rows) cells) low) congruent,
          form_is vanishes braid is m l (single w) f (record {
            least = all_least cells (all-weaker (λ (d : Cell). d.column < length rows + j) (λ (d : Cell). d.column < length rows + length ws) (λ d h. omega arith) cells r.combination.earlier) r.independent;
            ordered = combination_is_ordered ws s.rising (behind (length rows) cells) (behind_row (length rows) cells r.shape) within;
            elements = combination_elements k ws (behind (length rows) cells) (behind_elements k (length rows) cells r.combination.elements);
            congruent = congruent;
          }),
        )

    at : (place : Place) → place_at places (length rows + j) ≡ place → IsToldBy vanishes braid m (length rows) (word_at (candidates vanishes braid m) j) place
    at Independent e = least_at j less e
    at (Depends cells) e = told cells (subst (IsPlace k (rows ++ unit_rows (length ws)) places (length rows + j)) e (split.each (length rows + j) (inside j less)))
