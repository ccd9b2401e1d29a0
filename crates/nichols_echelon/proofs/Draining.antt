-- Taking the sums out, place by place.
use Rattle.std.proofs.Common.{◌≡◌, ◌≢◌, ◌<◌, ◌≤◌, ◌==◌, ◌+◌, ◌-◌, ◌*◌, ◌/◌, ◌%◌, ◌^◌, ◌++◌, ◌∷◌, [], ℕ, Bool, true, false, cond, List, refl, sym, ◌∙◌, ◌⊎◌, ap, ap₂, subst, arith, inl, inr, length, get_or, set, get_or-set_same, get_or-set_other, bit_and, w64}
use Rattle.std.specs.Int.{bit_at, bit_not, trailing_zeros}
use mir.Val.{bits}
use Rattle.std.proofs.lemmas.Nat.Bits.{bit_at-trailing_zeros, bit_at_clear_same, bit_at_clear_other, bit_at-zero}
use Rattle.std.proofs.lemmas.Nat.{and_le_l}
use Rattle.std.proofs.lemmas.List.{get_or_past}
use Rattle.std.proofs.lemmas.Bool.{cases_eq, cases_lt, eqb-true, eqb-false}
use Rattle.nichols_field.specs.Field.{FieldValue, IsField, IsElement, plus, element_of_sum}
use Rattle.nichols_field.proofs.FieldLaws.{plus_zero, plus_is_element}
use Rattle.nichols_field.proofs.FieldAlgebra.{zero_plus}
use Rattle.nichols_field.proofs.Pending.{settled_zero, settled_is_element}
use Rattle.nichols_echelon.specs.Cells.{Cell, AllBelow, AllElements, IsRow, cell_value, entry}
use Rattle.nichols_echelon.proofs.Entries.{entry-nil, entry-push, entry_is_element, cell_here, cell_elsewhere}
use Rattle.nichols_tensor.proofs.Over.{all-weaker}
use Rattle.nichols_echelon.proofs.Shapes.{all_push, row-push}
use Rattle.nichols_echelon.specs.Sums.{sum_at, with_entry, IsZero, IsMarked, IsSumRow, IsDraining, KeepsSums, OnlyClears}

-- on to a later place, where nothing stands between
pub draining_skip : (k : FieldValue) (values : List ℕ) (cells : List Cell) (end next : ℕ) → end ≤ next →
    ((place : ℕ) → end ≤ place → place < next → get_or values place 0 ≡ 0) → IsDraining k values cells end → IsDraining k values cells next
draining_skip k values cells end next le none s = record {
  clear = λ place h.
      elim (cases_lt place end) [
        | inl less ↦ s.clear place less
        | inr more ↦ none place more h
      ];
  row = s.row;
  elements = s.elements;
  below = all-weaker (λ (c : Cell). c.column < end) (λ (c : Cell). c.column < next) (λ c h. omega (arith, le)) cells s.below;
}

-- a row with one entry more, behind the others
pushed_state : (k : FieldValue) (values : List ℕ) (cells : List Cell) (p c : ℕ) (b : Bool) → (c == 0) ≡ b → IsElement k c → IsDraining k values cells p →
    IsRow (cond b cells (cells ++ record { column = p; coefficient = c } ∷ [])) × AllElements k (cond b cells (cells ++ record { column = p; coefficient = c } ∷ [])) × AllBelow (p + 1) (cond b cells (cells ++ record { column = p; coefficient = c } ∷ []))
pushed_state k values cells p c true e h s = (s.row, s.elements, all-weaker (λ (c : Cell). c.column < p) (λ (c : Cell). c.column < p + 1) (λ c h. omega arith) cells s.below)
pushed_state k values cells p c false e h s = (
  row-push cells (record { column = p; coefficient = c }) s.row s.below (eqb-false c 0 e),
  all_push (λ (d : Cell). IsElement k d.coefficient) cells (record { column = p; coefficient = c }) s.elements h,
  all_push (λ (d : Cell). d.column < p + 1) cells (record { column = p; coefficient = c })
      (all-weaker (λ (c : Cell). c.column < p) (λ (c : Cell). c.column < p + 1) (λ c h. omega arith) cells s.below) (omega arith),
)

pushed_entry : (k : FieldValue) → IsField k → (cells : List Cell) (p c q : ℕ) (b : Bool) → (c == 0) ≡ b →
    entry k (cond b cells (cells ++ record { column = p; coefficient = c } ∷ [])) q ≡ plus k (entry k cells q) (cell_value (record { column = p; coefficient = c }) q)
pushed_entry k is cells p c q true e =
    sym (ap (plus k (entry k cells q)) (nothing (cases_eq p q)) ∙ plus_zero k (entry k cells q) (entry_is_element k is cells q))
  where
    nothing : ◌⊎◌ (p ≡ q) (p ≢ q) → cell_value (record { column = p; coefficient = c }) q ≡ 0
    nothing (inl here) = cell_here (record { column = p; coefficient = c }) q here ∙ eqb-true c 0 e
    nothing (inr there) = cell_elsewhere (record { column = p; coefficient = c }) q there
pushed_entry k is cells p c q false e = entry-push k is cells (record { column = p; coefficient = c }) q

pub draining_take : (k : FieldValue) → IsField k → (values : List ℕ) (cells : List Cell) (p c : ℕ) → p < length values → c ≡ element_of_sum k (get_or values p 0) →
    IsDraining k values cells p → IsDraining k (set values p 0) (with_entry cells p c) (p + 1)
unfolding with_entry
draining_take k is values cells p c inside e s =
    let h : IsElement k c = subst (IsElement k) (sym e) (settled_is_element k (get_or values p 0) is) in
    let t : IsRow (with_entry cells p c) × AllElements k (with_entry cells p c) × AllBelow (p + 1) (with_entry cells p c) = pushed_state k values cells p c (c == 0) refl h s in
    record {
      clear = λ place less.
          elim (cases_eq place p) [
            | inl here ↦ ap (λ n. get_or (set values p 0) n 0) here ∙ get_or-set_same values p 0 0 inside
            | inr there ↦ get_or-set_other values p place 0 0 there ∙ s.clear place (omega (arith, less, there))
          ];
      row = t.0;
      elements = t.1;
      below = t.2;
    }

pub sums_take : (k : FieldValue) → IsField k → (values : List ℕ) (cells : List Cell) (p c : ℕ) → p < length values → c ≡ element_of_sum k (get_or values p 0) →
    KeepsSums k values cells (set values p 0) (with_entry cells p c)
unfolding with_entry
sums_take k is values cells p c inside e q =
    let n : ℕ = entry k cells q in
    let w : ℕ = cell_value (record { column = p; coefficient = c }) q in
    ap (λ m. plus k m (sum_at k (set values p 0) q)) (pushed_entry k is cells p c q (c == 0) refl)
    ∙ elim (cases_eq p q) [
      | inl here ↦
          ap₂ (λ v m. plus k (plus k n v) m) (cell_here (record { column = p; coefficient = c }) q here)
          (ap (λ m. sum_at k (set values p 0) m) (sym here) ∙ ap (element_of_sum k) (get_or-set_same values p 0 0 inside) ∙ settled_zero k is)
          ∙ plus_zero k (plus k n c) (plus_is_element k n c is)
          ∙ ap (plus k n) (e ∙ ap (sum_at k values) here)
      | inr there ↦
          ap₂ (λ v m. plus k (plus k n v) m) (cell_elsewhere (record { column = p; coefficient = c }) q there)
          (ap (element_of_sum k) (get_or-set_other values p q 0 0 (λ h. there (sym h))))
          ∙ ap (λ m. plus k m (sum_at k values q)) (plus_zero k n (entry_is_element k is cells q))
    ]

pub clears_take : (old values : List ℕ) (p : ℕ) → p < length values → OnlyClears old values → OnlyClears old (set values p 0)
clears_take old values p inside h q nonzero =
    elim (cases_eq q p) [
      | inl here ↦ absurd (nonzero (ap (λ n. get_or (set values p 0) n 0) here ∙ get_or-set_same values p 0 0 inside))
      | inr there ↦
          let same : get_or (set values p 0) q 0 ≡ get_or values q 0 = get_or-set_other values p q 0 0 there in
          same ∙ h q (λ z. nonzero (same ∙ z))
    ]

-- the word without a bit
abbrev pub without_bit : ℕ → ℕ → ℕ
without_bit n k = bit_and n (bit_not w64 (1 * 2 ^ k % 2 ^ bits w64))

-- within a word
pub record InWord (k : FieldValue) (initial : List ℕ) (before : List Cell) (word : ℕ) (values : List ℕ) (cells : List Cell) (left : ℕ) : Type 0 where
  pub end : ℕ
  pub first : 64 * word ≤ end
  pub last : end ≤ 64 * word + 64
  pub state : IsDraining k values cells end
  pub later : (i : ℕ) → i < 64 → bit_at left i ≡ 1 → end ≤ 64 * word + i
  pub marked : (place : ℕ) → end ≤ place → place < 64 * word + 64 → get_or values place 0 ≢ 0 → bit_at left (place - 64 * word) ≡ 1
  pub sums : KeepsSums k initial before values cells
  pub rest : OnlyClears initial values

pub zero_from : (n : ℕ) → (n ≢ 0 → ◌≡◌ {A = ℕ} 0 1) → n ≡ 0
zero_from n h = elim (cases_eq n 0) [ inl e ↦ e | inr d ↦ (let no : ⊥ = omega (arith, h d) in absurd no) ]

pub word_end : (k : FieldValue) (initial : List ℕ) (before : List Cell) (word : ℕ) (values : List ℕ) (cells : List Cell) → InWord k initial before word values cells 0 → IsDraining k values cells (64 * word + 64)
word_end k initial before word values cells w =
    draining_skip k values cells w.end (64 * word + 64) w.last
    (λ place h l. zero_from (get_or values place 0) (λ d. sym (bit_at-zero (place - 64 * word)) ∙ w.marked place h l d)) w.state

pub word_more : (k : FieldValue) → IsField k → (initial : List ℕ) (before : List Cell) (word : ℕ) (values : List ℕ) (cells : List Cell) (left c : ℕ) → 0 < left → left < 2 ^ 64 →
    64 * word + 64 ≤ length values → c ≡ element_of_sum k (get_or values (64 * word + trailing_zeros w64 left) 0) → InWord k initial before word values cells left →
    InWord k initial before word (set values (64 * word + trailing_zeros w64 left) 0) (with_entry cells (64 * word + trailing_zeros w64 left) c) (without_bit left (trailing_zeros w64 left))
word_more k is initial before word values cells left c some fits inside e w =
    let t : ℕ = trailing_zeros w64 left in
    let p : ℕ = 64 * word + t in
    let lowest : (t < bits w64) × (bit_at left t ≡ 1) × ((i : ℕ) → i < t → bit_at left i ≡ 0) = bit_at-trailing_zeros w64 left some fits in
    let small : t < 64 = lowest.0 in
    let reached : w.end ≤ p = w.later t small lowest.1 in
    let here : p < length values = omega (arith, small, inside) in
    let none : (place : ℕ) → w.end ≤ place → place < p → get_or values place 0 ≡ 0 =
    λ place h l. zero_from (get_or values place 0) (λ d.
    sym (lowest.2 (place - 64 * word) (omega (arith, l, h, w.first))) ∙ w.marked place h (omega (arith, l, small)) d) in
    let s : IsDraining k values cells p = draining_skip k values cells w.end p reached none w.state in
    record {
      end = p + 1;
      first = omega arith;
      last = omega (arith, small);
      state = draining_take k is values cells p c here e s;
      later = λ i h b.
          let other : i ≢ t = λ same. (let no : ⊥ = omega (arith, sym (bit_at_clear_same w64 left t small) ∙ ap (bit_at (without_bit left t)) (sym same) ∙ b) in no) in
          let old : bit_at left i ≡ 1 = sym (bit_at_clear_other w64 left t small i h other) ∙ b in
          let above : t ≤ i = elim (cases_lt i t) [ inl less ↦ (let no : ⊥ = omega (arith, sym (lowest.2 i less) ∙ old) in absurd no) | inr more ↦ more ] in
          omega (arith, other, above);
      marked = λ place h l d.
          let same : get_or (set values p 0) place 0 ≡ get_or values place 0 = get_or-set_other values p place 0 0 (λ z. (let no : ⊥ = omega (arith, z, h) in no)) in
          bit_at_clear_other w64 left t small (place - 64 * word) (omega (arith, h, l)) (λ z. (let no : ⊥ = omega (arith, z, h) in no))
          ∙ w.marked place (omega (arith, h, reached)) l (λ z. d (same ∙ z));
      sums = λ q. sums_take k is values cells p c here e q ∙ w.sums q;
      rest = clears_take initial values p here w.rest;
    }

-- a word falls as it loses a bit
pub bit_falls : (left t : ℕ) → t < 64 → bit_at left t ≡ 1 → without_bit left t < left
bit_falls left t small one =
    let at_most : without_bit left t ≤ left = and_le_l left _ in
    elim (cases_eq (without_bit left t) left) [
      | inl same ↦ (let no : ⊥ = omega (arith, sym (bit_at_clear_same w64 left t small) ∙ ap (λ n. bit_at n t) same ∙ one) in absurd no)
      | inr other ↦ omega (arith, at_most, other)
    ]

pub word_falls : (left : ℕ) → 0 < left → left < 2 ^ 64 → without_bit left (trailing_zeros w64 left) < left
word_falls left some fits =
    let lowest : (trailing_zeros w64 left < bits w64) × (bit_at left (trailing_zeros w64 left) ≡ 1) × ((i : ℕ) → i < trailing_zeros w64 left → bit_at left i ≡ 0) = bit_at-trailing_zeros w64 left some fits in
    bit_falls left (trailing_zeros w64 left) lowest.0 lowest.1

-- over the words
pub record Drained (k : FieldValue) (initial values marks : List ℕ) (cells : List Cell) (word : ℕ) : Type 0 where
  pub state : IsDraining k values cells (64 * word)
  pub sums : KeepsSums k initial [] values cells
  pub marked : IsMarked values marks
  pub width : length values ≡ length initial

pub word_marked : (values marks : List ℕ) (word place : ℕ) → IsMarked values marks → 64 * word ≤ place → place < 64 * word + 64 → get_or values place 0 ≢ 0 → bit_at (get_or marks word 0) (place - 64 * word) ≡ 1
word_marked values marks word place m from to nonzero =
    let quotient : word ≡ place / 64 = omega (arith, from, to) in
    let rest : place - 64 * word ≡ place % 64 = omega (arith, from, to) in
    ap₂ (λ w i. bit_at (get_or marks w 0) i) quotient rest ∙ m.marked place nonzero

drained_raw : (k : FieldValue) (initial values marks : List ℕ) (cells : List Cell) (word : ℕ) → length marks ≤ word → Drained k initial values marks cells word → (place : ℕ) → get_or values place 0 ≡ 0
drained_raw k initial values marks cells word whole d place =
    elim (cases_lt place (64 * word)) [
      | inl less ↦ d.state.clear place less
      | inr more ↦ get_or_past values place 0 (omega (arith, whole, more, d.marked.wide))
    ]

pub drained_zero : (k : FieldValue) → IsField k → (initial values marks : List ℕ) (cells : List Cell) (word : ℕ) → length marks ≤ word → Drained k initial values marks cells word → IsZero k values
drained_zero k is initial values marks cells word whole d place = ap (element_of_sum k) (drained_raw k initial values marks cells word whole d place) ∙ settled_zero k is

pub drained_row : (k : FieldValue) → IsField k → (initial values marks : List ℕ) (cells : List Cell) (word : ℕ) → length marks ≡ word → Drained k initial values marks cells word → IsSumRow k initial cells
drained_row k is initial values marks cells word whole d =
    let width : 64 * word ≡ length initial = sym (ap (λ n. 64 * n) whole) ∙ sym d.marked.wide ∙ d.width in
    record {
      row = d.state.row;
      elements = d.state.elements;
      below = subst (λ n. AllBelow n cells) width d.state.below;
      entries = λ place.
          sym (ap (plus k (entry k cells place)) (drained_zero k is initial values marks cells word (omega (arith, whole)) d place) ∙ plus_zero k (entry k cells place) (entry_is_element k is cells place))
          ∙ d.sums place
          ∙ ap (λ n. plus k n (sum_at k initial place)) (entry-nil k place) ∙ zero_plus k (sum_at k initial place) (settled_is_element k (get_or initial place 0) is);
    }
