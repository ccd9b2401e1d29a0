-- Adding a row to unreduced sums, cell by cell.
use Rattle.std.proofs.Common.{◌≡◌, ◌<◌, ◌+◌, ◌*◌, ◌/◌, ◌%◌, ◌^◌, ℕ, List, refl, sym, ◌∙◌, ap, subst, arith, inl, inr, length, get_or, set, take, get_or-set_same, get_or-set_other, bit_or}
use Rattle.std.specs.Int.{bit_at}
use Rattle.std.proofs.Common.{w64}
use mir.Val.{bits}
use Rattle.std.proofs.lemmas.Nat.Bits.{bit_at_set_same, bit_at_set_other}
use Rattle.std.proofs.lemmas.List.{length-set}
use Rattle.std.proofs.lemmas.Bool.{cases_eq}
use Rattle.nichols_field.specs.Field.{FieldValue, IsField, IsElement, plus, times, element_of_sum}
use Rattle.nichols_field.proofs.FieldLaws.{plus_assoc, plus_zero, times_plus, times_zero}
use Rattle.nichols_field.proofs.Pending.{settled_is_element}
use Rattle.nichols_echelon.specs.Cells.{Cell, cell_value, entry}
use Rattle.nichols_echelon.proofs.Entries.{entry-nil, cell_here, cell_elsewhere}
use Rattle.nichols_echelon.proofs.Entries.{entry_more}
use Rattle.nichols_echelon.specs.Sums.{sum_at, IsMarked}

-- the word with a bit set
abbrev pub with_bit : ℕ → ℕ → ℕ
with_bit n k = bit_or n (1 * 2 ^ k % 2 ^ bits w64)

pub sum_is_element : (k : FieldValue) → IsField k → (values : List ℕ) (place : ℕ) → IsElement k (sum_at k values place)
sum_is_element k is values place = settled_is_element k (get_or values place 0) is

pub record Scattered (k : FieldValue) (by : ℕ) (cells : List Cell) (initial values marks : List ℕ) (i : ℕ) : Type 0 where
  pub value : (place : ℕ) → sum_at k values place ≡ plus k (sum_at k initial place) (times k by (entry k (take i cells) place))
  pub marked : IsMarked values marks

pub scatter_start : (k : FieldValue) → IsField k → (by : ℕ) (cells : List Cell) (values marks : List ℕ) → IsMarked values marks → Scattered k by cells values values marks 0
scatter_start k is by cells values marks marked = record {
  value = λ place.
      let v : ℕ = sum_at k values place in
      sym (ap (λ m. plus k v (times k by m)) (entry-nil k place) ∙ ap (plus k v) (times_zero k by is) ∙ plus_zero k v (settled_is_element k (get_or values place 0) is));
  marked = marked;
}

-- sums after a write that adds to one of them
written : (k : FieldValue) → IsField k → (by : ℕ) (c : Cell) (values : List ℕ) (n j : ℕ) → c.column < length values →
    element_of_sum k n ≡ plus k (sum_at k values c.column) (times k by c.coefficient) →
    sum_at k (set values c.column n) j ≡ plus k (sum_at k values j) (times k by (cell_value c j))
written k is by c values n j inside e =
    elim (cases_eq c.column j) [
      | inl here ↦
          subst (λ m. sum_at k (set values c.column n) m ≡ plus k (sum_at k values m) (times k by (cell_value c m))) here
          (ap (element_of_sum k) (get_or-set_same values c.column n 0 inside) ∙ e ∙ ap (λ m. plus k (sum_at k values c.column) (times k by m)) (sym (cell_here c c.column refl)))
      | inr there ↦
          ap (element_of_sum k) (get_or-set_other values c.column j n 0 (λ h. there (sym h)))
          ∙ sym (ap (λ m. plus k (sum_at k values j) (times k by m)) (cell_elsewhere c j there) ∙ ap (plus k (sum_at k values j)) (times_zero k by is) ∙ plus_zero k (sum_at k values j) (sum_is_element k is values j))
    ]

pub word_inside : (c n m : ℕ) → c < n → n ≡ 64 * m → c / 64 < m
word_inside c n m h w = omega arith

within : (c : ℕ) → c % 64 < 64
within c = omega arith

pub marked-set : (values marks : List ℕ) (c n : ℕ) → c < length values → IsMarked values marks →
    IsMarked (set values c n) (set marks (c / 64) (with_bit (get_or marks (c / 64) 0) (c % 64)))
marked-set values marks c n inside m = record {
  wide = length-set values c n ∙ m.wide ∙ sym (ap (λ l. 64 * l) (length-set marks (c / 64) (with_bit (get_or marks (c / 64) 0) (c % 64))));
  short = omega (arith, m.short, length-set values c n);
  marked = λ j nonzero.
      let word : ℕ = get_or marks (c / 64) 0 in
      let new : ℕ = with_bit word (c % 64) in
      elim (cases_eq (j / 64) (c / 64)) [
        | inl same ↦
            ap (λ b. bit_at (get_or (set marks (c / 64) new) b 0) (j % 64)) same
            ∙ ap (λ w. bit_at w (j % 64)) (get_or-set_same marks (c / 64) new 0 (word_inside c (length values) (length marks) inside m.wide))
            ∙ elim (cases_eq (j % 64) (c % 64)) [
              | inl bit ↦ ap (bit_at new) bit ∙ bit_at_set_same w64 word (c % 64) (within c)
              | inr bit ↦
                  bit_at_set_other w64 word (c % 64) (within c) (j % 64) bit
                  ∙ ap (λ b. bit_at (get_or marks b 0) (j % 64)) (sym same)
                  ∙ m.marked j (λ e. nonzero (get_or-set_other values c j n 0 (λ h. bit (ap (λ x. x % 64) h)) ∙ e))
            ]
        | inr other ↦
            ap (λ w. bit_at w (j % 64)) (get_or-set_other marks (c / 64) (j / 64) new 0 other)
            ∙ m.marked j (λ e. nonzero (get_or-set_other values c j n 0 (λ h. other (ap (λ x. x / 64) h)) ∙ e))
      ];
}

pub scatter_more : (k : FieldValue) → IsField k → (by : ℕ) (cells : List Cell) (initial values marks : List ℕ) (i : ℕ) (c : Cell) (d n : ℕ) → i < length cells → c ≡ get_or cells i c → d ≡ c.column →
    d < length values → element_of_sum k n ≡ plus k (sum_at k values d) (times k by c.coefficient) → Scattered k by cells initial values marks i →
    Scattered k by cells initial (set values d n) (set marks (d / 64) (with_bit (get_or marks (d / 64) 0) (d % 64))) (i + 1)
scatter_more k is by cells initial values marks i c d n inside item same below e s =
    let at : (place : ℕ) → sum_at k (set values d n) place ≡ plus k (sum_at k values place) (times k by (cell_value c place)) =
    λ place.
    ap (λ m. sum_at k (set values m n) place) same ∙ written k is by c values n place (subst (λ m. m < length values) same below) (e ∙ ap (λ m. plus k (sum_at k values m) (times k by c.coefficient)) same) in
    record {
      value = λ place.
          let v : ℕ = sum_at k initial place in
          let t : ℕ = entry k (take i cells) place in
          let w : ℕ = cell_value c place in
          at place ∙ ap (λ m. plus k m (times k by w)) (s.value place) ∙ plus_assoc k v (times k by t) (times k by w)
          ∙ ap (plus k v) (sym (times_plus k by t w) ∙ ap (times k by) (sym (entry_more k is cells i c place inside item)));
      marked = marked-set values marks d n below s.marked;
    }
