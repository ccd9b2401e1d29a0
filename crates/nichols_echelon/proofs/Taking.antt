-- Taking the last sum out.
use Rattle.std.proofs.Common.{zero, suc, replicate, ◌≡◌, ◌≢◌, ◌<◌, ◌≤◌, ◌+◌, ◌-◌, ◌*◌, ◌/◌, ◌%◌, ◌^◌, ℕ, List, refl, sym, ◌∙◌, ap, subst, arith, inl, inr, length, get_or, set, get_or-set_same, get_or-set_other, w64}
use Rattle.std.specs.Int.{bit_at, leading_zeros}
use Rattle.std.specs.Int.Count.{count_leading_zeros}
use Rattle.std.proofs.Math.Nat.{pow-suc, div-eq_of_lt-le}
use Rattle.std.proofs.lemmas.Nat.{leading_top}
use Rattle.std.proofs.lemmas.Nat.Bits.{bit_at_above, bit_at_clear_other, bit_at-zero}
use Rattle.std.proofs.lemmas.List.{length-set, get_or_past}
use Rattle.std.proofs.lemmas.Bool.{cases_eq, cases_lt}
use Rattle.nichols_field.specs.Field.{FieldValue, IsField, IsElement, element_of_sum}
use Rattle.nichols_field.proofs.Pending.{settled_zero, settled_is_element}
use Rattle.nichols_echelon.specs.Sums.{sum_at, IsZero, IsMarked, IsTaken, IsSameSums, IsZeroFrom}
use Rattle.nichols_echelon.proofs.Draining.{without_bit, bit_falls, zero_from, word_marked}

pub record Taking (k : FieldValue) (initial values marks : List ℕ) (word : ℕ) : Type 0 where
  pub marked : IsMarked values marks
  pub same : IsSameSums k initial values
  pub clear : IsZeroFrom k values (64 * word + 64)
  pub width : length values ≡ length initial

-- the place of the highest 1 of a word
abbrev pub highest : ℕ → ℕ
highest n = 63 - leading_zeros w64 n

pub bit_at-highest : (n : ℕ) → 0 < n → n < 2 ^ 64 → (leading_zeros w64 n < 64) × (highest n < 64) × (bit_at n (highest n) ≡ 1) × ((i : ℕ) → highest n < i → bit_at n i ≡ 0)
bit_at-highest n some fits =
    let top : (j : ℕ) × (count_leading_zeros 64 n + suc j ≡ 64) × (2 ^ j ≤ n) × (n < 2 ^ suc j) = leading_top 64 n some fits in
    let j : ℕ = top.0 in
    let same : highest n ≡ j = omega (arith, top.1) in
    let one : n / 2 ^ j ≡ 1 = div-eq_of_lt-le (2 ^ j) (omega (arith, top.2)) (omega (arith, top.3, pow-suc 2 j)) in
    (omega (arith, top.1), omega (arith, top.1), ap (bit_at n) same ∙ ap (λ q. q % 2) one, λ i above. bit_at_above n (suc j) i top.3 (omega (arith, above, same)))

pub highest_falls : (n : ℕ) → 0 < n → n < 2 ^ 64 → without_bit n (highest n) < n
highest_falls n some fits =
    let top : (leading_zeros w64 n < 64) × (highest n < 64) × (bit_at n (highest n) ≡ 1) × ((i : ℕ) → highest n < i → bit_at n i ≡ 0) = bit_at-highest n some fits in
    bit_falls n (highest n) top.1 top.2

-- behind the highest bit of a word nothing stands, where nothing stands behind the word
pub clear_to : (k : FieldValue) → IsField k → (initial values marks : List ℕ) (word : ℕ) → 0 < get_or marks word 0 → get_or marks word 0 < 2 ^ 64 → Taking k initial values marks word →
    IsZeroFrom k values (64 * word + highest (get_or marks word 0) + 1)
clear_to k is initial values marks word some fits t place more =
    let m : ℕ = get_or marks word 0 in
    let top : (leading_zeros w64 m < 64) × (highest m < 64) × (bit_at m (highest m) ≡ 1) × ((i : ℕ) → highest m < i → bit_at m i ≡ 0) = bit_at-highest m some fits in
    elim (cases_lt place (64 * word + 64)) [
      | inl below ↦
          ap (element_of_sum k)
          (zero_from (get_or values place 0)
          (λ d. sym (top.3 (place - 64 * word) (omega (arith, more))) ∙ word_marked values marks word place t.marked (omega (arith, more)) below d))
          ∙ settled_zero k is
      | inr from ↦ t.clear place from
    ]

place_of : (j word t : ℕ) → t < 64 → j / 64 ≡ word → j % 64 ≡ t → j ≡ 64 * word + t
place_of j word t small q r = omega (arith, q, r)

pub unmarked : (values marks : List ℕ) (word t : ℕ) → word < length marks → t < 64 → IsMarked values marks →
    IsMarked (set values (64 * word + t) 0) (set marks word (without_bit (get_or marks word 0) t))
unmarked values marks word t inside small m = record {
  wide = length-set values (64 * word + t) 0 ∙ m.wide ∙ sym (ap (λ l. 64 * l) (length-set marks word (without_bit (get_or marks word 0) t)));
  short = omega (arith, m.short, length-set values (64 * word + t) 0);
  marked = λ j nonzero.
      let new : ℕ = without_bit (get_or marks word 0) t in
      let p : ℕ = 64 * word + t in
      let there : j ≢ p = λ e. nonzero (ap (λ n. get_or (set values p 0) n 0) e ∙ get_or-set_same values p 0 0 (omega (arith, inside, small, m.wide))) in
      let old : bit_at (get_or marks (j / 64) 0) (j % 64) ≡ 1 = m.marked j (λ z. nonzero (get_or-set_other values p j 0 0 there ∙ z)) in
      elim (cases_eq (j / 64) word) [
        | inl same ↦
            ap (λ w. bit_at (get_or (set marks word new) w 0) (j % 64)) same
            ∙ ap (λ w. bit_at w (j % 64)) (get_or-set_same marks word new 0 inside)
            ∙ bit_at_clear_other w64 (get_or marks word 0) t small (j % 64) (omega arith) (λ bit. there (place_of j word t small same bit))
            ∙ ap (λ w. bit_at (get_or marks w 0) (j % 64)) (sym same) ∙ old
        | inr other ↦ ap (λ w. bit_at w (j % 64)) (get_or-set_other marks word (j / 64) new 0 other) ∙ old
      ];
}

-- a sum that is 0 goes, and all sums stay
pub taking_more : (k : FieldValue) → IsField k → (initial values marks : List ℕ) (word c : ℕ) → word < length marks → 0 < get_or marks word 0 → get_or marks word 0 < 2 ^ 64 →
    c ≡ element_of_sum k (get_or values (64 * word + highest (get_or marks word 0)) 0) → c ≡ 0 → Taking k initial values marks word →
    Taking k initial (set values (64 * word + highest (get_or marks word 0)) 0) (set marks word (without_bit (get_or marks word 0) (highest (get_or marks word 0)))) word
taking_more k is initial values marks word c inside some fits e none t =
    let m : ℕ = get_or marks word 0 in
    let b : ℕ = highest m in
    let p : ℕ = 64 * word + b in
    let small : b < 64 = (bit_at-highest m some fits).1 in
    let here : p < length values = omega (arith, inside, small, t.marked.wide) in
    record {
      marked = unmarked values marks word b inside small t.marked;
      same = λ place.
          elim (cases_eq place p) [
            | inl at ↦
                ap (λ n. sum_at k (set values p 0) n) at ∙ ap (element_of_sum k) (get_or-set_same values p 0 0 here) ∙ settled_zero k is
                ∙ sym none ∙ e ∙ ap (λ n. sum_at k values n) (sym at) ∙ t.same place
            | inr other ↦ ap (element_of_sum k) (get_or-set_other values p place 0 0 other) ∙ t.same place
          ];
      clear = λ place more. ap (element_of_sum k) (get_or-set_other values p place 0 0 (λ z. (let no : ⊥ = omega (arith, z, more, small) in no))) ∙ t.clear place more;
      width = length-set values p 0 ∙ t.width;
    }

pub taken : (k : FieldValue) → IsField k → (initial values marks : List ℕ) (word c : ℕ) → word < length marks → 0 < get_or marks word 0 → get_or marks word 0 < 2 ^ 64 →
    c ≡ element_of_sum k (get_or values (64 * word + highest (get_or marks word 0)) 0) → c ≢ 0 → Taking k initial values marks word →
    IsTaken k initial (set values (64 * word + highest (get_or marks word 0)) 0) (record { column = 64 * word + highest (get_or marks word 0); coefficient = c })
taken k is initial values marks word c inside some fits e nonzero t =
    let m : ℕ = get_or marks word 0 in
    let b : ℕ = highest m in
    let p : ℕ = 64 * word + b in
    let small : b < 64 = (bit_at-highest m some fits).1 in
    let here : p < length values = omega (arith, inside, small, t.marked.wide) in
    let clear : IsZeroFrom k values (p + 1) = clear_to k is initial values marks word some fits t in
    record {
      nonzero = nonzero;
      element = subst (IsElement k) (sym e) (settled_is_element k (get_or values p 0) is);
      inside = omega (arith, here, t.width);
      here = e ∙ t.same p;
      gone = λ place more.
          elim (cases_eq place p) [
            | inl at ↦ ap (λ n. sum_at k (set values p 0) n) at ∙ ap (element_of_sum k) (get_or-set_same values p 0 0 here) ∙ settled_zero k is
            | inr other ↦ ap (element_of_sum k) (get_or-set_other values p place 0 0 other) ∙ clear place (omega (arith, more, other))
          ];
      rest = λ place other. ap (element_of_sum k) (get_or-set_other values p place 0 0 other) ∙ t.same place;
      behind = λ place more. sym (t.same place) ∙ clear place (omega (arith, more));
    }

pub word_clear : (k : FieldValue) → IsField k → (initial values marks : List ℕ) (word : ℕ) → get_or marks word 0 ≡ 0 → Taking k initial values marks word → IsZeroFrom k values (64 * word)
word_clear k is initial values marks word none t place from =
    elim (cases_lt place (64 * word + 64)) [
      | inl below ↦
          ap (element_of_sum k)
          (zero_from (get_or values place 0)
          (λ d. sym (ap (λ w. bit_at w (place - 64 * word)) none ∙ bit_at-zero (place - 64 * word)) ∙ word_marked values marks word place t.marked from below d))
          ∙ settled_zero k is
      | inr more ↦ t.clear place more
    ]

-- past the last place each sum is 0
pub zero_past : (k : FieldValue) → IsField k → (values : List ℕ) (end : ℕ) → length values ≤ end → IsZeroFrom k values end
zero_past k is values end whole place from = ap (element_of_sum k) (get_or_past values place 0 (omega (arith, whole, from))) ∙ settled_zero k is

-- the same where the word of marks has a name
pub unmarked_at : (values marks : List ℕ) (word left : ℕ) → left ≡ get_or marks word 0 → word < length marks → 0 < left → left < 2 ^ 64 → IsMarked values marks →
    IsMarked (set values (64 * word + highest left) 0) (set marks word (without_bit left (highest left)))
unmarked_at values marks word left e inside some fits m =
    subst (λ n. IsMarked (set values (64 * word + highest left) 0) (set marks word (without_bit n (highest left)))) (sym e)
    (unmarked values marks word (highest left) inside (bit_at-highest left some fits).1 m)

pub taking_more_at : (k : FieldValue) → IsField k → (initial values marks : List ℕ) (word left c : ℕ) → left ≡ get_or marks word 0 → word < length marks → 0 < left → left < 2 ^ 64 →
    c ≡ element_of_sum k (get_or values (64 * word + highest left) 0) → c ≡ 0 → Taking k initial values marks word →
    Taking k initial (set values (64 * word + highest left) 0) (set marks word (without_bit left (highest left))) word
taking_more_at k is initial values marks word left c same inside =
    subst (λ n. 0 < n → n < 2 ^ 64 → c ≡ element_of_sum k (get_or values (64 * word + highest n) 0) → c ≡ 0 → Taking k initial values marks word →
    Taking k initial (set values (64 * word + highest n) 0) (set marks word (without_bit n (highest n))) word) (sym same)
    (taking_more k is initial values marks word c inside)

pub taken_at : (k : FieldValue) → IsField k → (initial values marks : List ℕ) (word left c : ℕ) → left ≡ get_or marks word 0 → word < length marks → 0 < left → left < 2 ^ 64 →
    c ≡ element_of_sum k (get_or values (64 * word + highest left) 0) → c ≢ 0 → Taking k initial values marks word →
    IsTaken k initial (set values (64 * word + highest left) 0) (record { column = 64 * word + highest left; coefficient = c })
taken_at k is initial values marks word left c same inside =
    subst (λ n. 0 < n → n < 2 ^ 64 → c ≡ element_of_sum k (get_or values (64 * word + highest n) 0) → c ≢ 0 → Taking k initial values marks word →
    IsTaken k initial (set values (64 * word + highest n) 0) (record { column = 64 * word + highest n; coefficient = c })) (sym same)
    (taken k is initial values marks word c inside)

replicate_zero : (n i : ℕ) → ◌≡◌ {A = ℕ} (get_or (replicate n 0) i 0) 0
replicate_zero zero i = refl
replicate_zero (suc n) zero = refl
replicate_zero (suc n) (suc i) = replicate_zero n i

pub zero_at_first : (k : FieldValue) → IsField k → (values : List ℕ) (n : ℕ) → values ≡ replicate n 0 → IsZero k values
zero_at_first k is values n e place = ap (element_of_sum k) (ap (λ vs. get_or vs place 0) e ∙ replicate_zero n place) ∙ settled_zero k is
