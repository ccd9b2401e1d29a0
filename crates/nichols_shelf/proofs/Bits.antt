-- A bit that is set in a word.
use Rattle.std.proofs.Common.{◌≡◌, ◌≢◌, ℕ, ◌<◌, ◌^◌, ◌/◌, ◌%◌, sym, ap, ◌∙◌, arith, div-add-mod', lt_of_not-le}
use Rattle.std.specs.Int.{bit_at}
use Rattle.std.specs.Prelude.{bit_or}
use Rattle.std.proofs.lemmas.Nat.Bits.{bit_at_or, bit_at-pow_same, bit_at-pow_other, bit_at-lt, bit_at_cat_low, bit_at_above}
use mathlib.Core.Logic.{dite}
use native.Mathlib.Decide.{ℕ_discrete, dec_le}
use Rattle.nichols_tensor.specs.declared.TheConstants.{LETTER_LIMIT}

pub bit_same : (x k : ℕ) → bit_at (bit_or x (2 ^ k)) k ≡ 1
bit_same x k = bit_at_or x (2 ^ k) k ∙ (let p = bit_at-pow_same k in let q = bit_at-lt x k in omega arith)

pub bit_other : (x k i : ℕ) → i ≢ k → bit_at (bit_or x (2 ^ k)) i ≡ bit_at x i
bit_other x k i n = bit_at_or x (2 ^ k) i ∙ (let p = bit_at-pow_other k i n in omega arith)

-- a power of 2 tells its exponent
pub same_exponent : (j k : ℕ) → 2 ^ j ≡ 2 ^ k → j ≡ k
same_exponent j k e = dite (ℕ_discrete j k) (λ q. q)
    (λ n. absurd (let one : 0 ≡ 1 = sym (bit_at-pow_other k j n) ∙ ap (λ x. bit_at x j) (sym e) ∙ bit_at-pow_same j in omega arith))

pub nought_is_one : (x : ℕ) → x ≡ 0 → x ≡ 1 → ⊥
nought_is_one x a b = omega arith

-- the bits of the letters
pub low_bits : (x i : ℕ) → i < LETTER_LIMIT → bit_at (x % 2 ^ LETTER_LIMIT) i ≡ bit_at x i
low_bits x i inside = sym (bit_at_cat_low (x / 2 ^ LETTER_LIMIT) LETTER_LIMIT (x % 2 ^ LETTER_LIMIT) i inside) ∙ ap (λ y. bit_at y i) (div-add-mod' x (2 ^ LETTER_LIMIT))

pub low_bit : (x i : ℕ) → bit_at (x % 2 ^ LETTER_LIMIT) i ≡ 1 → (i < LETTER_LIMIT) × (bit_at x i ≡ 1)
low_bit x i bit = elim (dec_le LETTER_LIMIT i) [
  | yes h ↦ absurd (nought_is_one (bit_at (x % 2 ^ LETTER_LIMIT) i) (bit_at_above (x % 2 ^ LETTER_LIMIT) LETTER_LIMIT i (omega arith) h) bit)
  | no h ↦ let inside = lt_of_not-le h in (inside, sym (low_bits x i inside) ∙ bit)
]
