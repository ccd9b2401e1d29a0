-- Numbers in decimal digits.
use Rattle.std.proofs.Common.{◌≡◌, ℕ, zero, suc, ◌+◌, ◌-◌, ◌*◌, ◌<◌, ◌≤◌, ◌^◌, true, List, [], ◌∷◌, length, take, get_or, refl, ◌∙◌, ap, arith}
use Rattle.std.specs.List.{list_all}
use Rattle.std.specs.Char.{is_ascii_digit}
use Rattle.std.proofs.Math.Nat.{pow-le-pow_right, pow-suc}
use Rattle.std.proofs.lemmas.Bool.Decides.{nat_tests}
use Rattle.std.proofs.lemmas.List.Sums.{fold_more}
use Rattle.nichols_command.specs.Numbers.{digits_value}
use Rattle.std.proofs.lemmas.Bool.{and_parts}
use Rattle.nichols_command.specs.declared.limits.TheConstants.{DIGITS_MOST}

one_digit : (c : ℕ) → is_ascii_digit c ≡ true → (48 ≤ c) × (c ≤ 57)
one_digit c h = (grind (arith, nat_tests), grind (arith, nat_tests))

pub digit_at : (text : List ℕ) (i : ℕ) → i < length text → list_all is_ascii_digit text ≡ true → (48 ≤ get_or text i 0) × (get_or text i 0 ≤ 57)
digit_at [] i h all = absurd (omega arith)
digit_at (c ∷ text) zero h all = one_digit c (and_parts (is_ascii_digit c) (list_all is_ascii_digit text) all).0
digit_at (c ∷ text) (suc i) h all = digit_at text i (omega arith) (and_parts (is_ascii_digit c) (list_all is_ascii_digit text) all).1

ten_next : (i : ℕ) → 10 ^ (i + 1) ≡ 10 ^ i * 10
ten_next i = let e : i + 1 ≡ suc i = omega arith in ap (λ k. 10 ^ k) e ∙ pow-suc 10 i

pub ten_more : (i n d : ℕ) → n < 10 ^ i → d ≤ 9 → n * 10 + d < 10 ^ (i + 1)
ten_more i n d h k = let e : 10 ^ (i + 1) ≡ 10 ^ i * 10 = ten_next i in omega arith

pub ten_fits : (i n : ℕ) → n < 10 ^ i → i < DIGITS_MOST → n < 10 ^ (DIGITS_MOST - 1)
ten_fits i n h k = let p : 10 ^ i ≤ 10 ^ (DIGITS_MOST - 1) = pow-le-pow_right (omega arith) (let e : i ≤ DIGITS_MOST - 1 = omega (arith, k) in e) in omega arith

pub value_more : (text : List ℕ) (i : ℕ) → i < length text → digits_value (take (i + 1) text) ≡ digits_value (take i text) * 10 + (get_or text i 0 - 48)
unfolding digits_value
value_more text i h = fold_more (λ n c. n * 10 + (c - 48)) 0 text i 0 h

pub value_none : digits_value [] ≡ 0
unfolding digits_value
value_none = refl
