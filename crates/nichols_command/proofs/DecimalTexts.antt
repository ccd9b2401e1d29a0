-- The numbers of a command line as decimal texts.
use Rattle.std.proofs.Common.{◌≡◌, ℕ, zero, suc, ◌+◌, ◌-◌, ◌*◌, ◌/◌, ◌%◌, ◌<◌, ◌≤◌, ◌^◌, Bool, true, false, cond, ◌&&◌, List, [], ◌∷◌, ◌++◌, length, replicate, decimal, refl, sym, ◌∙◌, ap, arith, nat_eq, nat_le, Option, Some, None, inl, inr}
use Rattle.std.specs.Prelude.{option_and_then, fold}
use Rattle.std.specs.Fmt.{digits, digits_onto, digit_glyph}
use Rattle.std.specs.List.{list_all}
use Rattle.std.specs.Char.{is_ascii_digit}
use Rattle.std.proofs.Math.Nat.{pow-le-pow_right, pow-suc}
use Rattle.std.proofs.lemmas.Bool.{and_parts, and_from, cases_lt}
use Rattle.std.proofs.lemmas.Bool.Decides.{nat_tests}
use Rattle.std.proofs.lemmas.Fmt.{decimal_is_IsNumeral_wide, decimal-digits_value}
use Rattle.std.proofs.lemmas.List.{length-append}
use Rattle.std.proofs.lemmas.Str.Parse.{IsNumeralModel, numerals_by_fold, digits_value_short}
use Rattle.nichols_command.specs.declared.limits.TheConstants.{DIGITS_MOST}
use Rattle.nichols_command.specs.Numbers.{digits_value, is_short_number, short_number, in_range}
use Rattle.nichols_command.specs.DecimalForm.{Writes, NumbersAreDecimal, OptionsAreDecimal}

-- ---- digits, in std's words

own : IsNumeralModel (λ ds. list_all is_ascii_digit ds ≡ true) digits_value
unfolding digits_value
own =
    numerals_by_fold (λ ds. list_all is_ascii_digit ds ≡ true)
    (record {
      empty = refl;
      parts = λ c cs e. let p = and_parts (is_ascii_digit c) (list_all is_ascii_digit cs) e in let d = p.0 in ((grind (arith, nat_tests), grind (arith, nat_tests)), p.1);
      more = λ c cs k e. and_from (is_ascii_digit c) (list_all is_ascii_digit cs) (grind (arith, nat_tests)) e;
    })
    (λ n ds. fold (λ m c. m * 10 + (c - 48)) n ds)
    (record { empty = λ n. refl; more = λ n c cs k. refl })

small : (ds : List ℕ) → list_all is_ascii_digit ds ≡ true → length ds ≤ DIGITS_MOST → digits_value ds < 10 ^ DIGITS_MOST
small ds all few = digits_value_short own ds DIGITS_MOST all few

-- ---- zeros in front

zero_in_front : (ds : List ℕ) → digits_value (48 ∷ ds) ≡ digits_value ds
unfolding digits_value
zero_in_front ds = refl

zeros_in_front : (k : ℕ) (ds : List ℕ) → digits_value (replicate k 48 ++ ds) ≡ digits_value ds
zeros_in_front zero ds = refl
zeros_in_front (suc k) ds = zero_in_front (replicate k 48 ++ ds) ∙ zeros_in_front k ds

digits_behind : (k : ℕ) (ds : List ℕ) → list_all is_ascii_digit (replicate k 48 ++ ds) ≡ list_all is_ascii_digit ds
digits_behind zero ds = refl
digits_behind (suc k) ds = digits_behind k ds

-- digits are zeros and then a decimal text
abbrev HasZeros : List ℕ → Type 0
HasZeros ds = (k : ℕ) × (ds ≡ replicate k 48 ++ decimal (digits_value ds))

no_zeros : (c : ℕ) (ds : List ℕ) → list_all is_ascii_digit (c ∷ ds) ≡ true → length (c ∷ ds) ≤ DIGITS_MOST → (c ≡ 48 → length (c ∷ ds) ≡ 1) → HasZeros (c ∷ ds)
no_zeros c ds all few lead =
    let fits : digits_value (c ∷ ds) < 2 ^ 64 = omega (arith, small (c ∷ ds) all few) in
    (0, sym (decimal-digits_value own (c ∷ ds) all (omega arith) lead fits))

zeros_first : (c : ℕ) (ds : List ℕ) → list_all is_ascii_digit (c ∷ ds) ≡ true → length (c ∷ ds) ≤ DIGITS_MOST → HasZeros (c ∷ ds)
zeros_first c [] all few = no_zeros c [] all few (λ e. refl)
zeros_first c (d ∷ ds) all few = at (nat_eq c 48) refl (zeros_first d ds (and_parts (is_ascii_digit c) (list_all is_ascii_digit (d ∷ ds)) all).1 (omega arith))
  where
    at : (b : Bool) → nat_eq c 48 ≡ b → HasZeros (d ∷ ds) → HasZeros (c ∷ d ∷ ds)
    at true e rest =
        let first : c ≡ 48 = grind (arith, nat_tests) in
        (suc rest.0, ap (λ x. x ∷ d ∷ ds) first ∙ ap (λ xs. 48 ∷ xs) rest.1 ∙ ap (λ n. 48 ∷ (replicate rest.0 48 ++ decimal n)) (sym (zero_in_front (d ∷ ds)) ∙ ap (λ x. digits_value (x ∷ d ∷ ds)) (sym first)))
    at false e rest = no_zeros c (d ∷ ds) all few (λ same. let t : nat_eq c 48 ≡ true = grind (arith, nat_tests) in let c : true ≡ false = sym t ∙ e in cc)

-- ---- a number with a short text is small

-- one that is too great for k digits fills k
filled : (k n : ℕ) (more : List ℕ) → 10 ^ k ≤ n → length (digits_onto k 10 false n more) ≡ k + length more
filled zero n more great = omega arith
filled (suc k) n more great =
    let power : 10 ^ suc k ≡ 10 ^ k * 10 = pow-suc 10 k in
    let rest : 10 ^ k ≤ n / 10 = omega arith in
    let least : 0 ≤ k = omega arith in
    let some : 10 ^ 0 ≤ 10 ^ k = pow-le-pow_right (omega arith) least in
    let t : nat_eq (n / 10) 0 ≡ false = grind (arith, nat_tests) in
    ap (λ b. length (cond b (digit_glyph false (n % 10) ∷ more) (digits_onto k 10 false (n / 10) (digit_glyph false (n % 10) ∷ more)))) t
    ∙ filled k (n / 10) (digit_glyph false (n % 10) ∷ more) rest ∙ omega arith

great_is_long : (n : ℕ) → 10 ^ 64 ≤ n → length (decimal n) ≡ 64
unfolding digits
great_is_long n great = filled 64 n [] great

short_is_small : (n : ℕ) → length (decimal n) ≤ DIGITS_MOST → n < 10 ^ 64
short_is_small n few =
    elim (cases_lt n (10 ^ 64)) [
      | inl less ↦ less
      | inr great ↦ absurd (omega (arith, few, great_is_long n great))
    ]

-- ---- the laws

writes : (text : List ℕ) (n : ℕ) → short_number text ≡ Some n → Writes n text
writes [] n e = let none : None ≡ Some n = e in cc
writes (c ∷ ds) n e = at (is_short_number (c ∷ ds)) refl e
  where
    at : (b : Bool) → is_short_number (c ∷ ds) ≡ b → cond b (Some (digits_value (c ∷ ds))) None ≡ Some n → Writes n (c ∷ ds)
    at true short found =
        let parts = and_parts (nat_le 1 (length (c ∷ ds)) && nat_le (length (c ∷ ds)) DIGITS_MOST) (list_all is_ascii_digit (c ∷ ds)) short in
        let within : nat_le (length (c ∷ ds)) DIGITS_MOST ≡ true = (and_parts (nat_le 1 (length (c ∷ ds))) (nat_le (length (c ∷ ds)) DIGITS_MOST) parts.0).1 in
        let few : length (c ∷ ds) ≤ DIGITS_MOST = grind (arith, nat_tests) in
        let front = zeros_first c ds parts.1 few in
        let same : digits_value (c ∷ ds) ≡ n = cc in
        record { zeros = front.0; written = front.1 ∙ ap (λ m. replicate front.0 48 ++ decimal m) same; few = few }
    at false long found = let none : None ≡ Some n = found in cc

is_short : (text : List ℕ) → 1 ≤ length text → length text ≤ DIGITS_MOST → list_all is_ascii_digit text ≡ true → is_short_number text ≡ true
is_short text least most all =
    and_from (nat_le 1 (length text) && nat_le (length text) DIGITS_MOST) (list_all is_ascii_digit text)
    (and_from (nat_le 1 (length text)) (nat_le (length text) DIGITS_MOST) (grind (arith, nat_tests)) (grind (arith, nat_tests))) all

written : (text : List ℕ) (n : ℕ) → Writes n text → short_number text ≡ Some n
written text n w =
    let size : length text ≡ length (replicate w.zeros 48) + length (decimal n) = ap length w.written ∙ length-append (replicate w.zeros 48) (decimal n) in
    let numeral = decimal_is_IsNumeral_wide n (short_is_small n (omega (arith, size, w.few))) in
    let value : digits_value text ≡ n = ap digits_value w.written ∙ zeros_in_front w.zeros (decimal n) ∙ own.same (decimal n) numeral.0.1 ∙ numeral.1 in
    let all : list_all is_ascii_digit text ≡ true = ap (list_all is_ascii_digit) w.written ∙ digits_behind w.zeros (decimal n) ∙ own.from (decimal n) numeral.0.1 in
    let least : 1 ≤ length text = omega (arith, size, numeral.0.0) in
    ap (λ b. cond b (Some (digits_value text)) None) (is_short text least w.few all) ∙ ap Some value

pub numbers_are_decimal : NumbersAreDecimal
numbers_are_decimal text n = (writes text n, written text n)

ranged : (least most m n : ℕ) → in_range least most m ≡ Some n → (m ≡ n) × (least ≤ n) × (n ≤ most)
ranged least most m n e = at (nat_le least m && nat_le m most) refl e
  where
    at : (b : Bool) → (nat_le least m && nat_le m most) ≡ b → cond b (Some m) None ≡ Some n → (m ≡ n) × (least ≤ n) × (n ≤ most)
    at true within found =
        let parts = and_parts (nat_le least m) (nat_le m most) within in
        let low : nat_le least m ≡ true = parts.0 in
        let high : nat_le m most ≡ true = parts.1 in
        let same : m ≡ n = cc in
        (same, (let t : least ≤ m = grind (arith, nat_tests) in omega (arith, t, same)), (let t : m ≤ most = grind (arith, nat_tests) in omega (arith, t, same)))
    at false beyond found = let none : None ≡ Some n = found in cc

in_its_range : (least most n : ℕ) → least ≤ n → n ≤ most → in_range least most n ≡ Some n
in_its_range least most n low high =
    ap (λ b. cond b (Some n) None) (and_from (nat_le least n) (nat_le n most) (grind (arith, nat_tests)) (grind (arith, nat_tests)))

pub options_are_decimal : OptionsAreDecimal
options_are_decimal least most default text n = (at (short_number text) refl, λ h. ap (option_and_then (in_range least most)) (written text n h.0) ∙ in_its_range least most n h.1 h.2)
  where
    at : (o : Option ℕ) → short_number text ≡ o → option_and_then (in_range least most) o ≡ Some n → Writes n text × (least ≤ n) × (n ≤ most)
    at None e found = let none : None ≡ Some n = found in cc
    at (Some m) e found = let r = ranged least most m n found in (writes text n (e ∙ ap Some r.0), r.1, r.2)
