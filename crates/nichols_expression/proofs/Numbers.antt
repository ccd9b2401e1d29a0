-- What runs of digits write, as numbers and as letters.
use Rattle.std.proofs.Common.{◌≡◌, ◌≢◌, ℕ, zero, suc, ◌+◌, ◌-◌, ◌*◌, ◌<◌, ◌≤◌, ◌^◌, Bool, true, false, List, [], ◌∷◌, length, take, get_or, decimal, refl, sym, ◌∙◌, ap, arith}
use Rattle.std.specs.Char.{digit_value}
use Rattle.std.specs.Str.Parse.{AllDigits, digits_value}
use Rattle.std.proofs.lemmas.Str.{digit_value_digit}
use Rattle.std.proofs.lemmas.Str.Parse.{digit_from_value, digits_value-take-le, digits_value_short, IsNumeralModel}
use Rattle.std.proofs.lemmas.Int.Digits.{digits_value_more}
use Rattle.std.proofs.lemmas.Fmt.{decimal-digits_value, length-decimal-le, first_decimal}
use Rattle.nichols_tensor.specs.declared.TheConstants.{LETTER_LIMIT}
use Rattle.nichols_expression.specs.declared.TheConstants.{NUMBER_LIMIT}
use Rattle.nichols_expression.specs.Reader.{is_letter_run}
use Rattle.nichols_expression.proofs.Sound.{letter_facts}
use Rattle.nichols_expression.proofs.Fronts.{letter_test}

digit_at : (ds : List ℕ) (i : ℕ) → AllDigits 10 ds → i < length ds → digit_value (get_or ds i 0) < 10
digit_at [] i h k = absurd (omega (arith, k))
digit_at (d ∷ ds) zero h k = h.0
digit_at (d ∷ ds) (suc i) h k = digit_at ds i h.1 (omega (arith, k))

-- ---- numbers

-- the digit at an index, and the number with it
pub record NumberStep (ds : List ℕ) (i : ℕ) : Type 0 where
  pub digit : 48 ≤ get_or ds i 0
  pub value : digits_value 10 (take i ds) * 10 + (get_or ds i 0 - 48) ≡ digits_value 10 (take (i + 1) ds)
  pub fits : digits_value 10 (take (i + 1) ds) < 10 ^ NUMBER_LIMIT

small_number : (ds : List ℕ) → AllDigits 10 ds → (k : ℕ) → length ds ≤ k → digits_value 10 ds < 10 ^ k
small_number ds h k short = digits_value_short own ds k h short
  where
    own : IsNumeralModel (AllDigits 10) (digits_value 10)
    own = record { to = λ ds h. h; from = λ ds h. h; same = λ ds h. refl }

pub number_step : (ds : List ℕ) (i : ℕ) → AllDigits 10 ds → length ds ≤ NUMBER_LIMIT → i < length ds → NumberStep ds i
number_step ds i h short k =
    let range = digit_from_value (get_or ds i 0) (digit_at ds i h k) in
    let worth = digit_value_digit (get_or ds i 0) range in
    let low : 48 ≤ get_or ds i 0 = range.0 in
    let same : get_or ds i 0 - 48 ≡ digit_value (get_or ds i 0) = omega (arith, worth, low) in
    record {
      digit = low;
      value = ap (λ d. digits_value 10 (take i ds) * 10 + d) same ∙ sym (digits_value_more 10 ds i k);
      fits = omega (arith, digits_value-take-le 10 ds (i + 1) (omega arith), small_number ds h NUMBER_LIMIT short);
    }

-- ---- letters

refuted : (n : ℕ) (run : List ℕ) → (is_letter_run n run ≡ true → ⊥) → is_letter_run n run ≡ false
refuted n run denied = at (is_letter_run n run) refl
  where
    at : (b : Bool) → is_letter_run n run ≡ b → b ≡ false
    at false e = refl
    at true e = absurd (denied e)

pub no_letter_long : (n : ℕ) (run : List ℕ) → n ≤ LETTER_LIMIT → NUMBER_LIMIT < length run → is_letter_run n run ≡ false
no_letter_long n run small long = refuted n run (λ e.
    let facts = letter_facts n run e in
    let few : digits_value 10 run < 10 ^ NUMBER_LIMIT = omega (arith, facts.high, small) in
    let fits : digits_value 10 run < 2 ^ 64 = omega (arith, facts.high, small) in
    let short : length (decimal (digits_value 10 run)) ≤ NUMBER_LIMIT = length-decimal-le NUMBER_LIMIT (digits_value 10 run) (omega arith) few fits in
    absurd (omega (arith, long, short, ap length facts.same)))

pub no_letter_zero : (n : ℕ) (run : List ℕ) → n ≤ LETTER_LIMIT → get_or run 0 0 ≡ 48 → is_letter_run n run ≡ false
no_letter_zero n run small first = refuted n run (λ e.
    let facts = letter_facts n run e in
    let fits : digits_value 10 run < 2 ^ 64 = omega (arith, facts.high, small) in
    absurd (omega (arith, first, first_decimal (digits_value 10 run) facts.low fits, ap (λ l. get_or l 0 0) facts.same)))

pub no_letter_empty : (n : ℕ) (run : List ℕ) → run ≡ [] → is_letter_run n run ≡ false
no_letter_empty n run e = ap (is_letter_run n) e

pub no_letter_great : (n : ℕ) (run : List ℕ) → n < digits_value 10 run → is_letter_run n run ≡ false
no_letter_great n run great = refuted n run (λ e. absurd (omega (arith, (letter_facts n run e).high, great)))

-- a run without a leading zero isn't 0
positive_run : (run : List ℕ) → AllDigits 10 run → 0 < length run → get_or run 0 0 ≢ 48 → 1 ≤ digits_value 10 run
positive_run [] h some first = absurd (omega (arith, some))
positive_run (d ∷ run) h some first =
    let range = digit_from_value d h.0 in
    let worth = digit_value_digit d range in
    let here : 1 ≤ digits_value 10 (d ∷ []) = omega (arith, worth, range.0, first) in
    let front : digits_value 10 (d ∷ []) ≤ digits_value 10 (d ∷ run) = digits_value-take-le 10 (d ∷ run) 1 (omega arith) in
    omega (arith, here, front)

pub letter_found : (n : ℕ) (run : List ℕ) → AllDigits 10 run → 0 < length run → length run ≤ NUMBER_LIMIT → get_or run 0 0 ≢ 48 → digits_value 10 run ≤ n → is_letter_run n run ≡ true
letter_found n run h some short first high =
    let fits : digits_value 10 run < 2 ^ 64 = omega (arith, small_number run h NUMBER_LIMIT short) in
    let same : decimal (digits_value 10 run) ≡ run = decimal-digits_value own run h some (λ e. absurd (first e)) fits in
    letter_test n run (positive_run run h some first) high (sym same)
  where
    own : IsNumeralModel (AllDigits 10) (digits_value 10)
    own = record { to = λ ds h. h; from = λ ds h. h; same = λ ds h. refl }
