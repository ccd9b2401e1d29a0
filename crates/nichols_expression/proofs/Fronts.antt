-- Texts by their first bytes.
use Rattle.std.proofs.Common.{◌≡◌, ℕ, ◌<◌, ◌≤◌, ◌^◌, Bool, true, false, ◌&&◌, ◌||◌, cond, List, [], ◌∷◌, ◌++◌, decimal, refl, sym, ◌∙◌, ap, subst, nat_eq, nat_le, bytes_eq, arith, append_assoc}
use Rattle.std.proofs.lemmas.Bool.{and_from}
use Rattle.std.specs.Char.{digit_value}
use Rattle.std.proofs.lemmas.Str.Parse.{digit_from_value}
use Rattle.std.specs.Str.Parse.{IsNumeral, AllDigits, digits_value}
use Rattle.std.proofs.lemmas.Bool.Decides.{nat_tests, Decides-eqb}
use Rattle.std.proofs.lemmas.Slice.Eq.{bytes_eq-Decides}
use Rattle.std.proofs.lemmas.Fmt.{decimal_is_IsNumeral}
use Rattle.nichols_field.specs.Field.{FieldValue, is_extended}
use Rattle.nichols_tensor.specs.declared.TheConstants.{LETTER_LIMIT}
use Rattle.nichols_expression.specs.Bytes.{space, opening, dot, empty_byte}
use Rattle.nichols_expression.specs.Grammar.{IsSpaces, no_spaces, one_more, IsLetterText, letter, IsLetters, last_letter, next_letter}
use Rattle.std.specs.Char.{is_ascii_digit}
use Rattle.nichols_expression.specs.Reader.{run_at, past_run, past_spaces, is_letter_run, opens_pair}

-- the first byte passes the test
abbrev pub Begins : (ℕ → Bool) → List ℕ → Type 0
Begins test [] = ⊥
Begins test (byte ∷ rest) = test byte ≡ true

-- no first byte passes it
abbrev pub Avoids : (ℕ → Bool) → List ℕ → Type 0
Avoids test [] = Unit {0}
Avoids test (byte ∷ rest) = test byte ≡ false

-- whether a term may begin with the byte
abbrev pub begins_term : ℕ → Bool
begins_term byte = is_ascii_digit byte || nat_eq byte empty_byte || nat_eq byte opening

pub differs : (test : ℕ → Bool) (a b : ℕ) → test a ≡ true → test b ≡ false → nat_eq a b ≡ false
differs test a b h k = at (nat_eq a b) refl
  where
    at : (c : Bool) → nat_eq a b ≡ c → c ≡ false
    at false e = refl
    at true e = let c : true ≡ false = sym h ∙ ap test ((Decides-eqb a b).0 e) ∙ k in absurd cc

pub digit_begins : (byte : ℕ) → is_ascii_digit byte ≡ true → begins_term byte ≡ true
digit_begins byte h = ap (λ b. b || nat_eq byte empty_byte || nat_eq byte opening) h

pub digit_opens_none : (field : FieldValue) (byte : ℕ) → is_ascii_digit byte ≡ true → opens_pair field byte ≡ false
digit_opens_none field byte h = ap (λ b. b && is_extended field) (differs is_ascii_digit byte opening h refl)

pub begins_weaker : (test other : ℕ → Bool) → ((b : ℕ) → test b ≡ true → other b ≡ true) → (text : List ℕ) → Begins test text → Begins other text
begins_weaker test other h [] p = p
begins_weaker test other h (byte ∷ rest) p = h byte p

pub begins_avoids : (test : ℕ → Bool) (c : ℕ) → test c ≡ false → (text : List ℕ) → Begins test text → Avoids (λ b. nat_eq b c) text
begins_avoids test c h [] p = absurd p
begins_avoids test c h (byte ∷ rest) p = differs test byte c p h

-- ---- spaces

pub spaces_avoid : (test : ℕ → Bool) → test space ≡ false → (front : List ℕ) → IsSpaces front → (rest : List ℕ) → Avoids test rest → Avoids test (front ++ rest)
spaces_avoid test e _ no_spaces rest h = h
spaces_avoid test e _ (one_more p) rest h = e

pub spaces_skipped : (front : List ℕ) → IsSpaces front → (rest : List ℕ) → past_spaces (front ++ rest) ≡ past_spaces rest
unfolding past_spaces
spaces_skipped _ no_spaces rest = refl
spaces_skipped _ (one_more p) rest = spaces_skipped _ p rest

pub past_no_spaces : (text : List ℕ) → Avoids (λ b. nat_eq b space) text → past_spaces text ≡ text
unfolding past_spaces
past_no_spaces [] h = refl
past_no_spaces (byte ∷ rest) h = ap (λ b. cond b (past_spaces rest) (byte ∷ rest)) h

pub past_gap : (front : List ℕ) → IsSpaces front → (rest : List ℕ) → Avoids (λ b. nat_eq b space) rest → past_spaces (front ++ rest) ≡ rest
past_gap front p rest h = spaces_skipped front p rest ∙ past_no_spaces rest h

pub all_spaces : (text : List ℕ) → IsSpaces text → past_spaces text ≡ []
unfolding past_spaces
all_spaces _ no_spaces = refl
all_spaces _ (one_more p) = all_spaces _ p

-- ---- runs

pub test_by_digit : (byte : ℕ) → digit_value byte < 10 → is_ascii_digit byte ≡ true
test_by_digit byte h =
    let range = digit_from_value byte h in
    grind (arith, nat_tests, range.0, range.1)

pub run_is : (ds rest : List ℕ) → AllDigits 10 ds → Avoids is_ascii_digit rest → run_at (ds ++ rest) ≡ ds
unfolding run_at
run_is [] [] h k = refl
run_is [] (byte ∷ rest) h k = ap (λ b. cond b (byte ∷ run_at rest) []) k
run_is (d ∷ ds) rest h k = ap (λ b. cond b (d ∷ run_at (ds ++ rest)) []) (test_by_digit d h.0) ∙ ap (λ l. d ∷ l) (run_is ds rest h.1 k)

pub past_run_is : (ds rest : List ℕ) → AllDigits 10 ds → Avoids is_ascii_digit rest → past_run (ds ++ rest) ≡ rest
unfolding past_run
past_run_is [] [] h k = refl
past_run_is [] (byte ∷ rest) h k = ap (λ b. cond b (past_run rest) (byte ∷ rest)) k
past_run_is (d ∷ ds) rest h k = ap (λ b. cond b (past_run (ds ++ rest)) (d ∷ (ds ++ rest))) (test_by_digit d h.0) ∙ past_run_is ds rest h.1 k

pub numeral_begins : (ds rest : List ℕ) → IsNumeral 10 ds → Begins is_ascii_digit (ds ++ rest)
numeral_begins [] rest h = absurd (omega (arith, h.0))
numeral_begins (d ∷ ds) rest h = test_by_digit d h.1.0

-- ---- letters

pub record IsLetterRun (n : ℕ) (run : List ℕ) (a : ℕ) : Type 0 where
  pub numeral : IsNumeral 10 run
  pub value : digits_value 10 run ≡ a
  pub test : is_letter_run n run ≡ true

-- what writes a number from 1 to n, as a number is printed, is a letter
pub letter_test : (n : ℕ) (run : List ℕ) → 1 ≤ digits_value 10 run → digits_value 10 run ≤ n → run ≡ decimal (digits_value 10 run) → is_letter_run n run ≡ true
letter_test n run low high same =
    let least : nat_le 1 (digits_value 10 run) ≡ true = grind (arith, nat_tests, low) in
    let most : nat_le (digits_value 10 run) n ≡ true = grind (arith, nat_tests, high) in
    and_from (nat_le 1 (digits_value 10 run) && nat_le (digits_value 10 run) n) (bytes_eq run (decimal (digits_value 10 run)))
    (and_from (nat_le 1 (digits_value 10 run)) (nat_le (digits_value 10 run) n) least most) ((bytes_eq-Decides run (decimal (digits_value 10 run))).1 same)

pub letter_run : (n : ℕ) → n ≤ LETTER_LIMIT → (run : List ℕ) (a : ℕ) → IsLetterText n run a → IsLetterRun n run a
letter_run n small _ a (letter h) =
    let small_letter : a < 2 ^ 64 = omega (arith, small, h.1) in
    let d = decimal_is_IsNumeral a small_letter in
    record { numeral = d.0; value = d.1; test = letter_test n (decimal a) (omega (arith, d.1, h.0)) (omega (arith, d.1, h.1)) (ap decimal (sym d.1)) }

pub letters_begin : (n : ℕ) → n ≤ LETTER_LIMIT → (text w : List ℕ) → IsLetters n text w → (rest : List ℕ) → Begins is_ascii_digit (text ++ rest)
letters_begin n small _ _ (last_letter {text} {a} l) rest = numeral_begins text rest (letter_run n small text a l).numeral
letters_begin n small _ _ (next_letter {text} {rest = more} {w} {a} l p) rest =
    subst (Begins is_ascii_digit) (sym (append_assoc text (dot ∷ more) rest)) (numeral_begins text (dot ∷ more ++ rest) (letter_run n small text a l).numeral)
