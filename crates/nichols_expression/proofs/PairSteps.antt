-- A pair of numbers at a place, by what stands there.
use Rattle.std.proofs.Common.{◌≡◌, ◌≤◌, ◌<◌, ◌+◌, ◌-◌, ℕ, nat_eq, nat_le, Bool, true, false, List, ◌∷◌, length, take, drop, get_or, refl, sym, ◌∙◌, ap, arith}
use Rattle.std.specs.Char.{is_ascii_digit}
use Rattle.std.specs.Str.Parse.{digits_value}
use Rattle.std.proofs.lemmas.Bool.Decides.{nat_tests, Decides-eqb}
use Rattle.std.proofs.lemmas.List.{drop_all}
use Rattle.nichols_field.specs.Field.{FieldValue}
use Rattle.nichols_expression.specs.declared.TheConstants.{NUMBER_LIMIT}
use Rattle.nichols_expression.specs.Bytes.{comma, closing, star}
use Rattle.nichols_expression.specs.Reader.{Step, got, fault, map_step, then_step, run_at, past_run, past_spaces, past_mark, mark_at, number_by, number_at, pair_element, second_at, pair_at}
use Rattle.nichols_expression.specs.Steps.{starts_with, starts_with_digit}
use Rattle.nichols_expression.specs.declared.faults.Cause.TheVariants.{Early, Byte, LongNumber}
use Rattle.nichols_expression.proofs.Complete.{number_of_digit}
use Rattle.nichols_expression.proofs.Scanning.{byte_first, byte_at, digit_begun}
use Rattle.nichols_expression.proofs.Seen.{element_at}
use Rattle.nichols_expression.proofs.TermSteps.{run_length}

-- ---- marks

pub mark_found : (mark : ℕ) (text : List ℕ) (at : ℕ) → starts_with mark (drop at text) ≡ true → mark_at mark (drop at text) ≡ got tt (drop (at + 1) text)
mark_found mark text at h = ap (mark_at mark) (byte_at text at mark h).split ∙ ap (λ b. past_mark b mark (drop (at + 1) text)) ((Decides-eqb mark mark).1 refl)

pub mark_missing : (mark : ℕ) (text : List ℕ) (at : ℕ) → length text ≤ at → mark_at mark (drop at text) ≡ fault Early (drop at text)
mark_missing mark text at h = ap (mark_at mark) (drop_all at text h) ∙ ap (λ l. fault Early l) (sym (drop_all at text h))

pub mark_other : (mark : ℕ) (text : List ℕ) (at : ℕ) → at < length text → starts_with mark (drop at text) ≡ false → mark_at mark (drop at text) ≡ fault Byte (drop at text)
mark_other mark text at h none =
    let split = byte_first text at 0 h in
    let other : nat_eq (get_or text at 0) mark ≡ false = ap (starts_with mark) (sym split) ∙ none in
    ap (mark_at mark) split ∙ ap (λ b. past_mark b (get_or text at 0) (drop (at + 1) text)) other ∙ ap (λ l. fault Byte l) (sym split)

-- ---- numbers

pub number_missing : (mark : ℕ) (text : List ℕ) (from : ℕ) → length text ≤ from → number_at mark (drop from text) ≡ fault Early (drop from text)
unfolding number_at
number_missing mark text from h = ap (number_at mark) (drop_all from text h) ∙ ap (λ l. fault Early l) (sym (drop_all from text h))

pub number_none : (mark : ℕ) (text : List ℕ) (from : ℕ) → from < length text → starts_with_digit (drop from text) ≡ false → number_at mark (drop from text) ≡ fault Byte (drop from text)
unfolding number_at
number_none mark text from h none =
    let split = byte_first text from 0 h in
    let byte = get_or text from 0 in
    let rest = drop (from + 1) text in
    let digit : is_ascii_digit byte ≡ false = ap starts_with_digit (sym split) ∙ none in
    ap (number_at mark) split ∙ ap (λ b. number_by mark b (nat_le (length (run_at (byte ∷ rest))) NUMBER_LIMIT) (byte ∷ rest)) digit ∙ ap (λ l. fault Byte l) (sym split)

-- where a run ends, and the spaces behind it
pub record RunFrom (text : List ℕ) (from end behind : ℕ) : Type 0 where
  pub digit : starts_with_digit (drop from text) ≡ true
  pub low : from ≤ end
  pub high : end ≤ length text
  pub taken : take (end - from) (drop from text) ≡ run_at (drop from text)
  pub left : drop end text ≡ past_run (drop from text)
  pub gap : drop behind text ≡ past_spaces (drop end text)

by_length : (mark : ℕ) (text : List ℕ) (from : ℕ) → starts_with_digit (drop from text) ≡ true → (b : Bool) → nat_le (length (run_at (drop from text))) NUMBER_LIMIT ≡ b → number_at mark (drop from text) ≡ number_by mark true b (drop from text)
by_length mark text from digit b short = number_of_digit mark (drop from text) (digit_begun (drop from text) digit) ∙ ap (λ c. number_by mark true c (drop from text)) short

pub number_long : (mark : ℕ) (text : List ℕ) (from end : ℕ) → starts_with_digit (drop from text) ≡ true → from ≤ end → end ≤ length text → take (end - from) (drop from text) ≡ run_at (drop from text) → NUMBER_LIMIT < end - from →
    number_at mark (drop from text) ≡ fault LongNumber (drop from text)
number_long mark text from end digit low high taken long =
    let size = run_length text from end low high taken in
    let test : nat_le (length (run_at (drop from text))) NUMBER_LIMIT ≡ false = grind (arith, nat_tests, size, long) in
    by_length mark text from digit false test

pub number_by_mark : (mark : ℕ) (text : List ℕ) (from end behind : ℕ) → RunFrom text from end behind → end - from ≤ NUMBER_LIMIT →
    number_at mark (drop from text) ≡ map_step (λ _. digits_value 10 (take (end - from) (drop from text))) (mark_at mark (drop behind text))
number_by_mark mark text from end behind run short =
    let size = run_length text from end run.low run.high run.taken in
    let test : nat_le (length (run_at (drop from text))) NUMBER_LIMIT ≡ true = grind (arith, nat_tests, size, short) in
    by_length mark text from run.digit true test
    ∙ ap (λ l. map_step (λ _. digits_value 10 (run_at (drop from text))) (mark_at mark l)) (sym (run.gap ∙ ap past_spaces run.left))
    ∙ ap (λ r. map_step (λ _. digits_value 10 r) (mark_at mark (drop behind text))) (sym run.taken)

-- ---- pairs

pub pair_first : (field : FieldValue) (text : List ℕ) (from first : ℕ) (read : Step ℕ) → drop first text ≡ past_spaces (drop from text) → number_at comma (drop first text) ≡ read → pair_at field (drop from text) ≡ then_step read (second_at field)
unfolding pair_at
pair_first field text from first read gap h = ap (λ l. then_step (number_at comma l) (second_at field)) (sym gap) ∙ ap (λ r. then_step r (second_at field)) h

pub pair_second : (field : FieldValue) (u : ℕ) (text : List ℕ) (from second : ℕ) (read : Step ℕ) → drop second text ≡ past_spaces (drop from text) → number_at closing (drop second text) ≡ read →
    second_at field u (drop from text) ≡ then_step read (element_at field u)
pair_second field u text from second read gap h = ap (λ l. then_step (number_at closing l) (element_at field u)) (sym gap) ∙ ap (λ r. then_step r (element_at field u)) h

pub pair_star : (field : FieldValue) (u v : ℕ) (text : List ℕ) (from behind : ℕ) (read : Step (Unit {0})) → drop behind text ≡ past_spaces (drop from text) → mark_at star (drop behind text) ≡ read →
    element_at field u v (drop from text) ≡ map_step (λ _. pair_element field u v) read
pair_star field u v text from behind read gap h = ap (λ l. map_step (λ _. pair_element field u v) (mark_at star l)) (sym gap) ∙ ap (map_step (λ _. pair_element field u v)) h
