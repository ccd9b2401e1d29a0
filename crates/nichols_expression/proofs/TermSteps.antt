-- A term at a place, by what stands there.
use Rattle.std.proofs.Common.{◌≡◌, ◌≤◌, ◌<◌, ◌+◌, ◌-◌, ℕ, pos, nat_le, Bool, true, false, List, ◌∷◌, length, take, drop, get_or, sym, ◌∙◌, ap, arith}
use Rattle.std.specs.Char.{is_ascii_digit}
use Rattle.std.specs.Str.Parse.{digits_value}
use Rattle.std.proofs.lemmas.Bool.Decides.{nat_tests}
use Rattle.std.proofs.lemmas.List.{length-take, length-drop}
use Rattle.nichols_field.specs.Field.{FieldValue, residue}
use Rattle.nichols_expression.specs.declared.TheConstants.{NUMBER_LIMIT}
use Rattle.nichols_expression.specs.Bytes.{star}
use Rattle.nichols_expression.specs.Reader.{Step, got, fault, map_step, then_step, pair_at, word_after, opens_pair, term_opened, run_at, past_run, past_spaces, word_at, with_coefficient, term_after_number, past_first_run, term_by, term_at}
use Rattle.nichols_tensor.specs.Combination.{Term}
use Rattle.nichols_expression.specs.Steps.{starts_with, starts_with_digit}
use Rattle.nichols_expression.specs.declared.faults.Cause.{Cause}
use Rattle.nichols_expression.specs.declared.faults.Cause.TheVariants.{LongNumber}
use Rattle.nichols_expression.proofs.Complete.{no_star_bare}
use Rattle.nichols_expression.proofs.Scanning.{byte_first, byte_at, byte_avoided}

-- the term at a place
abbrev pub term_from : FieldValue → ℕ → List ℕ → ℕ → Step Term
term_from field n text from = term_at field n (get_or text from 0) (drop (from + 1) text)

-- no pair begins at the place
abbrev pub NoPairAt : FieldValue → List ℕ → ℕ → Type 0
NoPairAt field text from = opens_pair field (get_or text from 0) ≡ false

by_test : (field : FieldValue) (n : ℕ) (text : List ℕ) (from : ℕ) → from < length text → NoPairAt field text from → (b : Bool) → starts_with_digit (drop from text) ≡ b → term_from field n text from ≡ term_by field n b (drop from text)
unfolding term_at
by_test field n text from h no_pair b e =
    let split = byte_first text from 0 h in
    let test : is_ascii_digit (get_or text from 0) ≡ b = ap starts_with_digit (sym split) ∙ e in
    ap (λ c. term_opened field n c (get_or text from 0) (drop (from + 1) text)) no_pair
    ∙ ap (λ c. term_by field n c (get_or text from 0 ∷ drop (from + 1) text)) test
    ∙ ap (term_by field n b) (sym split)

-- a pair begins at the place, and is read up to another
pub term_of_pair : (field : FieldValue) (n : ℕ) (text : List ℕ) (from end next c : ℕ) → opens_pair field (get_or text from 0) ≡ true → pair_at field (drop (from + 1) text) ≡ got c (drop end text) → drop next text ≡ past_spaces (drop end text) →
    term_from field n text from ≡ map_step (with_coefficient c) (word_at n (drop next text))
unfolding term_at
term_of_pair field n text from end next c opened read gap =
    ap (λ b. term_opened field n b (get_or text from 0) (drop (from + 1) text)) opened
    ∙ ap (λ r. then_step r (word_after n)) read
    ∙ ap (λ l. map_step (with_coefficient c) (word_at n l)) (sym gap)

pub term_without_pair_end : (field : FieldValue) (n : ℕ) (text : List ℕ) (from : ℕ) (cause : Cause) (left : List ℕ) → opens_pair field (get_or text from 0) ≡ true → pair_at field (drop (from + 1) text) ≡ fault cause left →
    term_from field n text from ≡ fault cause left
unfolding term_at
term_without_pair_end field n text from cause left opened read =
    ap (λ b. term_opened field n b (get_or text from 0) (drop (from + 1) text)) opened
    ∙ ap (λ r. then_step r (word_after n)) read

pub term_without_digit : (field : FieldValue) (n : ℕ) (text : List ℕ) (from : ℕ) → from < length text → NoPairAt field text from → starts_with_digit (drop from text) ≡ false →
    term_from field n text from ≡ map_step (with_coefficient 1) (word_at n (drop from text))
term_without_digit field n text from h no_pair e = by_test field n text from h no_pair false e

pub term_without_star : (field : FieldValue) (n : ℕ) (text : List ℕ) (from end behind : ℕ) → from < length text → NoPairAt field text from → starts_with_digit (drop from text) ≡ true →
    drop end text ≡ past_run (drop from text) → drop behind text ≡ past_spaces (drop end text) → starts_with star (drop behind text) ≡ false →
    term_from field n text from ≡ map_step (with_coefficient 1) (word_at n (drop from text))
term_without_star field n text from end behind h no_pair e run gap no_star =
    by_test field n text from h no_pair true e
    ∙ ap (past_first_run field n (drop from text)) (sym (gap ∙ ap past_spaces run))
    ∙ no_star_bare field n (drop from text) (drop behind text) (byte_avoided star (drop behind text) no_star)

with_star : (field : FieldValue) (n : ℕ) (text : List ℕ) (from end behind : ℕ) → from < length text → NoPairAt field text from → starts_with_digit (drop from text) ≡ true →
    drop end text ≡ past_run (drop from text) → drop behind text ≡ past_spaces (drop end text) → starts_with star (drop behind text) ≡ true →
    (b : Bool) → nat_le (length (run_at (drop from text))) NUMBER_LIMIT ≡ b → term_from field n text from ≡ term_after_number field n b (drop from text) (drop (behind + 1) text)
with_star field n text from end behind h no_pair e run gap is_star b short =
    by_test field n text from h no_pair true e
    ∙ ap (past_first_run field n (drop from text)) (sym (gap ∙ ap past_spaces run) ∙ (byte_at text behind star is_star).split)
    ∙ ap (λ c. term_after_number field n c (drop from text) (drop (behind + 1) text)) short

pub run_length : (text : List ℕ) (from end : ℕ) → from ≤ end → end ≤ length text → take (end - from) (drop from text) ≡ run_at (drop from text) → length (run_at (drop from text)) ≡ end - from
run_length text from end low high run = ap length (sym run) ∙ length-take (end - from) (drop from text) ∙ omega (arith, length-drop from text, low, high)

pub term_of_long_number : (field : FieldValue) (n : ℕ) (text : List ℕ) (from end behind : ℕ) → from < length text → NoPairAt field text from → starts_with_digit (drop from text) ≡ true →
    drop end text ≡ past_run (drop from text) → drop behind text ≡ past_spaces (drop end text) → starts_with star (drop behind text) ≡ true →
    from ≤ end → end ≤ length text → take (end - from) (drop from text) ≡ run_at (drop from text) → NUMBER_LIMIT < end - from → term_from field n text from ≡ fault LongNumber (drop from text)
term_of_long_number field n text from end behind h no_pair e run gap is_star low high taken long =
    let size = run_length text from end low high taken in
    let test : nat_le (length (run_at (drop from text))) NUMBER_LIMIT ≡ false = grind (arith, nat_tests, size, long) in
    with_star field n text from end behind h no_pair e run gap is_star false test

pub term_of_number : (field : FieldValue) (n : ℕ) (text : List ℕ) (from end behind next c : ℕ) → from < length text → NoPairAt field text from → starts_with_digit (drop from text) ≡ true →
    drop end text ≡ past_run (drop from text) → drop behind text ≡ past_spaces (drop end text) → starts_with star (drop behind text) ≡ true →
    from ≤ end → end ≤ length text → take (end - from) (drop from text) ≡ run_at (drop from text) → end - from ≤ NUMBER_LIMIT →
    c ≡ residue field (pos (digits_value 10 (take (end - from) (drop from text)))) → drop next text ≡ past_spaces (drop (behind + 1) text) →
    term_from field n text from ≡ map_step (with_coefficient c) (word_at n (drop next text))
term_of_number field n text from end behind next c h no_pair e run gap is_star low high taken short value after =
    let size = run_length text from end low high taken in
    let test : nat_le (length (run_at (drop from text))) NUMBER_LIMIT ≡ true = grind (arith, nat_tests, size, short) in
    with_star field n text from end behind h no_pair e run gap is_star true test
    ∙ ap (λ r. map_step (with_coefficient (residue field (pos (digits_value 10 r)))) (word_at n (past_spaces (drop (behind + 1) text)))) (sym taken)
    ∙ ap (λ k. map_step (with_coefficient k) (word_at n (past_spaces (drop (behind + 1) text)))) (sym value)
    ∙ ap (λ l. map_step (with_coefficient c) (word_at n l)) (sym after)
