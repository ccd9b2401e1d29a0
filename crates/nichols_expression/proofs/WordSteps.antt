-- A word at a place, by what stands there.
use Rattle.std.proofs.Common.{◌≡◌, ◌≤◌, ◌<◌, ◌+◌, ℕ, nat_eq, true, false, List, [], length, drop, get_or, sym, ◌∙◌, ap}
use Rattle.std.proofs.lemmas.List.{drop_all}
use Rattle.std.specs.Char.{is_ascii_digit}
use Rattle.nichols_expression.specs.Bytes.{empty_byte}
use Rattle.nichols_expression.specs.Reader.{got, fault, word_by, word_at}
use Rattle.nichols_expression.specs.Steps.{starts_with, starts_with_digit}
use Rattle.nichols_expression.specs.declared.faults.Cause.TheVariants.{Early, Byte}
use Rattle.nichols_expression.proofs.Scanning.{byte_first, byte_at}

pub word_is_empty : (n : ℕ) (text : List ℕ) (at : ℕ) → starts_with empty_byte (drop at text) ≡ true → word_at n (drop at text) ≡ got [] (drop (at + 1) text)
unfolding word_at
word_is_empty n text at h = ap (word_at n) (byte_at text at empty_byte h).split

pub word_is_missing : (n : ℕ) (text : List ℕ) (at : ℕ) → length text ≤ at → word_at n (drop at text) ≡ fault Early (drop at text)
unfolding word_at
word_is_missing n text at h = ap (word_at n) (drop_all at text h) ∙ ap (λ l. fault Early l) (sym (drop_all at text h))

pub word_is_none : (n : ℕ) (text : List ℕ) (at : ℕ) → at < length text → starts_with_digit (drop at text) ≡ false → starts_with empty_byte (drop at text) ≡ false →
    word_at n (drop at text) ≡ fault Byte (drop at text)
unfolding word_at
word_is_none n text at h no_digit no_e =
    let split = byte_first text at 0 h in
    let byte = get_or text at 0 in
    let digit : is_ascii_digit byte ≡ false = ap starts_with_digit (sym split) ∙ no_digit in
    let empty : nat_eq byte empty_byte ≡ false = ap (starts_with empty_byte) (sym split) ∙ no_e in
    ap (word_at n) split
    ∙ ap (λ b. word_by n b (nat_eq byte empty_byte) byte (drop (at + 1) text)) digit
    ∙ ap (λ b. word_by n false b byte (drop (at + 1) text)) empty
    ∙ ap (λ l. fault Byte l) (sym split)
