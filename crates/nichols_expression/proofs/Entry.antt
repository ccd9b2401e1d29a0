-- How an expression begins.
use Rattle.std.proofs.Common.{◌≡◌, ◌<◌, ◌+◌, ℕ, nat_eq, Bool, true, false, ◌&&◌, List, [], Ok, Some, None, length, drop, get_or, sym, ◌∙◌, ap, arith}
use Rattle.std.proofs.lemmas.List.{drop_all}
use Rattle.nichols_field.specs.Field.{FieldValue}
use Rattle.nichols_expression.specs.Bytes.{zero_digit}
use Rattle.nichols_expression.specs.declared.TheConstants.{TERM_LIMIT}
use Rattle.nichols_expression.specs.declared.signs.Sign.{Sign}
use Rattle.nichols_expression.specs.declared.signs.Sign.TheVariants.{Positive}
use Rattle.nichols_expression.specs.Reader.{fault, past_spaces, sign_of, terms_at, is_empty, signed_by, zero_or_terms, expression_at, read_terms}
use Rattle.nichols_expression.specs.Steps.{starts_with}
use Rattle.nichols_expression.specs.declared.faults.Cause.TheVariants.{Early}
use Rattle.nichols_expression.proofs.Scanning.{byte_first}

pub nothing_left : (text : List ℕ) (at : ℕ) → at ≡ length text → is_empty (drop at text) ≡ true
nothing_left text at h = ap is_empty (drop_all at text (omega (arith, h)))

pub something_left : (text : List ℕ) (at : ℕ) → at < length text → is_empty (drop at text) ≡ false
something_left text at h = ap is_empty (byte_first text at 0 h)

pub entry_early : (k : FieldValue) (n : ℕ) (text : List ℕ) (start : ℕ) → drop start text ≡ past_spaces text → start ≡ length text → read_terms k n text ≡ fault Early (drop start text)
unfolding read_terms
entry_early k n text start gap last =
    let none = drop_all start text (omega (arith, last)) in
    ap (expression_at k n) (sym gap ∙ none) ∙ ap (λ l. fault Early l) (sym none)

begun : (k : FieldValue) (n : ℕ) (text : List ℕ) (start behind : ℕ) → drop start text ≡ past_spaces text → start < length text → drop behind text ≡ past_spaces (drop (start + 1) text) →
    (b : Bool) → (starts_with zero_digit (drop start text) && is_empty (drop behind text)) ≡ b → read_terms k n text ≡ zero_or_terms k n b (get_or text start 0) (drop (start + 1) text)
unfolding read_terms
begun k n text start behind gap more after b test =
    let split = byte_first text start 0 more in
    let byte = get_or text start 0 in
    let same : (nat_eq byte zero_digit && is_empty (past_spaces (drop (start + 1) text))) ≡ b =
    ap (λ l. nat_eq byte zero_digit && is_empty l) (sym after) ∙ ap (λ l. starts_with zero_digit l && is_empty (drop behind text)) (sym split) ∙ test in
    ap (expression_at k n) (sym gap ∙ split) ∙ ap (λ c. zero_or_terms k n c byte (drop (start + 1) text)) same

pub entry_zero : (k : FieldValue) (n : ℕ) (text : List ℕ) (start behind : ℕ) → drop start text ≡ past_spaces text → start < length text → drop behind text ≡ past_spaces (drop (start + 1) text) →
    (starts_with zero_digit (drop start text) && is_empty (drop behind text)) ≡ true → read_terms k n text ≡ Ok []
entry_zero k n text start behind gap more after test = begun k n text start behind gap more after true test

pub entry_signed : (k : FieldValue) (n : ℕ) (text : List ℕ) (start behind : ℕ) (sign : Sign) → drop start text ≡ past_spaces text → start < length text → drop behind text ≡ past_spaces (drop (start + 1) text) →
    (starts_with zero_digit (drop start text) && is_empty (drop behind text)) ≡ false → sign_of (get_or text start 0) ≡ Some sign → read_terms k n text ≡ terms_at k n TERM_LIMIT sign (drop behind text)
entry_signed k n text start behind sign gap more after test is_sign =
    begun k n text start behind gap more after false test
    ∙ ap (λ o. signed_by k n o (get_or text start 0) (drop (start + 1) text)) is_sign
    ∙ ap (terms_at k n TERM_LIMIT sign) (sym after)

pub entry_unsigned : (k : FieldValue) (n : ℕ) (text : List ℕ) (start behind : ℕ) → drop start text ≡ past_spaces text → start < length text → drop behind text ≡ past_spaces (drop (start + 1) text) →
    (starts_with zero_digit (drop start text) && is_empty (drop behind text)) ≡ false → sign_of (get_or text start 0) ≡ None → read_terms k n text ≡ terms_at k n TERM_LIMIT Positive (drop start text)
entry_unsigned k n text start behind gap more after test no_sign =
    begun k n text start behind gap more after false test
    ∙ ap (λ o. signed_by k n o (get_or text start 0) (drop (start + 1) text)) no_sign
    ∙ ap (terms_at k n TERM_LIMIT Positive) (sym (byte_first text start 0 more))
