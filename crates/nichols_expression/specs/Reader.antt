-- The reading of an expression from the left, which stops at its first fault.
use Rattle.std.specs.Prelude.{ℕ, zero, suc, ◌-◌, ◌+◌, pos, Bool, true, false, ◌&&◌, List, [], ◌∷◌, length, decimal, Option, Some, None, Result, Ok, Err, nat_eq, nat_le, bytes_eq, if◌then◌else◌}
use Rattle.std.specs.Char.{is_ascii_digit}
use Rattle.std.specs.Str.Parse.{digits_value}
use Rattle.nichols_field.specs.Field.{FieldValue, residue, joined, is_extended}
use Rattle.nichols_braid.specs.Braid.{BraidValue}
use Rattle.nichols_braid.specs.Order.{in_ranks}
use Rattle.nichols_tensor.specs.Combination.{Term, Combination}
use Rattle.nichols_tensor.specs.InOrder.{in_order}
use Rattle.nichols_tensor.specs.declared.TheConstants.{WORD_LIMIT}
use Rattle.nichols_expression.specs.declared.TheConstants.{NUMBER_LIMIT, TERM_LIMIT}
use Rattle.nichols_expression.specs.Bytes.{space, opening, closing, comma, star, plus_byte, minus_byte, dot, zero_digit, empty_byte, signed_term}
use Rattle.nichols_expression.specs.declared.signs.Sign.{Sign}
use Rattle.nichols_expression.specs.declared.signs.Sign.TheVariants.{Positive, Reversed}
use Rattle.nichols_expression.specs.declared.faults.Cause.{Cause}
use Rattle.nichols_expression.specs.declared.faults.Cause.TheVariants.{Early, Byte, Letter, LongNumber, LongWord, Terms}

-- ---- what a step answers

-- a fault, at the first byte of what is left of the text
abbrev pub FaultAt : Type 0
FaultAt = record { left : List ℕ; cause : Cause }

-- what was read, and what is left of the text
abbrev pub Got : Type 0 → Type 0
Got X = record { value : X; left : List ℕ }

abbrev pub Step : Type 0 → Type 0
Step X = Result (Got X) FaultAt

-- a step's answers, at what is left
abbrev pub got : {X : Type 0} → X → List ℕ → Step X
got x left = Ok (record { value = x; left = left })

abbrev pub fault : {Y : Type 0} → Cause → List ℕ → Result Y FaultAt
fault cause left = Err (record { left = left; cause = cause })

-- what was read, changed
abbrev pub map_step : {X Y : Type 0} → (X → Y) → Step X → Step Y
map_step f (Ok r) = got (f r.value) r.left
map_step f (Err e) = Err e

-- one step, and then another
abbrev pub then_step : {X Y : Type 0} → Step X → (X → List ℕ → Step Y) → Step Y
then_step (Ok r) next = next r.value r.left
then_step (Err e) next = Err e

-- ---- runs of digits and spaces

-- the longest list of digits from the first byte on
unfoldable pub run_at : List ℕ → List ℕ
run_at [] = []
run_at (byte ∷ rest) = if is_ascii_digit byte then byte ∷ run_at rest else []

-- what is left after it
unfoldable pub past_run : List ℕ → List ℕ
past_run [] = []
past_run (byte ∷ rest) = if is_ascii_digit byte then past_run rest else byte ∷ rest

unfoldable pub past_spaces : List ℕ → List ℕ
past_spaces [] = []
past_spaces (byte ∷ rest) = if nat_eq byte space then past_spaces rest else byte ∷ rest

-- ---- words

-- whether a run is a letter of n
abbrev pub is_letter_run : ℕ → List ℕ → Bool
is_letter_run n run = nat_le 1 (digits_value 10 run) && nat_le (digits_value 10 run) n && bytes_eq run (decimal (digits_value 10 run))

-- after `.`: the text ends, or no digit comes, or a further run
abbrev pub after_dot : (List ℕ → Step (List ℕ)) → Bool → ℕ → List ℕ → Step (List ℕ)
after_dot further true byte rest = further (byte ∷ rest)
after_dot further false byte rest = fault Byte (byte ∷ rest)

abbrev pub at_dot : (List ℕ → Step (List ℕ)) → List ℕ → Step (List ℕ)
at_dot further [] = fault Early []
at_dot further (byte ∷ rest) = after_dot further (is_ascii_digit byte) byte rest

-- after a letter: a dot, or the word's end
abbrev pub after_letter : (List ℕ → Step (List ℕ)) → ℕ → Bool → ℕ → List ℕ → Step (List ℕ)
after_letter further a true byte rest = map_step (λ w. a ∷ w) (at_dot further rest)
after_letter further a false byte rest = got (a ∷ []) (byte ∷ rest)

abbrev pub past_letter : (List ℕ → Step (List ℕ)) → ℕ → List ℕ → Step (List ℕ)
past_letter further a [] = got (a ∷ []) []
past_letter further a (byte ∷ rest) = after_letter further a (nat_eq byte dot) byte rest

-- a run that isn't a letter; a letter where no more fit; a letter
abbrev pub at_run : (List ℕ → Step (List ℕ)) → Bool → List ℕ → Step (List ℕ)
at_run further false text = fault Letter text
at_run further true text = further text

-- the letters from a run on, at most so many
unfoldable pub letters_at : ℕ → ℕ → List ℕ → Step (List ℕ)
letters_at n zero text = at_run (fault LongWord) (is_letter_run n (run_at text)) text
letters_at n (suc room) text = at_run (λ t. past_letter (letters_at n room) (digits_value 10 (run_at t)) (past_run t)) (is_letter_run n (run_at text)) text

-- a word begins with a digit, with `e` or with no such byte
abbrev pub word_by : ℕ → Bool → Bool → ℕ → List ℕ → Step (List ℕ)
word_by n true is_e byte rest = letters_at n WORD_LIMIT (byte ∷ rest)
word_by n false true byte rest = got [] rest
word_by n false false byte rest = fault Byte (byte ∷ rest)

-- a word, where one is due
unfoldable pub word_at : ℕ → List ℕ → Step (List ℕ)
word_at n [] = fault Early []
word_at n (byte ∷ rest) = word_by n (is_ascii_digit byte) (nat_eq byte empty_byte) byte rest

-- ---- pairs of numbers

-- a byte that is due: it, or another
abbrev pub past_mark : Bool → ℕ → List ℕ → Step (Unit {0})
past_mark true byte rest = got tt rest
past_mark false byte rest = fault Byte (byte ∷ rest)

-- a byte, where it is due
abbrev pub mark_at : ℕ → List ℕ → Step (Unit {0})
mark_at mark [] = fault Early []
mark_at mark (byte ∷ rest) = past_mark (nat_eq byte mark) byte rest

-- a number with a mark behind it and spaces: no run, too long a one, or a number
abbrev pub number_by : ℕ → Bool → Bool → List ℕ → Step ℕ
number_by mark false short text = fault Byte text
number_by mark true false text = fault LongNumber text
number_by mark true true text = map_step (λ _. digits_value 10 (run_at text)) (mark_at mark (past_spaces (past_run text)))

-- a number and the mark behind it, where they are due
unfoldable pub number_at : ℕ → List ℕ → Step ℕ
number_at mark [] = fault Early []
number_at mark (byte ∷ rest) = number_by mark (is_ascii_digit byte) (nat_le (length (run_at (byte ∷ rest))) NUMBER_LIMIT) (byte ∷ rest)

-- the element of two numbers
abbrev pub pair_element : FieldValue → ℕ → ℕ → ℕ
pair_element field u v = joined field (pos u) (pos v)

-- behind the first number of a pair: the second, and `*`
abbrev pub second_at : FieldValue → ℕ → List ℕ → Step ℕ
second_at field u text = then_step (number_at closing (past_spaces text)) (λ v left. map_step (λ _. pair_element field u v) (mark_at star (past_spaces left)))

-- a pair of numbers behind its `(`, up to the `*` behind it
unfoldable pub pair_at : FieldValue → List ℕ → Step ℕ
pair_at field text = then_step (number_at comma (past_spaces text)) (second_at field)

-- ---- terms

-- a word with its coefficient
abbrev pub with_coefficient : ℕ → List ℕ → Term
with_coefficient c w = record { word = w; coefficient = c }

abbrev pub bare_word : ℕ → List ℕ → Step Term
bare_word n text = map_step (with_coefficient 1) (word_at n text)

-- a run before `*`: a number, or too long a one
abbrev pub term_after_number : FieldValue → ℕ → Bool → List ℕ → List ℕ → Step Term
term_after_number field n true text after = map_step (with_coefficient (residue field (pos (digits_value 10 (run_at text))))) (word_at n (past_spaces after))
term_after_number field n false text after = fault LongNumber text

-- what comes after a run and spaces: `*` or not
abbrev pub by_star : FieldValue → ℕ → Bool → List ℕ → List ℕ → Step Term
by_star field n true text after = term_after_number field n (nat_le (length (run_at text)) NUMBER_LIMIT) text after
by_star field n false text after = bare_word n text

abbrev pub past_first_run : FieldValue → ℕ → List ℕ → List ℕ → Step Term
past_first_run field n text [] = bare_word n text
past_first_run field n text (byte ∷ after) = by_star field n (nat_eq byte star) text after

-- a term that begins with a run, or not
abbrev pub term_by : FieldValue → ℕ → Bool → List ℕ → Step Term
term_by field n true text = past_first_run field n text (past_spaces (past_run text))
term_by field n false text = bare_word n text

-- a word behind a coefficient and its `*`
abbrev pub word_after : ℕ → ℕ → List ℕ → Step Term
word_after n c text = map_step (with_coefficient c) (word_at n (past_spaces text))

-- whether a pair begins with the byte
abbrev pub opens_pair : FieldValue → ℕ → Bool
opens_pair field byte = nat_eq byte opening && is_extended field

-- a term that begins with a pair, or not
abbrev pub term_opened : FieldValue → ℕ → Bool → ℕ → List ℕ → Step Term
term_opened field n true byte rest = then_step (pair_at field rest) (word_after n)
term_opened field n false byte rest = term_by field n (is_ascii_digit byte) (byte ∷ rest)

-- a term, at a byte and what comes after it
unfoldable pub term_at : FieldValue → ℕ → ℕ → List ℕ → Step Term
term_at field n byte rest = term_opened field n (opens_pair field byte) byte rest

-- ---- expressions

-- the sign that a byte is
abbrev pub sign_of : ℕ → Option Sign
sign_of byte = if nat_eq byte plus_byte then Some Positive else (if nat_eq byte minus_byte then Some Reversed else None)

-- what is read of the terms
abbrev pub Read : Type 0
Read = Result Combination FaultAt

abbrev pub put_first : Term → Read → Read
put_first t (Ok f) = Ok (t ∷ f)
put_first t (Err e) = Err e

-- after a term and spaces: a sign, or no such byte
abbrev pub after_term : (Sign → List ℕ → Read) → Term → Option Sign → ℕ → List ℕ → Read
after_term further t None byte rest = fault Byte (byte ∷ rest)
after_term further t (Some sign) byte rest = put_first t (further sign (past_spaces rest))

abbrev pub past_term : (Sign → List ℕ → Read) → Term → List ℕ → Read
past_term further t [] = Ok (t ∷ [])
past_term further t (byte ∷ rest) = after_term further t (sign_of byte) byte rest

abbrev pub with_term : FieldValue → (Sign → List ℕ → Read) → Sign → Step Term → Read
with_term field further sign (Ok r) = past_term further (signed_term field sign r.value) (past_spaces r.left)
with_term field further sign (Err e) = Err e

-- the terms after a sign, at most so many
unfoldable pub terms_at : FieldValue → ℕ → ℕ → Sign → List ℕ → Read
terms_at field n room sign [] = fault Early []
terms_at field n zero sign (byte ∷ rest) = fault Terms (byte ∷ rest)
terms_at field n (suc room) sign (byte ∷ rest) = with_term field (terms_at field n room) sign (term_at field n byte rest)

-- whether nothing but spaces is left
abbrev pub is_empty : List ℕ → Bool
is_empty [] = true
is_empty (byte ∷ rest) = false

-- the terms, with a sign before the first or none
abbrev pub signed_by : FieldValue → ℕ → Option Sign → ℕ → List ℕ → Read
signed_by field n None byte rest = terms_at field n TERM_LIMIT Positive (byte ∷ rest)
signed_by field n (Some sign) byte rest = terms_at field n TERM_LIMIT sign (past_spaces rest)

-- the digit 0 alone, or terms
abbrev pub zero_or_terms : FieldValue → ℕ → Bool → ℕ → List ℕ → Read
zero_or_terms field n true byte rest = Ok []
zero_or_terms field n false byte rest = signed_by field n (sign_of byte) byte rest

abbrev pub expression_at : FieldValue → ℕ → List ℕ → Read
expression_at field n [] = fault Early []
expression_at field n (byte ∷ rest) = zero_or_terms field n (nat_eq byte zero_digit && is_empty (past_spaces rest)) byte rest

-- the terms of an expression, or its first fault
unfoldable pub read_terms : FieldValue → ℕ → List ℕ → Read
read_terms field n text = expression_at field n (past_spaces text)

-- a fault of a text: the place of its byte, counted from 1, and what is wrong there
abbrev pub Fault : Type 0
Fault = record { place : ℕ; cause : Cause }

-- the value of the terms, in ranks: those of one word are added, and zeros dropped; or the place of a fault, by what is left of the text there
abbrev pub value_or_fault : FieldValue → List ℕ → List ℕ → Read → Result Combination Fault
value_or_fault field order text (Ok terms) = Ok (in_order field (in_ranks order terms))
value_or_fault field order text (Err e) = Err (record { place = length text + 1 - length e.left; cause = e.cause })

-- the value, in ranks, of a text as an expression over the letters and the field of a braid with an order of the letters, or its first
-- fault from the left
unfoldable pub expression_of : BraidValue → List ℕ → List ℕ → Result Combination Fault
expression_of braid order text = value_or_fault braid.field order text (read_terms braid.field braid.letters text)
