-- How far ahead the reader has looked when it answers: no further than to the byte that settles a fault, or to the first behind what was read and spaces.
use Rattle.std.proofs.Common.{◌≡◌, ℕ, zero, suc, ◌+◌, ◌<◌, ◌≤◌, pos, Bool, true, false, ◌&&◌, cond, List, [], ◌∷◌, ◌++◌, length, drop, refl, sym, ◌∙◌, ap, subst, nat_eq, nat_le, arith, Option, Some, None, Ok, Err}
use Rattle.std.specs.Str.Parse.{digits_value}
use Rattle.std.specs.Char.{is_ascii_digit}
use Rattle.std.proofs.lemmas.Bool.Decides.{nat_tests, Decides-eqb}
use Rattle.std.proofs.lemmas.List.{length-append, length-drop}
use Rattle.nichols_field.specs.Field.{FieldValue, residue}
use Rattle.nichols_tensor.specs.Combination.{Term}
use Rattle.nichols_tensor.specs.declared.TheConstants.{WORD_LIMIT}
use Rattle.nichols_expression.specs.declared.TheConstants.{NUMBER_LIMIT, TERM_LIMIT}
use Rattle.nichols_expression.specs.Bytes.{space, star, dot, zero_digit, empty_byte, signed_term, comma, closing}
use Rattle.nichols_expression.specs.declared.signs.Sign.{Sign}
use Rattle.nichols_expression.specs.declared.signs.Sign.TheVariants.{Positive}
use Rattle.nichols_expression.specs.declared.faults.Cause.{Cause}
use Rattle.nichols_expression.specs.declared.faults.Cause.TheVariants.{Early, Byte, Letter, LongNumber, LongWord, Terms, Surplus}
use Rattle.nichols_expression.specs.Reader.{Step, map_step, fault, run_at, past_run, past_spaces, is_letter_run, at_dot, after_dot, after_letter, past_letter, at_run, letters_at, word_by, word_at, with_coefficient, bare_word, term_after_number, by_star, past_first_run, term_by, term_at, sign_of, Read, put_first, after_term, past_term, with_term, terms_at, is_empty, signed_by, zero_or_terms, expression_at, then_step, past_mark, mark_at, number_by, number_at, pair_element, second_at, pair_at, word_after, opens_pair, term_opened}
use Rattle.nichols_expression.proofs.Runs.{run_split}
use Rattle.nichols_expression.proofs.Fronts.{digit_opens_none}

-- what is left at the byte that settles a fault: its own, for a run that is no letter the first behind the run and spaces, for too long a number the last digit that makes it so
abbrev pub from_settling_byte : Cause → List ℕ → List ℕ
from_settling_byte Early left = left
from_settling_byte Byte left = left
from_settling_byte Letter left = past_spaces (past_run left)
from_settling_byte LongNumber left = drop NUMBER_LIMIT left
from_settling_byte LongWord left = left
from_settling_byte Terms left = left
from_settling_byte Surplus left = left

-- how much is left from the last byte on that the answer depends on
abbrev pub ahead : {X : Type 0} → Step X → ℕ
ahead (Ok r) = length (past_spaces r.left)
ahead (Err e) = length (from_settling_byte e.cause e.left)

-- the same of the terms, which are read only where the text ends
abbrev pub ahead_of_fault : Read → ℕ
ahead_of_fault (Ok f) = 0
ahead_of_fault (Err e) = length (from_settling_byte e.cause e.left)

-- ---- runs and spaces

pub past_spaces-le : (text : List ℕ) → length (past_spaces text) ≤ length text
unfolding past_spaces
past_spaces-le [] = omega arith
past_spaces-le (byte ∷ rest) = at (nat_eq byte space) (past_spaces-le rest)
  where
    at : (b : Bool) → length (past_spaces rest) ≤ length rest → length (cond b (past_spaces rest) (byte ∷ rest)) ≤ suc (length rest)
    at true h = omega (arith, h)
    at false h = omega arith

pub past_run-le : (text : List ℕ) → length (past_run text) ≤ length text
unfolding past_run
past_run-le [] = omega arith
past_run-le (byte ∷ rest) = at (is_ascii_digit byte) (past_run-le rest)
  where
    at : (b : Bool) → length (past_run rest) ≤ length rest → length (cond b (past_run rest) (byte ∷ rest)) ≤ suc (length rest)
    at true h = omega (arith, h)
    at false h = omega arith

pub behind_run-le : (text : List ℕ) → length (past_spaces (past_run text)) ≤ length text
behind_run-le text = omega (arith, past_spaces-le (past_run text), past_run-le text)

pub past_dot : (byte : ℕ) (rest : List ℕ) → nat_eq byte dot ≡ true → past_spaces (byte ∷ rest) ≡ byte ∷ rest
unfolding past_spaces
past_dot byte rest h = subst (λ b. past_spaces (b ∷ rest) ≡ b ∷ rest) (sym ((Decides-eqb byte dot).0 h)) refl

-- ---- letters

pub mapped_ahead : {X Y : Type 0} (f : X → Y) (r : Step X) → ahead (map_step f r) ≡ ahead r
mapped_ahead f (Ok r) = refl
mapped_ahead f (Err e) = refl

-- a step that looks no further ahead than all that is left
abbrev pub LooksWithin : {X : Type 0} → (List ℕ → Step X) → Type 0
LooksWithin step = (text : List ℕ) → ahead (step text) ≤ length text

pub at_dot_ahead : (further : List ℕ → Step (List ℕ)) → LooksWithin further → LooksWithin (at_dot further)
at_dot_ahead further ih [] = omega arith
at_dot_ahead further ih (byte ∷ rest) = at (is_ascii_digit byte)
  where
    at : (b : Bool) → ahead (after_dot further b byte rest) ≤ length (byte ∷ rest)
    at true = ih (byte ∷ rest)
    at false = omega arith

pub past_letter_ahead : (further : List ℕ → Step (List ℕ)) → LooksWithin further → (a : ℕ) (text : List ℕ) → ahead (past_letter further a text) ≤ length (past_spaces text)
past_letter_ahead further ih a [] = omega arith
past_letter_ahead further ih a (byte ∷ rest) = at (nat_eq byte dot) refl
  where
    at : (b : Bool) → nat_eq byte dot ≡ b → ahead (after_letter further a b byte rest) ≤ length (past_spaces (byte ∷ rest))
    at false e = omega arith
    at true e =
        let kept : length (past_spaces (byte ∷ rest)) ≡ suc (length rest) = ap length (past_dot byte rest e) in
        omega (arith, kept, mapped_ahead (λ w. a ∷ w) (at_dot further rest), at_dot_ahead further ih rest)

letters_ahead_by : (n room : ℕ) → LooksWithin (letters_at n room) → (text : List ℕ) → ahead (letters_at n (suc room) text) ≤ length (past_spaces (past_run text))
unfolding letters_at
letters_ahead_by n room ih text = at (is_letter_run n (run_at text))
  where
    at : (b : Bool) → ahead (at_run (λ t. past_letter (letters_at n room) (digits_value 10 (run_at t)) (past_run t)) b text) ≤ length (past_spaces (past_run text))
    at true = past_letter_ahead (letters_at n room) ih (digits_value 10 (run_at text)) (past_run text)
    at false = omega arith

pub letters_ahead : (n room : ℕ) → LooksWithin (letters_at n room)
unfolding letters_at
letters_ahead n zero text = at (is_letter_run n (run_at text))
  where
    at : (b : Bool) → ahead (at_run (fault LongWord) b text) ≤ length text
    at true = omega arith
    at false = behind_run-le text
letters_ahead n (suc room) text = omega (arith, letters_ahead_by n room (letters_ahead n room) text, behind_run-le text)

pub letters_ahead_of_run : (n room : ℕ) (text : List ℕ) → ahead (letters_at n (suc room) text) ≤ length (past_spaces (past_run text))
letters_ahead_of_run n room text = letters_ahead_by n room (letters_ahead n room) text

-- ---- words

pub word_ahead : (n : ℕ) → LooksWithin (word_at n)
unfolding word_at
word_ahead n [] = omega arith
word_ahead n (byte ∷ rest) = at (is_ascii_digit byte) (nat_eq byte empty_byte)
  where
    at : (d e : Bool) → ahead (word_by n d e byte rest) ≤ length (byte ∷ rest)
    at true e = letters_ahead n WORD_LIMIT (byte ∷ rest)
    at false true = omega (arith, past_spaces-le rest)
    at false false = omega arith

-- where a word begins with a run, no further than to the first byte behind it and spaces, unless more letters come
pub word_ahead_of_run : (n byte : ℕ) (rest : List ℕ) → is_ascii_digit byte ≡ true → ahead (word_at n (byte ∷ rest)) ≤ length (past_spaces (past_run (byte ∷ rest)))
unfolding word_at
word_ahead_of_run n byte rest h =
    subst (λ b. ahead (word_by n b (nat_eq byte empty_byte) byte rest) ≤ length (past_spaces (past_run (byte ∷ rest)))) (sym h) (letters_ahead_of_run n 59 (byte ∷ rest))

-- ---- pairs of numbers

pub then_ahead : {X Y : Type 0} (r : Step X) (next : X → List ℕ → Step Y) → ((x : X) (left : List ℕ) → ahead (next x left) ≤ length (past_spaces left)) → ahead (then_step r next) ≤ ahead r
then_ahead (Ok r) next further = further r.value r.left
then_ahead (Err e) next further = omega arith

pub mark_ahead : (mark : ℕ) → LooksWithin (mark_at mark)
mark_ahead mark [] = omega arith
mark_ahead mark (byte ∷ rest) = at (nat_eq byte mark)
  where
    at : (b : Bool) → ahead (past_mark b byte rest) ≤ length (byte ∷ rest)
    at true = omega (arith, past_spaces-le rest)
    at false = omega arith

pub marked_ahead : (mark : ℕ) (text : List ℕ) → ahead (number_by mark true true text) ≤ length (past_spaces (past_run text))
marked_ahead mark text = omega (arith, mapped_ahead (λ _. digits_value 10 (run_at text)) (mark_at mark (past_spaces (past_run text))), mark_ahead mark (past_spaces (past_run text)))

pub number_ahead : (mark : ℕ) → LooksWithin (number_at mark)
unfolding number_at
number_ahead mark [] = omega arith
number_ahead mark (byte ∷ rest) = at (is_ascii_digit byte) (nat_le (length (run_at (byte ∷ rest))) NUMBER_LIMIT)
  where
    at : (d s : Bool) → ahead (number_by mark d s (byte ∷ rest)) ≤ length (byte ∷ rest)
    at false s = omega arith
    at true false = omega (arith, length-drop NUMBER_LIMIT (byte ∷ rest))
    at true true = omega (arith, marked_ahead mark (byte ∷ rest), behind_run-le (byte ∷ rest))

-- what stands behind the second number of a pair
abbrev pub element_at : FieldValue → ℕ → ℕ → List ℕ → Step ℕ
element_at field u v left = map_step (λ _. pair_element field u v) (mark_at star (past_spaces left))

pub element_ahead : (field : FieldValue) (u v : ℕ) (left : List ℕ) → ahead (element_at field u v left) ≤ length (past_spaces left)
element_ahead field u v left = omega (arith, mapped_ahead (λ _. pair_element field u v) (mark_at star (past_spaces left)), mark_ahead star (past_spaces left))

pub second_ahead : (field : FieldValue) (u : ℕ) (text : List ℕ) → ahead (second_at field u text) ≤ length (past_spaces text)
second_ahead field u text = omega (arith, then_ahead (number_at closing (past_spaces text)) (element_at field u) (element_ahead field u), number_ahead closing (past_spaces text))

pub pair_ahead : (field : FieldValue) → LooksWithin (pair_at field)
unfolding pair_at
pair_ahead field text = omega (arith, then_ahead (number_at comma (past_spaces text)) (second_at field) (second_ahead field), number_ahead comma (past_spaces text), past_spaces-le text)

pub word_after_ahead : (n c : ℕ) (text : List ℕ) → ahead (word_after n c text) ≤ length (past_spaces text)
word_after_ahead n c text = omega (arith, mapped_ahead (with_coefficient c) (word_at n (past_spaces text)), word_ahead n (past_spaces text))

-- ---- terms

pub bare_ahead : (n : ℕ) (text : List ℕ) → ahead (bare_word n text) ≡ ahead (word_at n text)
bare_ahead n text = mapped_ahead (with_coefficient 1) (word_at n text)

-- whether the run at the beginning of the text is short enough for a number
abbrev pub is_short_run : List ℕ → Bool
is_short_run text = nat_le (length (run_at text)) NUMBER_LIMIT

pub long_run : (text : List ℕ) → is_short_run text ≡ false → NUMBER_LIMIT < length (run_at text)
long_run text h = grind (arith, nat_tests, h)

behind_long_run : (text : List ℕ) → is_short_run text ≡ false → length (past_spaces (past_run text)) + NUMBER_LIMIT < length text
behind_long_run text h =
    let split : length text ≡ length (run_at text ++ past_run text) = ap length (run_split text) in
    omega (arith, split, length-append (run_at text) (past_run text), long_run text h, past_spaces-le (past_run text))

numbered_ahead : (field : FieldValue) (n : ℕ) (text after : List ℕ) (byte : ℕ) → past_spaces (past_run text) ≡ byte ∷ after → ahead (term_after_number field n true text after) ≤ length (past_spaces (past_run text))
numbered_ahead field n text after byte h =
    let kept : length (past_spaces (past_run text)) ≡ suc (length after) = ap length h in
    omega (arith, kept, mapped_ahead (with_coefficient (residue field (pos (digits_value 10 (run_at text))))) (word_at n (past_spaces after)), word_ahead n (past_spaces after), past_spaces-le after)

short_run_ahead : (field : FieldValue) (n : ℕ) (text rest : List ℕ) → is_short_run text ≡ true → past_spaces (past_run text) ≡ rest → ahead (word_at n text) ≤ length (past_spaces (past_run text)) →
    ahead (past_first_run field n text rest) ≤ length (past_spaces (past_run text))
short_run_ahead field n text [] short h word = omega (arith, bare_ahead n text, word)
short_run_ahead field n text (byte ∷ after) short h word = at (nat_eq byte star)
  where
    at : (b : Bool) → ahead (by_star field n b text after) ≤ length (past_spaces (past_run text))
    at true = subst (λ b. ahead (term_after_number field n b text after) ≤ length (past_spaces (past_run text))) (sym short) (numbered_ahead field n text after byte h)
    at false = omega (arith, bare_ahead n text, word)

long_run_ahead : (field : FieldValue) (n : ℕ) (text rest : List ℕ) → is_short_run text ≡ false → ahead (word_at n text) ≤ length (past_spaces (past_run text)) → ahead (past_first_run field n text rest) + NUMBER_LIMIT ≤ length text
long_run_ahead field n text [] long word = omega (arith, bare_ahead n text, word, behind_long_run text long)
long_run_ahead field n text (byte ∷ after) long word = at (nat_eq byte star)
  where
    at : (b : Bool) → ahead (by_star field n b text after) + NUMBER_LIMIT ≤ length text
    at true = subst (λ b. ahead (term_after_number field n b text after) + NUMBER_LIMIT ≤ length text) (sym long) (omega (arith, length-drop NUMBER_LIMIT text, behind_long_run text long))
    at false = omega (arith, bare_ahead n text, word, behind_long_run text long)

-- a term that begins with a run, by the byte behind it and spaces
abbrev pub run_term : FieldValue → ℕ → List ℕ → Step Term
run_term field n text = past_first_run field n text (past_spaces (past_run text))

pub run_term_ahead_of_short : (field : FieldValue) (n byte : ℕ) (rest : List ℕ) → is_ascii_digit byte ≡ true → is_short_run (byte ∷ rest) ≡ true → ahead (run_term field n (byte ∷ rest)) ≤ length (past_spaces (past_run (byte ∷ rest)))
run_term_ahead_of_short field n byte rest h short = short_run_ahead field n (byte ∷ rest) (past_spaces (past_run (byte ∷ rest))) short refl (word_ahead_of_run n byte rest h)

pub run_term_ahead_of_long : (field : FieldValue) (n byte : ℕ) (rest : List ℕ) → is_ascii_digit byte ≡ true → is_short_run (byte ∷ rest) ≡ false → ahead (run_term field n (byte ∷ rest)) + NUMBER_LIMIT ≤ length (byte ∷ rest)
run_term_ahead_of_long field n byte rest h long = long_run_ahead field n (byte ∷ rest) (past_spaces (past_run (byte ∷ rest))) long (word_ahead_of_run n byte rest h)

pub term_of_run : (field : FieldValue) (n byte : ℕ) (rest : List ℕ) → is_ascii_digit byte ≡ true → term_at field n byte rest ≡ run_term field n (byte ∷ rest)
unfolding term_at
term_of_run field n byte rest h = ap (λ b. term_opened field n b byte rest) (digit_opens_none field byte h) ∙ ap (λ b. term_by field n b (byte ∷ rest)) h

term_ahead_of_word : (field : FieldValue) (n byte : ℕ) (rest : List ℕ) → is_ascii_digit byte ≡ false → ahead (term_at field n byte rest) ≤ length (byte ∷ rest)
unfolding term_at
term_ahead_of_word field n byte rest h = opened (opens_pair field byte)
  where
    opened : (b : Bool) → ahead (term_opened field n b byte rest) ≤ length (byte ∷ rest)
    opened true = omega (arith, then_ahead (pair_at field rest) (word_after n) (word_after_ahead n), pair_ahead field rest)
    opened false = subst (λ b. ahead (term_by field n b (byte ∷ rest)) ≤ length (byte ∷ rest)) (sym h) (omega (arith, bare_ahead n (byte ∷ rest), word_ahead n (byte ∷ rest)))

pub term_ahead : (field : FieldValue) (n byte : ℕ) (rest : List ℕ) → ahead (term_at field n byte rest) ≤ length (byte ∷ rest)
term_ahead field n byte rest = at (is_ascii_digit byte) (is_short_run (byte ∷ rest)) refl refl
  where
    at : (b c : Bool) → is_ascii_digit byte ≡ b → is_short_run (byte ∷ rest) ≡ c → ahead (term_at field n byte rest) ≤ length (byte ∷ rest)
    at true true e short = omega (arith, ap ahead (term_of_run field n byte rest e), run_term_ahead_of_short field n byte rest e short, behind_run-le (byte ∷ rest))
    at true false e long = omega (arith, ap ahead (term_of_run field n byte rest e), run_term_ahead_of_long field n byte rest e long)
    at false c e short = term_ahead_of_word field n byte rest e

-- ---- expressions

pub put_ahead : (t : Term) (r : Read) → ahead_of_fault (put_first t r) ≡ ahead_of_fault r
put_ahead t (Ok f) = refl
put_ahead t (Err e) = refl

-- the reading of terms, of which the same is true
abbrev pub TermsLookWithin : (Sign → List ℕ → Read) → Type 0
TermsLookWithin further = (sign : Sign) (text : List ℕ) → ahead_of_fault (further sign text) ≤ length text

pub past_term_ahead : (further : Sign → List ℕ → Read) → TermsLookWithin further → (t : Term) (text : List ℕ) → ahead_of_fault (past_term further t text) ≤ length text
past_term_ahead further ih t [] = omega arith
past_term_ahead further ih t (byte ∷ rest) = at (sign_of byte)
  where
    at : (o : Option Sign) → ahead_of_fault (after_term further t o byte rest) ≤ length (byte ∷ rest)
    at None = omega arith
    at (Some sign) = omega (arith, put_ahead t (further sign (past_spaces rest)), ih sign (past_spaces rest), past_spaces-le rest)

pub with_term_ahead : (field : FieldValue) (further : Sign → List ℕ → Read) → TermsLookWithin further → (sign : Sign) (r : Step Term) → ahead_of_fault (with_term field further sign r) ≤ ahead r
with_term_ahead field further ih sign (Ok r) = past_term_ahead further ih (signed_term field sign r.value) (past_spaces r.left)
with_term_ahead field further ih sign (Err e) = omega arith

pub terms_ahead : (field : FieldValue) (n room : ℕ) → TermsLookWithin (terms_at field n room)
unfolding terms_at
terms_ahead field n zero sign [] = omega arith
terms_ahead field n (suc room) sign [] = omega arith
terms_ahead field n zero sign (byte ∷ rest) = omega arith
terms_ahead field n (suc room) sign (byte ∷ rest) = omega (arith, with_term_ahead field (terms_at field n room) (terms_ahead field n room) sign (term_at field n byte rest), term_ahead field n byte rest)

pub terms_ahead_of_first : (field : FieldValue) (n room : ℕ) (sign : Sign) (byte : ℕ) (rest : List ℕ) → ahead_of_fault (terms_at field n (suc room) sign (byte ∷ rest)) ≤ ahead (term_at field n byte rest)
unfolding terms_at
terms_ahead_of_first field n room sign byte rest = with_term_ahead field (terms_at field n room) (terms_ahead field n room) sign (term_at field n byte rest)

signed_ahead : (field : FieldValue) (n byte : ℕ) (rest : List ℕ) (o : Option Sign) → ahead_of_fault (signed_by field n o byte rest) ≤ length (byte ∷ rest)
signed_ahead field n byte rest None = terms_ahead field n TERM_LIMIT Positive (byte ∷ rest)
signed_ahead field n byte rest (Some sign) = omega (arith, terms_ahead field n TERM_LIMIT sign (past_spaces rest), past_spaces-le rest)

pub expression_ahead : (field : FieldValue) (n : ℕ) (text : List ℕ) → ahead_of_fault (expression_at field n text) ≤ length text
expression_ahead field n [] = omega arith
expression_ahead field n (byte ∷ rest) = at (nat_eq byte zero_digit && is_empty (past_spaces rest))
  where
    at : (b : Bool) → ahead_of_fault (zero_or_terms field n b byte rest) ≤ length (byte ∷ rest)
    at true = omega arith
    at false = signed_ahead field n byte rest (sign_of byte)
