-- Where the reader stops: at an end of the text, which is that behind its last byte only where the text ends too early.
use Rattle.std.proofs.Common.{◌≡◌, ℕ, zero, suc, ◌<◌, ◌≤◌, ◌-◌, pos, Bool, true, false, ◌&&◌, cond, List, [], ◌∷◌, length, drop, refl, nat_eq, nat_le, arith, Option, Some, None, Ok, Err}
use Rattle.std.specs.Str.Parse.{digits_value}
use Rattle.std.specs.Char.{is_ascii_digit}
use Rattle.nichols_field.specs.Field.{FieldValue, residue}
use Rattle.nichols_tensor.specs.Combination.{Term}
use Rattle.nichols_tensor.specs.declared.TheConstants.{WORD_LIMIT}
use Rattle.nichols_expression.specs.declared.TheConstants.{NUMBER_LIMIT, TERM_LIMIT}
use Rattle.nichols_expression.specs.Bytes.{space, star, dot, zero_digit, empty_byte, signed_term, comma, closing}
use Rattle.nichols_expression.specs.declared.signs.Sign.{Sign}
use Rattle.nichols_expression.specs.declared.signs.Sign.TheVariants.{Positive}
use Rattle.nichols_expression.specs.declared.faults.Cause.{Cause}
use Rattle.nichols_expression.specs.declared.faults.Cause.TheVariants.{Early, Byte, Letter, LongNumber, LongWord, Terms, Surplus}
use Rattle.nichols_expression.specs.Reader.{Step, map_step, fault, run_at, past_run, past_spaces, is_letter_run, at_dot, after_dot, after_letter, past_letter, at_run, letters_at, word_by, word_at, with_coefficient, bare_word, term_after_number, by_star, past_first_run, term_by, term_at, sign_of, Read, put_first, after_term, past_term, with_term, terms_at, is_empty, signed_by, zero_or_terms, expression_at, read_terms, then_step, past_mark, mark_at, number_by, number_at, pair_element, second_at, pair_at, word_after, opens_pair, term_opened}

-- what is left is an end of the text
pub data IsEndOf (left : List ℕ) : List ℕ → Type 0 where
  whole : IsEndOf left left
  later : {text : List ℕ} (byte : ℕ) → IsEndOf left text → IsEndOf left (byte ∷ text)

pub end_trans : (left rest text : List ℕ) → IsEndOf left rest → IsEndOf rest text → IsEndOf left text
end_trans left rest _ p whole = p
end_trans left rest _ p (later {text} byte q) = later byte (end_trans left rest text p q)

pub end-le : (left text : List ℕ) → IsEndOf left text → length left ≤ length text
end-le left _ whole = omega arith
end-le left _ (later {text} byte p) = omega (arith, end-le left text p)

pub end_is_drop : (left text : List ℕ) → IsEndOf left text → drop (length text - length left) text ≡ left
end_is_drop left _ whole =
    let none : length left - length left ≡ 0 = omega arith in
    rw none refl
end_is_drop left _ (later {text} byte p) =
    let more : suc (length text) - length left ≡ suc (length text - length left) = omega (arith, end-le left text p) in
    rw more (end_is_drop left text p)

pub spaces_end : (text : List ℕ) → IsEndOf (past_spaces text) text
unfolding past_spaces
spaces_end [] = whole
spaces_end (byte ∷ rest) = at (nat_eq byte space) (spaces_end rest)
  where
    at : (b : Bool) → IsEndOf (past_spaces rest) rest → IsEndOf (cond b (past_spaces rest) (byte ∷ rest)) (byte ∷ rest)
    at true p = later byte p
    at false p = whole

pub run_end : (text : List ℕ) → IsEndOf (past_run text) text
unfolding past_run
run_end [] = whole
run_end (byte ∷ rest) = at (is_ascii_digit byte) (run_end rest)
  where
    at : (b : Bool) → IsEndOf (past_run rest) rest → IsEndOf (cond b (past_run rest) (byte ∷ rest)) (byte ∷ rest)
    at true p = later byte p
    at false p = whole

-- what is left at the faults of a cause
abbrev pub IsLeftAt : Cause → List ℕ → Type 0
IsLeftAt Early left = length left ≡ 0
IsLeftAt Byte left = 0 < length left
IsLeftAt Letter left = 0 < length left
IsLeftAt LongNumber left = 0 < length left
IsLeftAt LongWord left = 0 < length left
IsLeftAt Terms left = 0 < length left
IsLeftAt Surplus left = ⊥

abbrev pub StopsIn : {X : Type 0} → List ℕ → Step X → Type 0
StopsIn text (Ok r) = IsEndOf r.left text
StopsIn text (Err e) = IsEndOf e.left text × IsLeftAt e.cause e.left

abbrev pub FaultsIn : List ℕ → Read → Type 0
FaultsIn text (Ok f) = Unit {0}
FaultsIn text (Err e) = IsEndOf e.left text × IsLeftAt e.cause e.left

stops_later : {X : Type 0} (rest text : List ℕ) (r : Step X) → IsEndOf rest text → StopsIn rest r → StopsIn text r
stops_later rest text (Ok r) p q = end_trans r.left rest text q p
stops_later rest text (Err e) p q = (end_trans e.left rest text q.0 p, q.1)

faults_later : (rest text : List ℕ) (r : Read) → IsEndOf rest text → FaultsIn rest r → FaultsIn text r
faults_later rest text (Ok f) p q = tt
faults_later rest text (Err e) p q = (end_trans e.left rest text q.0 p, q.1)

mapped_stops_in : {X Y : Type 0} (text : List ℕ) (f : X → Y) (r : Step X) → StopsIn text r → StopsIn text (map_step f r)
mapped_stops_in text f (Ok r) p = p
mapped_stops_in text f (Err e) p = p

-- ---- letters and words

-- a step that is taken at a byte
abbrev pub StopsWithin : {X : Type 0} → (List ℕ → Step X) → Type 0
StopsWithin step = (byte : ℕ) (rest : List ℕ) → StopsIn (byte ∷ rest) (step (byte ∷ rest))

at_dot_stops : (further : List ℕ → Step (List ℕ)) → StopsWithin further → (text : List ℕ) → StopsIn text (at_dot further text)
at_dot_stops further ih [] = (whole, refl)
at_dot_stops further ih (byte ∷ rest) = at (is_ascii_digit byte)
  where
    at : (b : Bool) → StopsIn (byte ∷ rest) (after_dot further b byte rest)
    at true = ih byte rest
    at false = (whole, omega arith)

past_letter_stops : (further : List ℕ → Step (List ℕ)) → StopsWithin further → (a : ℕ) (text : List ℕ) → StopsIn text (past_letter further a text)
past_letter_stops further ih a [] = whole
past_letter_stops further ih a (byte ∷ rest) = at (nat_eq byte dot)
  where
    at : (b : Bool) → StopsIn (byte ∷ rest) (after_letter further a b byte rest)
    at true = stops_later rest (byte ∷ rest) (map_step (λ w. a ∷ w) (at_dot further rest)) (later byte whole) (mapped_stops_in rest (λ w. a ∷ w) (at_dot further rest) (at_dot_stops further ih rest))
    at false = whole

letters_stop : (n room : ℕ) → StopsWithin (letters_at n room)
unfolding letters_at
letters_stop n zero byte rest = at (is_letter_run n (run_at (byte ∷ rest)))
  where
    at : (b : Bool) → StopsIn (byte ∷ rest) (at_run (fault LongWord) b (byte ∷ rest))
    at true = (whole, omega arith)
    at false = (whole, omega arith)
letters_stop n (suc room) byte rest = at (is_letter_run n (run_at (byte ∷ rest))) (letters_stop n room)
  where
    at : (b : Bool) → StopsWithin (letters_at n room) → StopsIn (byte ∷ rest) (at_run (λ t. past_letter (letters_at n room) (digits_value 10 (run_at t)) (past_run t)) b (byte ∷ rest))
    at true ih =
        stops_later (past_run (byte ∷ rest)) (byte ∷ rest) (past_letter (letters_at n room) (digits_value 10 (run_at (byte ∷ rest))) (past_run (byte ∷ rest))) (run_end (byte ∷ rest))
        (past_letter_stops (letters_at n room) ih (digits_value 10 (run_at (byte ∷ rest))) (past_run (byte ∷ rest)))
    at false ih = (whole, omega arith)

word_stops : (n : ℕ) (text : List ℕ) → StopsIn text (word_at n text)
unfolding word_at
word_stops n [] = (whole, refl)
word_stops n (byte ∷ rest) = at (is_ascii_digit byte) (nat_eq byte empty_byte)
  where
    at : (d e : Bool) → StopsIn (byte ∷ rest) (word_by n d e byte rest)
    at true e = letters_stop n WORD_LIMIT byte rest
    at false true = later byte whole
    at false false = (whole, omega arith)

-- ---- pairs of numbers

then_stops : {X Y : Type 0} (text : List ℕ) (r : Step X) (next : X → List ℕ → Step Y) → ((x : X) (left : List ℕ) → StopsIn left (next x left)) → StopsIn text r → StopsIn text (then_step r next)
then_stops text (Ok r) next further p = stops_later r.left text (next r.value r.left) p (further r.value r.left)
then_stops text (Err e) next further p = p

-- a step behind spaces
spaced_stops : {X : Type 0} (text : List ℕ) (r : Step X) → StopsIn (past_spaces text) r → StopsIn text r
spaced_stops text r p = stops_later (past_spaces text) text r (spaces_end text) p

mark_stops : (mark : ℕ) (text : List ℕ) → StopsIn text (mark_at mark text)
mark_stops mark [] = (whole, refl)
mark_stops mark (byte ∷ rest) = at (nat_eq byte mark)
  where
    at : (b : Bool) → StopsIn (byte ∷ rest) (past_mark b byte rest)
    at true = later byte whole
    at false = (whole, omega arith)

number_stops : (mark : ℕ) (text : List ℕ) → StopsIn text (number_at mark text)
unfolding number_at
number_stops mark [] = (whole, refl)
number_stops mark (byte ∷ rest) = at (is_ascii_digit byte) (nat_le (length (run_at (byte ∷ rest))) NUMBER_LIMIT)
  where
    at : (d s : Bool) → StopsIn (byte ∷ rest) (number_by mark d s (byte ∷ rest))
    at false s = (whole, omega arith)
    at true false = (whole, omega arith)
    at true true =
        let run = past_run (byte ∷ rest) in
        stops_later run (byte ∷ rest) (number_by mark true true (byte ∷ rest)) (run_end (byte ∷ rest))
        (mapped_stops_in run (λ _. digits_value 10 (run_at (byte ∷ rest))) (mark_at mark (past_spaces run)) (spaced_stops run (mark_at mark (past_spaces run)) (mark_stops mark (past_spaces run))))

spaced_number_stops : (mark : ℕ) (text : List ℕ) → StopsIn text (number_at mark (past_spaces text))
spaced_number_stops mark text = spaced_stops text (number_at mark (past_spaces text)) (number_stops mark (past_spaces text))

second_stops : (field : FieldValue) (u : ℕ) (text : List ℕ) → StopsIn text (second_at field u text)
second_stops field u text =
    then_stops text (number_at closing (past_spaces text)) (λ v left. map_step (λ _. pair_element field u v) (mark_at star (past_spaces left)))
    (λ v left. mapped_stops_in left (λ _. pair_element field u v) (mark_at star (past_spaces left)) (spaced_stops left (mark_at star (past_spaces left)) (mark_stops star (past_spaces left)))) (spaced_number_stops closing text)

pair_stops : (field : FieldValue) (text : List ℕ) → StopsIn text (pair_at field text)
unfolding pair_at
pair_stops field text = then_stops text (number_at comma (past_spaces text)) (second_at field) (second_stops field) (spaced_number_stops comma text)

-- ---- terms

word_after_stops : (n c : ℕ) (text : List ℕ) → StopsIn text (word_after n c text)
word_after_stops n c text = mapped_stops_in text (with_coefficient c) (word_at n (past_spaces text)) (spaced_stops text (word_at n (past_spaces text)) (word_stops n (past_spaces text)))

bare_stops : (n : ℕ) (text : List ℕ) → StopsIn text (bare_word n text)
bare_stops n text = mapped_stops_in text (with_coefficient 1) (word_at n text) (word_stops n text)

numbered_stops : (field : FieldValue) (n : ℕ) (text after : List ℕ) → 0 < length text → IsEndOf after text → (b : Bool) → StopsIn text (term_after_number field n b text after)
numbered_stops field n text after some p false = (whole, some)
numbered_stops field n text after some p true =
    let number : List ℕ → Term = with_coefficient (residue field (pos (digits_value 10 (run_at text)))) in
    stops_later (past_spaces after) text (map_step number (word_at n (past_spaces after))) (end_trans (past_spaces after) after text (spaces_end after) p)
    (mapped_stops_in (past_spaces after) number (word_at n (past_spaces after)) (word_stops n (past_spaces after)))

first_run_stops : (field : FieldValue) (n : ℕ) (text rest : List ℕ) → 0 < length text → IsEndOf rest text → StopsIn text (past_first_run field n text rest)
first_run_stops field n text [] some p = bare_stops n text
first_run_stops field n text (byte ∷ after) some p = at (nat_eq byte star)
  where
    at : (b : Bool) → StopsIn text (by_star field n b text after)
    at true = numbered_stops field n text after some (end_trans after (byte ∷ after) text (later byte whole) p) (nat_le (length (run_at text)) NUMBER_LIMIT)
    at false = bare_stops n text

term_stops : (field : FieldValue) (n byte : ℕ) (rest : List ℕ) → StopsIn (byte ∷ rest) (term_at field n byte rest)
unfolding term_at
term_stops field n byte rest = opened (opens_pair field byte)
  where
    at : (b : Bool) → StopsIn (byte ∷ rest) (term_by field n b (byte ∷ rest))
    at true =
        let run = past_run (byte ∷ rest) in
        first_run_stops field n (byte ∷ rest) (past_spaces run) (omega arith) (end_trans (past_spaces run) run (byte ∷ rest) (spaces_end run) (run_end (byte ∷ rest)))
    at false = bare_stops n (byte ∷ rest)

    opened : (b : Bool) → StopsIn (byte ∷ rest) (term_opened field n b byte rest)
    opened true =
        stops_later rest (byte ∷ rest) (then_step (pair_at field rest) (word_after n)) (later byte whole)
        (then_stops rest (pair_at field rest) (word_after n) (word_after_stops n) (pair_stops field rest))
    opened false = at (is_ascii_digit byte)

-- ---- expressions

put_faults : (text : List ℕ) (t : Term) (r : Read) → FaultsIn text r → FaultsIn text (put_first t r)
put_faults text t (Ok f) p = tt
put_faults text t (Err e) p = p

-- the reading of terms, which stops in the text
abbrev pub FaultsWithin : (Sign → List ℕ → Read) → Type 0
FaultsWithin further = (sign : Sign) (text : List ℕ) → FaultsIn text (further sign text)

past_term_faults : (further : Sign → List ℕ → Read) → FaultsWithin further → (t : Term) (text : List ℕ) → FaultsIn text (past_term further t text)
past_term_faults further ih t [] = tt
past_term_faults further ih t (byte ∷ rest) = at (sign_of byte)
  where
    at : (o : Option Sign) → FaultsIn (byte ∷ rest) (after_term further t o byte rest)
    at None = (whole, omega arith)
    at (Some sign) = faults_later (past_spaces rest) (byte ∷ rest) (put_first t (further sign (past_spaces rest))) (later byte (spaces_end rest)) (put_faults (past_spaces rest) t (further sign (past_spaces rest)) (ih sign (past_spaces rest)))

with_term_faults : (field : FieldValue) (further : Sign → List ℕ → Read) → FaultsWithin further → (sign : Sign) (text : List ℕ) (r : Step Term) → StopsIn text r → FaultsIn text (with_term field further sign r)
with_term_faults field further ih sign text (Err e) p = p
with_term_faults field further ih sign text (Ok r) p =
    let t = signed_term field sign r.value in
    faults_later (past_spaces r.left) text (past_term further t (past_spaces r.left)) (end_trans (past_spaces r.left) r.left text (spaces_end r.left) p) (past_term_faults further ih t (past_spaces r.left))

terms_fault : (field : FieldValue) (n room : ℕ) → FaultsWithin (terms_at field n room)
unfolding terms_at
terms_fault field n zero sign [] = (whole, refl)
terms_fault field n (suc room) sign [] = (whole, refl)
terms_fault field n zero sign (byte ∷ rest) = (whole, omega arith)
terms_fault field n (suc room) sign (byte ∷ rest) = with_term_faults field (terms_at field n room) (terms_fault field n room) sign (byte ∷ rest) (term_at field n byte rest) (term_stops field n byte rest)

signed_faults : (field : FieldValue) (n byte : ℕ) (rest : List ℕ) (o : Option Sign) → FaultsIn (byte ∷ rest) (signed_by field n o byte rest)
signed_faults field n byte rest None = terms_fault field n TERM_LIMIT Positive (byte ∷ rest)
signed_faults field n byte rest (Some sign) = faults_later (past_spaces rest) (byte ∷ rest) (terms_at field n TERM_LIMIT sign (past_spaces rest)) (later byte (spaces_end rest)) (terms_fault field n TERM_LIMIT sign (past_spaces rest))

expression_faults : (field : FieldValue) (n : ℕ) (text : List ℕ) → FaultsIn text (expression_at field n text)
expression_faults field n [] = (whole, refl)
expression_faults field n (byte ∷ rest) = at (nat_eq byte zero_digit && is_empty (past_spaces rest))
  where
    at : (b : Bool) → FaultsIn (byte ∷ rest) (zero_or_terms field n b byte rest)
    at true = tt
    at false = signed_faults field n byte rest (sign_of byte)

-- a fault of a text stands at an end of it
pub read_terms_fault : (field : FieldValue) (n : ℕ) (text : List ℕ) → FaultsIn text (read_terms field n text)
unfolding read_terms
read_terms_fault field n text = faults_later (past_spaces text) text (expression_at field n (past_spaces text)) (spaces_end text) (expression_faults field n (past_spaces text))
