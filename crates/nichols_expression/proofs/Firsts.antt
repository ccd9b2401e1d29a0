-- Where the reading of a text stops, what is behind can be completed, unless a word or an expression is full there.
use Rattle.std.proofs.Common.{◌≡◌, ℕ, zero, suc, ◌+◌, ◌-◌, ◌<◌, ◌≤◌, pos, Bool, true, false, ◌&&◌, List, [], ◌∷◌, ◌++◌, length, decimal, refl, sym, ◌∙◌, ap, ap₂, subst, nat_eq, nat_le, arith, Option, Some, None, Ok, Err, append_assoc, append-nil, inl, inr}
use Rattle.std.specs.Prelude.{◌⊎◌}
use Rattle.std.specs.Char.{is_ascii_digit}
use Rattle.std.specs.Str.Parse.{IsNumeral, digits_value}
use Rattle.std.proofs.lemmas.Bool.{and_parts, cases_lt}
use Rattle.std.proofs.lemmas.Bool.Decides.{nat_tests, Decides-eqb}
use Rattle.std.proofs.lemmas.List.{length-append}
use Rattle.nichols_field.specs.Field.{FieldValue, residue, joined, is_extended}
use Rattle.nichols_tensor.specs.Combination.{Term, Combination}
use Rattle.nichols_tensor.specs.declared.TheConstants.{WORD_LIMIT}
use Rattle.nichols_expression.specs.declared.TheConstants.{NUMBER_LIMIT, TERM_LIMIT}
use Rattle.nichols_expression.specs.Bytes.{space, opening, closing, comma, star, dot, zero_digit, empty_byte, signed_term}
use Rattle.nichols_expression.specs.declared.signs.Sign.{Sign}
use Rattle.nichols_expression.specs.declared.signs.Sign.TheVariants.{Positive}
use Rattle.nichols_expression.specs.Grammar.{IsSpaces, no_spaces, one_more, IsSign, IsLetterText, letter, IsLetters, last_letter, next_letter, IsWordText, empty_word, letters, IsNumber, number, IsCoefficient, one_number, pair, IsTermText, alone, multiple, IsTerms, last_term, next_term, IsSignedTerms, unsigned, after_sign, IsExpression, nothing, terms}
use Rattle.nichols_expression.specs.Faults.{EndsInFull}
use Rattle.nichols_expression.specs.Laws.{CanBeCompleted, FaultsAreFirst}
use Rattle.nichols_expression.specs.Reader.{FaultAt, Fault, Step, map_step, then_step, fault, run_at, past_run, past_spaces, is_letter_run, at_dot, after_dot, after_letter, past_letter, at_run, letters_at, word_by, word_at, with_coefficient, bare_word, term_after_number, by_star, past_first_run, past_mark, mark_at, number_by, number_at, pair_element, second_at, pair_at, word_after, opens_pair, term_opened, term_by, term_at, sign_of, Read, put_first, after_term, past_term, with_term, terms_at, is_empty, signed_by, zero_or_terms, expression_at, read_terms, value_or_fault, expression_of}
use Rattle.nichols_expression.specs.declared.faults.Cause.TheVariants.{LongWord}
use Rattle.nichols_expression.proofs.Runs.{run_split, spaces_split}
use Rattle.nichols_expression.proofs.Sound.{Reads, IsBehindSpaces, IsMarkedNumber, IsPairBody, IsPairEnd, letter_by_test, pair_sound, spaced_number_sound, run_is_numeral, term_sound, TellsSign, sign_told}

-- where a step stops, H holds of what is behind
abbrev HaltsAt : {X : Type 0} → (List ℕ → Type 0) → List ℕ → Step X → Type 0
HaltsAt H text (Ok r) = Unit {0}
HaltsAt H text (Err e) = (front : List ℕ) × (text ≡ front ++ e.left) × H front

abbrev ReadHalts : (List ℕ → Type 0) → List ℕ → Read → Type 0
ReadHalts H text (Ok f) = Unit {0}
ReadHalts H text (Err e) = (front : List ℕ) × (text ≡ front ++ e.left) × H front

halts_later : {X : Type 0} (H K : List ℕ → Type 0) (pre rest text : List ℕ) (r : Step X) → text ≡ pre ++ rest → ((front : List ℕ) → H front → K (pre ++ front)) → HaltsAt H rest r → HaltsAt K text r
halts_later H K pre rest text (Ok r) is make h = tt
halts_later H K pre rest text (Err e) is make h = (pre ++ h.0, is ∙ ap (λ l. pre ++ l) h.1 ∙ sym (append_assoc pre h.0 e.left), make h.0 h.2)

halts_mapped : {X Y : Type 0} (H : List ℕ → Type 0) (text : List ℕ) (f : X → Y) (r : Step X) → HaltsAt H text r → HaltsAt H text (map_step f r)
halts_mapped H text f (Ok r) h = tt
halts_mapped H text f (Err e) h = h

halts_weaker : {X : Type 0} (H K : List ℕ → Type 0) (text : List ℕ) (r : Step X) → ((front : List ℕ) → H front → K front) → HaltsAt H text r → HaltsAt K text r
halts_weaker H K text (Ok r) make h = tt
halts_weaker H K text (Err e) make h = (h.0, h.1, make h.0 h.2)

-- ---- letters

data LettersHalt (n room : ℕ) (front : List ℕ) : Type 0 where
  more_letters : (more w : List ℕ) → IsLetters n (front ++ more) w → length w ≤ room → LettersHalt n room front
  full_word : (short w : List ℕ) → front ≡ short ++ dot ∷ [] → IsLetters n short w → length w ≡ room → LettersHalt n room front

one_letter : (n : ℕ) → 1 ≤ n → IsLetters n (decimal 1) (1 ∷ [])
one_letter n least = last_letter (letter (omega arith, least))

two_letters : (n : ℕ) → 1 ≤ n → (run : List ℕ) (a : ℕ) → IsLetterText n run a → IsLetters n ((run ++ dot ∷ []) ++ decimal 1) (a ∷ 1 ∷ [])
two_letters n least run a l = subst (λ t. IsLetters n t (a ∷ 1 ∷ [])) (sym (append_assoc run (dot ∷ []) (decimal 1))) (next_letter l (one_letter n least))

behind_letter : (n k : ℕ) (run : List ℕ) (a : ℕ) → IsLetterText n run a → (front : List ℕ) → LettersHalt n k front → LettersHalt n (suc k) (run ++ dot ∷ front)
behind_letter n k run a l front (more_letters more w p fits) =
    more_letters more (a ∷ w) (subst (λ t. IsLetters n t (a ∷ w)) (sym (append_assoc run (dot ∷ front) more)) (next_letter l p)) (omega (arith, fits))
behind_letter n k run a l front (full_word short w split p full) =
    full_word (run ++ dot ∷ short) (a ∷ w) (ap (λ t. run ++ dot ∷ t) split ∙ sym (append_assoc run (dot ∷ short) (dot ∷ []))) (next_letter l p) (omega (arith, full))

-- a letter where no more fit
no_room_halts : (n : ℕ) (run : List ℕ) (a : ℕ) → IsLetterText n run a → (rest : List ℕ) → HaltsAt (LettersHalt n 1) (run ++ dot ∷ rest) (map_step (λ w. a ∷ w) (at_dot (letters_at n 0) rest))
unfolding letters_at
no_room_halts n run a l rest = at rest
  where
    full : LettersHalt n 1 (run ++ dot ∷ [])
    full = full_word run (a ∷ []) refl (last_letter l) refl

    here : (left : List ℕ) → run ++ dot ∷ left ≡ (run ++ dot ∷ []) ++ left
    here left = sym (append_assoc run (dot ∷ []) left)

    by_run : (b : Bool) (text : List ℕ) → HaltsAt (LettersHalt n 1) (run ++ dot ∷ text) (map_step (λ w. a ∷ w) (at_run (fault LongWord) b text))
    by_run true text = (run ++ dot ∷ [], here text, full)
    by_run false text = (run ++ dot ∷ [], here text, full)

    by_digit : (b : Bool) (byte : ℕ) (more : List ℕ) → HaltsAt (LettersHalt n 1) (run ++ dot ∷ byte ∷ more) (map_step (λ w. a ∷ w) (after_dot (letters_at n 0) b byte more))
    by_digit true byte more = by_run (is_letter_run n (run_at (byte ∷ more))) (byte ∷ more)
    by_digit false byte more = (run ++ dot ∷ [], here (byte ∷ more), full)

    at : (text : List ℕ) → HaltsAt (LettersHalt n 1) (run ++ dot ∷ text) (map_step (λ w. a ∷ w) (at_dot (letters_at n 0) text))
    at [] = (run ++ dot ∷ [], here [], full)
    at (byte ∷ more) = by_digit (is_ascii_digit byte) byte more

room_halts : (n : ℕ) → 1 ≤ n → (k : ℕ) (run : List ℕ) (a : ℕ) → IsLetterText n run a → ((t : List ℕ) → HaltsAt (LettersHalt n (suc k)) t (letters_at n (suc k) t)) → (rest : List ℕ) →
    HaltsAt (LettersHalt n (suc (suc k))) (run ++ dot ∷ rest) (map_step (λ w. a ∷ w) (at_dot (letters_at n (suc k)) rest))
room_halts n least k run a l ih rest = at rest
  where
    more : LettersHalt n (suc (suc k)) (run ++ dot ∷ [])
    more = more_letters (decimal 1) (a ∷ 1 ∷ []) (two_letters n least run a l) (omega arith)

    here : (left : List ℕ) → run ++ dot ∷ left ≡ (run ++ dot ∷ []) ++ left
    here left = sym (append_assoc run (dot ∷ []) left)

    by_digit : (b : Bool) (byte : ℕ) (rest : List ℕ) → HaltsAt (LettersHalt n (suc (suc k))) (run ++ dot ∷ byte ∷ rest) (map_step (λ w. a ∷ w) (after_dot (letters_at n (suc k)) b byte rest))
    by_digit true byte rest =
        halts_mapped (LettersHalt n (suc (suc k))) (run ++ dot ∷ byte ∷ rest) (λ w. a ∷ w) (letters_at n (suc k) (byte ∷ rest))
        (halts_later (LettersHalt n (suc k)) (LettersHalt n (suc (suc k))) (run ++ dot ∷ []) (byte ∷ rest) (run ++ dot ∷ byte ∷ rest) (letters_at n (suc k) (byte ∷ rest)) (here (byte ∷ rest))
        (λ front h. subst (LettersHalt n (suc (suc k))) (here front) (behind_letter n (suc k) run a l front h)) (ih (byte ∷ rest)))
    by_digit false byte rest = (run ++ dot ∷ [], here (byte ∷ rest), more)

    at : (text : List ℕ) → HaltsAt (LettersHalt n (suc (suc k))) (run ++ dot ∷ text) (map_step (λ w. a ∷ w) (at_dot (letters_at n (suc k)) text))
    at [] = (run ++ dot ∷ [], here [], more)
    at (byte ∷ rest) = by_digit (is_ascii_digit byte) byte rest

-- what comes after a letter, by what comes after its dot
past_letter_halts : (n k : ℕ) (further : List ℕ → Step (List ℕ)) (run : List ℕ) (a : ℕ) → ((rest : List ℕ) → HaltsAt (LettersHalt n k) (run ++ dot ∷ rest) (map_step (λ w. a ∷ w) (at_dot further rest))) →
    (rest : List ℕ) → HaltsAt (LettersHalt n k) (run ++ rest) (past_letter further a rest)
past_letter_halts n k further run a dotted [] = tt
past_letter_halts n k further run a dotted (byte ∷ rest) = at (nat_eq byte dot) refl
  where
    at : (b : Bool) → nat_eq byte dot ≡ b → HaltsAt (LettersHalt n k) (run ++ byte ∷ rest) (after_letter further a b byte rest)
    at false e = tt
    at true e = subst (λ c. HaltsAt (LettersHalt n k) (run ++ c ∷ rest) (map_step (λ w. a ∷ w) (at_dot further rest))) (sym ((Decides-eqb byte dot).0 e)) (dotted rest)

by_letter : (n : ℕ) → 1 ≤ n → (k : ℕ) (text : List ℕ) → ((a : ℕ) → IsLetterText n (run_at text) a → HaltsAt (LettersHalt n (suc k)) (run_at text ++ past_run text) (past_letter (letters_at n k) a (past_run text))) →
    HaltsAt (LettersHalt n (suc k)) text (letters_at n (suc k) text)
unfolding letters_at
by_letter n least k text past = at (is_letter_run n (run_at text)) refl
  where
    at : (b : Bool) → is_letter_run n (run_at text) ≡ b → HaltsAt (LettersHalt n (suc k)) text (at_run (λ t. past_letter (letters_at n k) (digits_value 10 (run_at t)) (past_run t)) b text)
    at false e = ([], refl, more_letters (decimal 1) (1 ∷ []) (one_letter n least) (omega arith))
    at true e =
        subst (λ t. HaltsAt (LettersHalt n (suc k)) t (past_letter (letters_at n k) (digits_value 10 (run_at text)) (past_run text))) (sym (run_split text)) (past (digits_value 10 (run_at text)) (letter_by_test n (run_at text) e))

letters_halt : (n : ℕ) → 1 ≤ n → (k : ℕ) (text : List ℕ) → HaltsAt (LettersHalt n (suc k)) text (letters_at n (suc k) text)
letters_halt n least zero text = by_letter n least 0 text (λ a l. past_letter_halts n 1 (letters_at n 0) (run_at text) a (no_room_halts n (run_at text) a l) (past_run text))
letters_halt n least (suc k) text =
    by_letter n least (suc k) text (λ a l. past_letter_halts n (suc (suc k)) (letters_at n (suc k)) (run_at text) a (room_halts n least k (run_at text) a l (letters_halt n least k)) (past_run text))

-- ---- words

-- what is behind can be completed so that P holds, or ends with the dot behind a full word
data Halts (n : ℕ) (P : List ℕ → Type 0) (front : List ℕ) : Type 0 where
  completed : (more : List ℕ) → P (front ++ more) → Halts n P front
  at_last_dot : (before short w : List ℕ) → front ≡ before ++ (short ++ dot ∷ []) → IsLetters n short w → length w ≡ WORD_LIMIT → P (before ++ short) → Halts n P front

halts_behind : (n : ℕ) (P Q : List ℕ → Type 0) (pre : List ℕ) → ((t : List ℕ) → P t → Q (pre ++ t)) → (front : List ℕ) → Halts n P front → Halts n Q (pre ++ front)
halts_behind n P Q pre make front (completed more p) = completed more (subst Q (sym (append_assoc pre front more)) (make (front ++ more) p))
halts_behind n P Q pre make front (at_last_dot before short w split is full p) =
    at_last_dot (pre ++ before) short w (ap (λ t. pre ++ t) split ∙ sym (append_assoc pre before (short ++ dot ∷ []))) is full (subst Q (sym (append_assoc pre before short)) (make (before ++ short) p))

abbrev IsSomeWord : ℕ → List ℕ → Type 0
IsSomeWord n t = (w : List ℕ) × IsWordText n t w

word_of_letters : (n : ℕ) (front : List ℕ) → LettersHalt n WORD_LIMIT front → Halts n (IsSomeWord n) front
word_of_letters n front (more_letters more w p fits) = completed more (w, letters p fits)
word_of_letters n front (full_word short w split p full) = at_last_dot [] short w split p full (w, letters p (omega (arith, full)))

-- the empty word completes where nothing is behind
empty_completes : (n : ℕ) → Halts n (IsSomeWord n) []
empty_completes n = completed (empty_byte ∷ []) ([], empty_word)

word_halts : (n : ℕ) → 1 ≤ n → (text : List ℕ) → HaltsAt (Halts n (IsSomeWord n)) text (word_at n text)
unfolding word_at
word_halts n least [] = ([], refl, empty_completes n)
word_halts n least (byte ∷ rest) = at (is_ascii_digit byte) (nat_eq byte empty_byte)
  where
    at : (d e : Bool) → HaltsAt (Halts n (IsSomeWord n)) (byte ∷ rest) (word_by n d e byte rest)
    at true e = halts_weaker (LettersHalt n WORD_LIMIT) (Halts n (IsSomeWord n)) (byte ∷ rest) (letters_at n WORD_LIMIT (byte ∷ rest)) (word_of_letters n) (letters_halt n least 59 (byte ∷ rest))
    at false true = tt
    at false false = ([], refl, empty_completes n)

-- ---- terms

abbrev IsSomeTerm : FieldValue → ℕ → List ℕ → Type 0
IsSomeTerm field n t = (u : Term) × IsTermText field n t u

-- a term can be made of what is behind
abbrev TermHalts : FieldValue → ℕ → List ℕ → Type 0
TermHalts field n front = Halts n (IsSomeTerm field n) front

bare_is_term : (field : FieldValue) (n : ℕ) (t : List ℕ) → IsSomeWord n t → IsSomeTerm field n t
bare_is_term field n t h = (with_coefficient 1 h.0, alone h.1)

empty_term : (field : FieldValue) (n : ℕ) → TermHalts field n []
empty_term field n = completed (empty_byte ∷ []) (with_coefficient 1 [], alone empty_word)

bare_halts : (field : FieldValue) (n : ℕ) → 1 ≤ n → (text : List ℕ) → HaltsAt (TermHalts field n) text (bare_word n text)
bare_halts field n least text =
    halts_mapped (TermHalts field n) text (with_coefficient 1) (word_at n text)
    (halts_weaker (Halts n (IsSomeWord n)) (TermHalts field n) text (word_at n text) (halts_behind n (IsSomeWord n) (IsSomeTerm field n) [] (bare_is_term field n)) (word_halts n least text))

-- a word that is due behind a coefficient, its star and spaces
word_after_halts : (field : FieldValue) (n c : ℕ) → 1 ≤ n → (front : List ℕ) → IsCoefficient field front c → (before : List ℕ) → IsSpaces before → (text : List ℕ) →
    HaltsAt (TermHalts field n) (front ++ (before ++ star ∷ text)) (word_after n c text)
word_after_halts field n c least front is before gap text =
    let second = spaces_split text in
    let pre : List ℕ = front ++ before ++ star ∷ second.0 in
    let split : front ++ (before ++ star ∷ text) ≡ pre ++ past_spaces text = ap (λ t. front ++ (before ++ star ∷ t)) second.1 ∙ sym (append_assoc (front ++ before) (star ∷ second.0) (past_spaces text) ∙ append_assoc front before (star ∷ (second.0 ++ past_spaces text))) in
    halts_mapped (TermHalts field n) (front ++ (before ++ star ∷ text)) (with_coefficient c) (word_at n (past_spaces text))
    (halts_later (Halts n (IsSomeWord n)) (TermHalts field n) pre (past_spaces text) (front ++ (before ++ star ∷ text)) (word_at n (past_spaces text)) split
    (halts_behind n (IsSomeWord n) (IsSomeTerm field n) pre (λ t h. (with_coefficient c h.0, multiple is gap second.2 h.1))) (word_halts n least (past_spaces text)))

numbered_halts : (field : FieldValue) (n : ℕ) → 1 ≤ n → (text after : List ℕ) → IsNumeral 10 (run_at text) → (gap : List ℕ) → past_run text ≡ gap ++ star ∷ after → IsSpaces gap → (b : Bool) → nat_le (length (run_at text)) NUMBER_LIMIT ≡ b →
    HaltsAt (TermHalts field n) text (term_after_number field n b text after)
numbered_halts field n least text after digits gap split spaced false e = ([], refl, empty_term field n)
numbered_halts field n least text after digits gap split spaced true e =
    let short : length (run_at text) ≤ NUMBER_LIMIT = grind (arith, nat_tests, e) in
    subst (λ t. HaltsAt (TermHalts field n) t (term_after_number field n true text after)) (sym (run_split text ∙ ap (λ t. run_at text ++ t) split))
    (word_after_halts field n (residue field (pos (digits_value 10 (run_at text)))) least (run_at text) (one_number (number digits short)) gap spaced after)

first_run_halts : (field : FieldValue) (n : ℕ) → 1 ≤ n → (text rest gap : List ℕ) → IsNumeral 10 (run_at text) → past_run text ≡ gap ++ rest → IsSpaces gap → HaltsAt (TermHalts field n) text (past_first_run field n text rest)
first_run_halts field n least text [] gap digits split spaced = bare_halts field n least text
first_run_halts field n least text (byte ∷ after) gap digits split spaced = at (nat_eq byte star) refl
  where
    at : (b : Bool) → nat_eq byte star ≡ b → HaltsAt (TermHalts field n) text (by_star field n b text after)
    at true e =
        let star_is : past_run text ≡ gap ++ star ∷ after = split ∙ ap (λ c. gap ++ c ∷ after) ((Decides-eqb byte star).0 e) in
        numbered_halts field n least text after digits gap star_is spaced (nat_le (length (run_at text)) NUMBER_LIMIT) refl
    at false e = bare_halts field n least text

-- ---- pairs of numbers

-- P holds of the text with something behind it
abbrev Goes : (List ℕ → Type 0) → List ℕ → Type 0
Goes P front = (more : List ℕ) × P (front ++ more)

zero_number : IsNumber (zero_digit ∷ []) 0
zero_number = number (some, (below, tt)) (omega arith)
  where
    some : 0 < 1
    some = omega arith

    below : 0 < 10
    below = omega arith

goes_shorter : (P : List ℕ → Type 0) (front back : List ℕ) → Goes P (front ++ back) → Goes P front
goes_shorter P front back h = (back ++ h.0, subst P (append_assoc front back h.0) h.1)

mark_halts : (H : List ℕ → Type 0) (mark : ℕ) (pre text : List ℕ) → H pre → HaltsAt H (pre ++ text) (mark_at mark text)
mark_halts H mark pre [] h = (pre, refl, h)
mark_halts H mark pre (byte ∷ rest) h = at (nat_eq byte mark)
  where
    at : (b : Bool) → HaltsAt H (pre ++ byte ∷ rest) (past_mark b byte rest)
    at true = tt
    at false = (pre, refl, h)

-- a number and its mark, where each number at the place can be gone on with
number_halts : (P : List ℕ → Type 0) (mark : ℕ) (pre : List ℕ) → ((digits gap : List ℕ) (v : ℕ) → IsNumber digits v → IsSpaces gap → Goes P (pre ++ (digits ++ gap))) → (text : List ℕ) → HaltsAt (Goes P) (pre ++ text) (number_at mark text)
unfolding number_at
number_halts P mark pre goes [] = (pre, refl, goes_shorter P pre (zero_digit ∷ []) (goes (zero_digit ∷ []) [] 0 zero_number no_spaces))
number_halts P mark pre goes (byte ∷ rest) = at (is_ascii_digit byte) (nat_le (length (run_at (byte ∷ rest))) NUMBER_LIMIT) refl refl
  where
    here : Goes P pre
    here = goes_shorter P pre (zero_digit ∷ []) (goes (zero_digit ∷ []) [] 0 zero_number no_spaces)

    at : (d s : Bool) → is_ascii_digit byte ≡ d → nat_le (length (run_at (byte ∷ rest))) NUMBER_LIMIT ≡ s → HaltsAt (Goes P) (pre ++ byte ∷ rest) (number_by mark d s (byte ∷ rest))
    at false s e q = (pre, refl, here)
    at true false e q = (pre, refl, here)
    at true true e q =
        let text : List ℕ = byte ∷ rest in
        let run : List ℕ = run_at text in
        let gap = spaces_split (past_run text) in
        let short : length run ≤ NUMBER_LIMIT = grind (arith, nat_tests, q) in
        let split : pre ++ text ≡ (pre ++ (run ++ gap.0)) ++ past_spaces (past_run text) =
        ap (λ t. pre ++ t) (run_split text ∙ ap (λ t. run ++ t) gap.1 ∙ sym (append_assoc run gap.0 (past_spaces (past_run text)))) ∙ sym (append_assoc pre (run ++ gap.0) (past_spaces (past_run text))) in
        halts_mapped (Goes P) (pre ++ text) (λ _. digits_value 10 run) (mark_at mark (past_spaces (past_run text)))
        (subst (λ t. HaltsAt (Goes P) t (mark_at mark (past_spaces (past_run text)))) (sym split)
        (mark_halts (Goes P) mark (pre ++ (run ++ gap.0)) (past_spaces (past_run text)) (goes run gap.0 (digits_value 10 run) (number (run_is_numeral byte rest e) short) gap.2)))

-- the same behind spaces
spaced_number_halts : (P : List ℕ → Type 0) (mark : ℕ) (pre : List ℕ) → ((one digits gap : List ℕ) (v : ℕ) → IsSpaces one → IsNumber digits v → IsSpaces gap → Goes P (pre ++ (one ++ (digits ++ gap)))) → (text : List ℕ) →
    HaltsAt (Goes P) (pre ++ text) (number_at mark (past_spaces text))
spaced_number_halts P mark pre goes text =
    let one = spaces_split text in
    subst (λ t. HaltsAt (Goes P) t (number_at mark (past_spaces text))) (sym (ap (λ t. pre ++ t) one.1 ∙ sym (append_assoc pre one.0 (past_spaces text))))
    (number_halts P mark (pre ++ one.0) (λ digits gap v is spaced. subst (Goes P) (sym (append_assoc pre one.0 (digits ++ gap))) (goes one.0 digits gap v one.2 is spaced)) (past_spaces text))

-- one step and then another, where both halt so
then_halts : {X Y : Type 0} (H : List ℕ → Type 0) (P : List ℕ → X → Type 0) (pre text : List ℕ) (r : Step X) (next : X → List ℕ → Step Y) → HaltsAt H (pre ++ text) r → Reads P text r →
    ((front left : List ℕ) (x : X) → P front x → HaltsAt H ((pre ++ front) ++ left) (next x left)) → HaltsAt H (pre ++ text) (then_step r next)
then_halts H P pre text (Err e) next h reads further = h
then_halts H P pre text (Ok r) next h reads further =
    subst (λ t. HaltsAt H t (next r.value r.left)) (sym (ap (λ t. pre ++ t) reads.1 ∙ sym (append_assoc pre reads.0 r.left))) (further reads.0 r.left r.value reads.2)

-- each pair with its star and the empty word is a term
pair_makes : (field : FieldValue) (n : ℕ) → is_extended field ≡ true → (one first two three second four gap : List ℕ) (u v : ℕ) → IsSpaces one → IsNumber first u → IsSpaces two → IsSpaces three → IsNumber second v → IsSpaces four → IsSpaces gap →
    IsSomeTerm field n (opening ∷ (one ++ (first ++ (two ++ comma ∷ (three ++ (second ++ (four ++ closing ∷ (gap ++ star ∷ empty_byte ∷ []))))))))
pair_makes field n extended one first two three second four gap u v a b c d e f g =
    let whole : List ℕ = opening ∷ (one ++ (first ++ (two ++ comma ∷ (three ++ (second ++ (four ++ closing ∷ (gap ++ star ∷ empty_byte ∷ []))))))) in
    let written : (opening ∷ one ++ first ++ two ++ comma ∷ three ++ second ++ four ++ closing ∷ []) ++ gap ++ star ∷ [] ++ empty_byte ∷ [] ≡ whole = simp append_assoc in
    let t : Term = with_coefficient (joined field (pos u) (pos v)) [] in
    (t, subst (λ l. IsTermText field n l t) written (multiple (pair extended a b c d e f) g no_spaces empty_word))

-- the beginning of a pair up to its comma, and up to its end
abbrev FirstPart : List ℕ → ℕ → Type 0
FirstPart front u = IsBehindSpaces (IsMarkedNumber comma) front u

abbrev SecondPart : List ℕ → ℕ → Type 0
SecondPart front v = IsBehindSpaces (IsMarkedNumber closing) front v

first_goes : (field : FieldValue) (n : ℕ) → is_extended field ≡ true → (one digits gap : List ℕ) (u : ℕ) → IsSpaces one → IsNumber digits u → IsSpaces gap → Goes (IsSomeTerm field n) ((opening ∷ []) ++ (one ++ (digits ++ gap)))
first_goes field n extended one digits gap u a b c =
    let more : List ℕ = comma ∷ zero_digit ∷ closing ∷ star ∷ empty_byte ∷ [] in
    let same : opening ∷ (one ++ (digits ++ (gap ++ more))) ≡ ((opening ∷ []) ++ (one ++ (digits ++ gap))) ++ more = simp append_assoc in
    (more, subst (IsSomeTerm field n) same (pair_makes field n extended one digits gap [] (zero_digit ∷ []) [] [] u 0 a b c no_spaces zero_number no_spaces no_spaces))

second_goes : (field : FieldValue) (n : ℕ) → is_extended field ≡ true → (front : List ℕ) (u : ℕ) → FirstPart front u → (three digits gap : List ℕ) (v : ℕ) → IsSpaces three → IsNumber digits v → IsSpaces gap →
    Goes (IsSomeTerm field n) (((opening ∷ []) ++ front) ++ (three ++ (digits ++ gap)))
second_goes field n extended front u h three digits gap v a b c =
    let one : List ℕ = h.0 in
    let first : List ℕ = h.4.0 in
    let two : List ℕ = h.4.1 in
    let more : List ℕ = closing ∷ star ∷ empty_byte ∷ [] in
    let front_is : front ≡ one ++ (first ++ (two ++ comma ∷ [])) = h.2 ∙ ap (λ l. one ++ l) h.4.2 in
    let grouped : opening ∷ (one ++ (first ++ (two ++ comma ∷ (three ++ (digits ++ (gap ++ more)))))) ≡ (((opening ∷ []) ++ (one ++ (first ++ (two ++ comma ∷ [])))) ++ (three ++ (digits ++ gap))) ++ more = simp append_assoc in
    let same : opening ∷ (one ++ (first ++ (two ++ comma ∷ (three ++ (digits ++ (gap ++ more)))))) ≡ (((opening ∷ []) ++ front) ++ (three ++ (digits ++ gap))) ++ more =
    grouped ∙ ap (λ l. (((opening ∷ []) ++ l) ++ (three ++ (digits ++ gap))) ++ more) (sym front_is) in
    (more, subst (IsSomeTerm field n) same (pair_makes field n extended one first two three digits gap [] u v h.3 h.4.3 h.4.4 a b c no_spaces))

star_goes : (field : FieldValue) (n : ℕ) → is_extended field ≡ true → (front : List ℕ) (u : ℕ) → FirstPart front u → (second : List ℕ) (v : ℕ) → SecondPart second v → (gap : List ℕ) → IsSpaces gap →
    Goes (IsSomeTerm field n) ((((opening ∷ []) ++ front) ++ second) ++ gap)
star_goes field n extended front u h second v k gap a =
    let one : List ℕ = h.0 in
    let first : List ℕ = h.4.0 in
    let two : List ℕ = h.4.1 in
    let three : List ℕ = k.0 in
    let digits : List ℕ = k.4.0 in
    let four : List ℕ = k.4.1 in
    let more : List ℕ = star ∷ empty_byte ∷ [] in
    let front_is : front ≡ one ++ (first ++ (two ++ comma ∷ [])) = h.2 ∙ ap (λ l. one ++ l) h.4.2 in
    let second_is : second ≡ three ++ (digits ++ (four ++ closing ∷ [])) = k.2 ∙ ap (λ l. three ++ l) k.4.2 in
    let grouped : opening ∷ (one ++ (first ++ (two ++ comma ∷ (three ++ (digits ++ (four ++ closing ∷ (gap ++ more))))))) ≡ ((((opening ∷ []) ++ (one ++ (first ++ (two ++ comma ∷ [])))) ++ (three ++ (digits ++ (four ++ closing ∷ [])))) ++ gap) ++ more = simp append_assoc in
    let same : opening ∷ (one ++ (first ++ (two ++ comma ∷ (three ++ (digits ++ (four ++ closing ∷ (gap ++ more))))))) ≡ ((((opening ∷ []) ++ front) ++ second) ++ gap) ++ more =
    grouped ∙ ap₂ (λ l r. ((((opening ∷ []) ++ l) ++ r) ++ gap) ++ more) (sym front_is) (sym second_is) in
    (more, subst (IsSomeTerm field n) same (pair_makes field n extended one first two three digits four gap u v h.3 h.4.3 h.4.4 k.3 k.4.3 k.4.4 a))

element_halts : (field : FieldValue) (n : ℕ) → is_extended field ≡ true → (front : List ℕ) (u : ℕ) → FirstPart front u → (second left : List ℕ) (v : ℕ) → SecondPart second v →
    HaltsAt (Goes (IsSomeTerm field n)) ((((opening ∷ []) ++ front) ++ second) ++ left) (map_step (λ _. pair_element field u v) (mark_at star (past_spaces left)))
element_halts field n extended front u h second left v k =
    let pre : List ℕ = ((opening ∷ []) ++ front) ++ second in
    let gap = spaces_split left in
    halts_mapped (Goes (IsSomeTerm field n)) (pre ++ left) (λ _. pair_element field u v) (mark_at star (past_spaces left))
    (subst (λ t. HaltsAt (Goes (IsSomeTerm field n)) t (mark_at star (past_spaces left))) (sym (ap (λ t. pre ++ t) gap.1 ∙ sym (append_assoc pre gap.0 (past_spaces left))))
    (mark_halts (Goes (IsSomeTerm field n)) star (pre ++ gap.0) (past_spaces left) (star_goes field n extended front u h second v k gap.0 gap.2)))

second_halts : (field : FieldValue) (n : ℕ) → is_extended field ≡ true → (front left : List ℕ) (u : ℕ) → FirstPart front u → HaltsAt (Goes (IsSomeTerm field n)) (((opening ∷ []) ++ front) ++ left) (second_at field u left)
second_halts field n extended front left u h =
    then_halts (Goes (IsSomeTerm field n)) (IsBehindSpaces (IsMarkedNumber closing)) ((opening ∷ []) ++ front) left (number_at closing (past_spaces left)) (λ v rest. map_step (λ _. pair_element field u v) (mark_at star (past_spaces rest)))
    (spaced_number_halts (IsSomeTerm field n) closing ((opening ∷ []) ++ front) (second_goes field n extended front u h) left) (spaced_number_sound closing left)
    (λ second rest v k. element_halts field n extended front u h second rest v k)

pair_halts : (field : FieldValue) (n : ℕ) → is_extended field ≡ true → (rest : List ℕ) → HaltsAt (Goes (IsSomeTerm field n)) ((opening ∷ []) ++ rest) (pair_at field rest)
unfolding pair_at
pair_halts field n extended rest =
    then_halts (Goes (IsSomeTerm field n)) (IsBehindSpaces (IsMarkedNumber comma)) (opening ∷ []) rest (number_at comma (past_spaces rest)) (second_at field)
    (spaced_number_halts (IsSomeTerm field n) comma (opening ∷ []) (first_goes field n extended) rest) (spaced_number_sound comma rest)
    (λ front left u h. second_halts field n extended front left u h)

behind_pair_halts : (field : FieldValue) (n : ℕ) → 1 ≤ n → is_extended field ≡ true → (front left : List ℕ) (c : ℕ) → IsPairBody field front c → HaltsAt (TermHalts field n) (((opening ∷ []) ++ front) ++ left) (word_after n c left)
behind_pair_halts field n least extended front left c h =
    let first : FirstPart h.0 h.2 = h.4 in
    let rest : IsPairEnd field h.2 h.1 c = h.5 in
    let second : SecondPart rest.0 rest.2 = rest.4 in
    let value : c ≡ pair_element field h.2 rest.2 = rest.5.0 in
    let before : List ℕ = rest.5.1.0 in
    let text : List ℕ = opening ∷ first.0 ++ first.4.0 ++ first.4.1 ++ comma ∷ second.0 ++ second.4.0 ++ second.4.1 ++ closing ∷ [] in
    let is : IsCoefficient field text c = subst (IsCoefficient field text) (sym value) (pair extended first.3 first.4.3 first.4.4 second.3 second.4.3 second.4.4) in
    let front_is : front ≡ (first.0 ++ (first.4.0 ++ (first.4.1 ++ comma ∷ []))) ++ ((second.0 ++ (second.4.0 ++ (second.4.1 ++ closing ∷ []))) ++ (before ++ star ∷ [])) =
    h.3 ∙ ap₂ (λ (l r : List ℕ). l ++ r) (first.2 ∙ ap (λ l. first.0 ++ l) first.4.2) (rest.3 ∙ ap₂ (λ (l r : List ℕ). l ++ r) (second.2 ∙ ap (λ l. second.0 ++ l) second.4.2) (rest.5.1.2 ∙ ap (λ l. before ++ l) rest.5.1.4)) in
    let grouped : ((opening ∷ []) ++ ((first.0 ++ (first.4.0 ++ (first.4.1 ++ comma ∷ []))) ++ ((second.0 ++ (second.4.0 ++ (second.4.1 ++ closing ∷ []))) ++ (before ++ star ∷ [])))) ++ left ≡ text ++ (before ++ star ∷ left) = simp append_assoc in
    subst (λ t. HaltsAt (TermHalts field n) t (word_after n c left)) (sym (ap (λ l. ((opening ∷ []) ++ l) ++ left) front_is ∙ grouped)) (word_after_halts field n c least text is before rest.5.1.3 left)

pair_term_halts : (field : FieldValue) (n : ℕ) → 1 ≤ n → is_extended field ≡ true → (rest : List ℕ) → HaltsAt (TermHalts field n) ((opening ∷ []) ++ rest) (then_step (pair_at field rest) (word_after n))
pair_term_halts field n least extended rest =
    then_halts (TermHalts field n) (IsPairBody field) (opening ∷ []) rest (pair_at field rest) (word_after n)
    (halts_weaker (Goes (IsSomeTerm field n)) (TermHalts field n) ((opening ∷ []) ++ rest) (pair_at field rest) (λ front h. completed h.0 h.1) (pair_halts field n extended rest)) (pair_sound field rest)
    (λ front left c h. behind_pair_halts field n least extended front left c h)

term_halts : (field : FieldValue) (n : ℕ) → 1 ≤ n → (byte : ℕ) (rest : List ℕ) → HaltsAt (TermHalts field n) (byte ∷ rest) (term_at field n byte rest)
unfolding term_at
term_halts field n least byte rest = opened (opens_pair field byte) refl
  where
    at : (b : Bool) → is_ascii_digit byte ≡ b → HaltsAt (TermHalts field n) (byte ∷ rest) (term_by field n b (byte ∷ rest))
    at true e =
        let gap = spaces_split (past_run (byte ∷ rest)) in
        first_run_halts field n least (byte ∷ rest) (past_spaces (past_run (byte ∷ rest))) gap.0 (run_is_numeral byte rest e) gap.1 gap.2
    at false e = bare_halts field n least (byte ∷ rest)

    opened : (b : Bool) → opens_pair field byte ≡ b → HaltsAt (TermHalts field n) (byte ∷ rest) (term_opened field n b byte rest)
    opened false e = at (is_ascii_digit byte) refl
    opened true e =
        let tests = and_parts (nat_eq byte opening) (is_extended field) e in
        subst (λ b. HaltsAt (TermHalts field n) (b ∷ rest) (then_step (pair_at field rest) (word_after n))) (sym ((Decides-eqb byte opening).0 tests.0)) (pair_term_halts field n least tests.1 rest)

-- ---- the terms of an expression

-- at most so many terms, and spaces
abbrev IsTermsFront : FieldValue → ℕ → ℕ → Sign → List ℕ → Type 0
IsTermsFront field n room sign t = (body back : List ℕ) × (f : Combination) × (t ≡ body ++ back) × IsTerms field n sign body f × (length f ≤ room) × IsSpaces back

data TermsHalt (field : FieldValue) (n room : ℕ) (sign : Sign) (front : List ℕ) : Type 0 where
  by_word : Halts n (IsTermsFront field n room sign) front → TermsHalt field n room sign front
  at_last_sign : (body between after : List ℕ) (byte : ℕ) (next : Sign) (f : Combination) → front ≡ body ++ (between ++ byte ∷ after) → IsTerms field n sign body f → length f ≡ room → IsSpaces between → IsSign byte next → IsSpaces after →
      TermsHalt field n room sign front

read_put : (H : List ℕ → Type 0) (text : List ℕ) (t : Term) (r : Read) → ReadHalts H text r → ReadHalts H text (put_first t r)
read_put H text t (Ok f) h = tt
read_put H text t (Err e) h = h

read_later : (H K : List ℕ → Type 0) (pre rest text : List ℕ) (r : Read) → text ≡ pre ++ rest → ((front : List ℕ) → H front → K (pre ++ front)) → ReadHalts H rest r → ReadHalts K text r
read_later H K pre rest text (Ok f) is make h = tt
read_later H K pre rest text (Err e) is make h = (pre ++ h.0, is ∙ ap (λ l. pre ++ l) h.1 ∙ sym (append_assoc pre h.0 e.left), make h.0 h.2)

one_term_front : (field : FieldValue) (n room : ℕ) (sign : Sign) (t : List ℕ) → IsSomeTerm field n t → IsTermsFront field n (suc room) sign t
one_term_front field n room sign t h = (t, [], signed_term field sign h.0 ∷ [], sym (append-nil t), last_term h.1, omega arith, no_spaces)

-- the reading of more terms behind a term and a sign
abbrev Continues : FieldValue → ℕ → ℕ → Type 0
Continues field n room =
    (sign next : Sign) (front between after : List ℕ) (byte : ℕ) (t : Term) → IsTermText field n front t → IsSpaces between → IsSign byte next → IsSpaces after → (text : List ℕ) →
    ReadHalts (TermsHalt field n (suc room) sign) (front ++ (between ++ byte ∷ (after ++ text))) (put_first (signed_term field sign t) (terms_at field n room next text))

none_left : (field : FieldValue) (n : ℕ) → Continues field n 0
unfolding terms_at
none_left field n sign next front between after byte t p gap is spaced text = at text
  where
    full : TermsHalt field n 1 sign (front ++ (between ++ byte ∷ after))
    full = at_last_sign front between after byte next (signed_term field sign t ∷ []) refl (last_term p) refl gap is spaced

    here : (left : List ℕ) → front ++ (between ++ byte ∷ (after ++ left)) ≡ (front ++ (between ++ byte ∷ after)) ++ left
    here left = sym (append_assoc front (between ++ byte ∷ after) left ∙ ap (λ l. front ++ l) (append_assoc between (byte ∷ after) left))

    at : (text : List ℕ) → ReadHalts (TermsHalt field n 1 sign) (front ++ (between ++ byte ∷ (after ++ text))) (put_first (signed_term field sign t) (terms_at field n 0 next text))
    at [] = (front ++ (between ++ byte ∷ after), here [], full)
    at (b ∷ rest) = (front ++ (between ++ byte ∷ after), here (b ∷ rest), full)

some_left : (field : FieldValue) (n k : ℕ) → ((sign : Sign) (text : List ℕ) → ReadHalts (TermsHalt field n (suc k) sign) text (terms_at field n (suc k) sign text)) → Continues field n (suc k)
some_left field n k ih sign next front between after byte t p gap is spaced text =
    let pre : List ℕ = front ++ between ++ byte ∷ after in
    let split : front ++ (between ++ byte ∷ (after ++ text)) ≡ pre ++ text = sym (append_assoc (front ++ between) (byte ∷ after) text ∙ append_assoc front between (byte ∷ (after ++ text))) in
    let whole : List ℕ = front ++ (between ++ byte ∷ (after ++ text)) in
    read_put (TermsHalt field n (suc (suc k)) sign) whole (signed_term field sign t) (terms_at field n (suc k) next text)
    (read_later (TermsHalt field n (suc k) next) (TermsHalt field n (suc (suc k)) sign) pre text whole (terms_at field n (suc k) next text) split behind (ih next text))
  where
    behind : (rest : List ℕ) → TermsHalt field n (suc k) next rest → TermsHalt field n (suc (suc k)) sign ((front ++ between ++ byte ∷ after) ++ rest)
    behind rest (by_word h) =
        by_word (halts_behind n (IsTermsFront field n (suc k) next) (IsTermsFront field n (suc (suc k)) sign) (front ++ between ++ byte ∷ after)
        (λ l q. (
          front ++ between ++ byte ∷ after ++ q.0,
          q.1,
          signed_term field sign t ∷ q.2,
          ap (λ m. (front ++ between ++ byte ∷ after) ++ m) q.3 ∙ sym (append_assoc (front ++ between ++ byte ∷ after) q.0 q.1),
          next_term p gap is spaced q.4,
          omega (arith, q.5),
          q.6,
        )) rest h)
    behind rest (at_last_sign body gap2 after2 byte2 next2 f split q full a b c) =
        at_last_sign (front ++ between ++ byte ∷ after ++ body) gap2 after2 byte2 next2 (signed_term field sign t ∷ f)
        (ap (λ m. (front ++ between ++ byte ∷ after) ++ m) split ∙ sym (append_assoc (front ++ between ++ byte ∷ after) body (gap2 ++ byte2 ∷ after2))) (next_term p gap is spaced q) (omega (arith, full)) a b c

past_term_halts : (field : FieldValue) (n room : ℕ) → Continues field n room → (sign : Sign) (front between : List ℕ) (t : Term) → IsTermText field n front t → IsSpaces between → (rest : List ℕ) →
    ReadHalts (TermsHalt field n (suc room) sign) (front ++ (between ++ rest)) (past_term (terms_at field n room) (signed_term field sign t) rest)
past_term_halts field n room continues sign front between t p gap [] = tt
past_term_halts field n room continues sign front between t p gap (byte ∷ rest) = at (sign_of byte) (sign_told byte)
  where
    at : (o : Option Sign) → TellsSign byte o → ReadHalts (TermsHalt field n (suc room) sign) (front ++ (between ++ byte ∷ rest)) (after_term (terms_at field n room) (signed_term field sign t) o byte rest)
    at None told =
        let whole : IsTermsFront field n (suc room) sign ((front ++ between) ++ []) = (front, between, signed_term field sign t ∷ [], append-nil (front ++ between), last_term p, omega arith, gap) in
        (front ++ between, sym (append_assoc front between (byte ∷ rest)), by_word (completed [] whole))
    at (Some next) told =
        let second = spaces_split rest in
        subst (λ l. ReadHalts (TermsHalt field n (suc room) sign) (front ++ (between ++ byte ∷ l)) (put_first (signed_term field sign t) (terms_at field n room next (past_spaces rest)))) (sym second.1)
        (continues sign next front between second.0 byte t p gap told second.2 (past_spaces rest))

with_term_halts : (field : FieldValue) (n room : ℕ) → Continues field n room → (sign : Sign) (text : List ℕ) (r : Step Term) → HaltsAt (TermHalts field n) text r → Reads (IsTermText field n) text r →
    ReadHalts (TermsHalt field n (suc room) sign) text (with_term field (terms_at field n room) sign r)
with_term_halts field n room continues sign text (Err e) h reads =
    (h.0, h.1, by_word (halts_behind n (IsSomeTerm field n) (IsTermsFront field n (suc room) sign) [] (one_term_front field n room sign) h.0 h.2))
with_term_halts field n room continues sign text (Ok r) h reads =
    let gap = spaces_split r.left in
    subst (λ l. ReadHalts (TermsHalt field n (suc room) sign) l (past_term (terms_at field n room) (signed_term field sign r.value) (past_spaces r.left))) (sym (reads.1 ∙ ap (λ l. reads.0 ++ l) gap.1))
    (past_term_halts field n room continues sign reads.0 gap.0 r.value reads.2 gap.2 (past_spaces r.left))

terms_halt_by : (field : FieldValue) (n : ℕ) → 1 ≤ n → (room : ℕ) → Continues field n room → (sign : Sign) (text : List ℕ) → ReadHalts (TermsHalt field n (suc room) sign) text (terms_at field n (suc room) sign text)
unfolding terms_at
terms_halt_by field n least room continues sign [] = ([], refl, by_word (completed (empty_byte ∷ []) (one_term_front field n room sign (empty_byte ∷ []) (with_coefficient 1 [], alone empty_word))))
terms_halt_by field n least room continues sign (byte ∷ rest) = with_term_halts field n room continues sign (byte ∷ rest) (term_at field n byte rest) (term_halts field n least byte rest) (term_sound field n byte rest)

terms_halt : (field : FieldValue) (n : ℕ) → 1 ≤ n → (room : ℕ) (sign : Sign) (text : List ℕ) → ReadHalts (TermsHalt field n (suc room) sign) text (terms_at field n (suc room) sign text)
terms_halt field n least zero = terms_halt_by field n least 0 (none_left field n)
terms_halt field n least (suc k) = terms_halt_by field n least (suc k) (some_left field n k (terms_halt field n least k))

-- ---- expressions

abbrev IsSomeText : FieldValue → ℕ → List ℕ → Type 0
IsSomeText field n t = (f : Combination) × IsExpression field n t f

data ExpressionHalt (field : FieldValue) (n : ℕ) (front : List ℕ) : Type 0 where
  by_words : Halts n (IsSomeText field n) front → ExpressionHalt field n front
  by_sign : (lead body between after : List ℕ) (byte : ℕ) (next : Sign) (f : Combination) → front ≡ (lead ++ body ++ between) ++ byte ∷ after → IsSpaces lead → IsSignedTerms field n body f → length f ≡ TERM_LIMIT →
      IsSpaces between → IsSign byte next → IsSpaces after → ExpressionHalt field n front

expression_of_terms : (field : FieldValue) (n : ℕ) (lead mid : List ℕ) (sign : Sign) → IsSpaces lead → ((body : List ℕ) (f : Combination) → IsTerms field n sign body f → IsSignedTerms field n (mid ++ body) f) →
    (front : List ℕ) → TermsHalt field n TERM_LIMIT sign front → ExpressionHalt field n ((lead ++ mid) ++ front)
expression_of_terms field n lead mid sign gap made front (by_word h) = by_words (halts_behind n (IsTermsFront field n TERM_LIMIT sign) (IsSomeText field n) (lead ++ mid) make front h)
  where
    make : (t : List ℕ) → IsTermsFront field n TERM_LIMIT sign t → IsSomeText field n ((lead ++ mid) ++ t)
    make t q =
        let grouped : lead ++ (mid ++ q.0) ++ q.1 ≡ (lead ++ mid) ++ (q.0 ++ q.1) = simp append_assoc in
        (q.2, subst (λ l. IsExpression field n l q.2) (grouped ∙ ap (λ l. (lead ++ mid) ++ l) (sym q.3)) (terms gap (made q.0 q.2 q.4) q.5 q.6))
expression_of_terms field n lead mid sign gap made front (at_last_sign body between after byte next f split q full a b c) =
    let grouped : (lead ++ mid) ++ (body ++ (between ++ byte ∷ after)) ≡ (lead ++ (mid ++ body) ++ between) ++ byte ∷ after = simp append_assoc in
    by_sign lead (mid ++ body) between after byte next f (ap (λ l. (lead ++ mid) ++ l) split ∙ grouped) gap (made body f q) full a b c

expression_halts : (field : FieldValue) (n : ℕ) → 1 ≤ n → (lead text : List ℕ) → IsSpaces lead → ReadHalts (ExpressionHalt field n) (lead ++ text) (expression_at field n text)
expression_halts field n least lead [] gap = (lead, refl, by_words (completed (zero_digit ∷ []) ([], nothing gap no_spaces)))
expression_halts field n least lead (byte ∷ rest) gap = at (nat_eq byte zero_digit && is_empty (past_spaces rest))
  where
    by_option : (o : Option Sign) → TellsSign byte o → ReadHalts (ExpressionHalt field n) (lead ++ byte ∷ rest) (signed_by field n o byte rest)
    by_option None told =
        read_later (TermsHalt field n TERM_LIMIT Positive) (ExpressionHalt field n) (lead ++ []) (byte ∷ rest) (lead ++ byte ∷ rest) (terms_at field n TERM_LIMIT Positive (byte ∷ rest)) (ap (λ l. l ++ byte ∷ rest) (sym (append-nil lead)))
        (expression_of_terms field n lead [] Positive gap (λ body f p. unsigned p)) (terms_halt field n least 999 Positive (byte ∷ rest))
    by_option (Some sign) told =
        let second = spaces_split rest in
        let split : lead ++ byte ∷ rest ≡ (lead ++ byte ∷ second.0) ++ past_spaces rest = ap (λ l. lead ++ byte ∷ l) second.1 ∙ sym (append_assoc lead (byte ∷ second.0) (past_spaces rest)) in
        read_later (TermsHalt field n TERM_LIMIT sign) (ExpressionHalt field n) (lead ++ byte ∷ second.0) (past_spaces rest) (lead ++ byte ∷ rest) (terms_at field n TERM_LIMIT sign (past_spaces rest)) split
        (expression_of_terms field n lead (byte ∷ second.0) sign gap (λ body f p. after_sign told second.2 p)) (terms_halt field n least 999 sign (past_spaces rest))

    at : (b : Bool) → ReadHalts (ExpressionHalt field n) (lead ++ byte ∷ rest) (zero_or_terms field n b byte rest)
    at true = tt
    at false = by_option (sign_of byte) (sign_told byte)

read_terms_halt : (field : FieldValue) (n : ℕ) → 1 ≤ n → (text : List ℕ) → ReadHalts (ExpressionHalt field n) text (read_terms field n text)
unfolding read_terms
read_terms_halt field n least text =
    let gap = spaces_split text in
    subst (λ t. ReadHalts (ExpressionHalt field n) t (expression_at field n (past_spaces text))) (sym gap.1) (expression_halts field n least gap.0 (past_spaces text) gap.2)

-- ---- shorter fronts

-- of two fronts of a text the longer goes on with what the shorter has behind
longer_front : (a b c d : List ℕ) → a ++ b ≡ c ++ d → length a ≤ length c → (k : List ℕ) × (c ≡ a ++ k) × (b ≡ k ++ d)
longer_front [] b c d is fits = (c, refl, is)
longer_front (x ∷ a) b [] d is fits = absurd (omega (arith, fits))
longer_front (x ∷ a) b (y ∷ c) d is fits =
    let head : y ≡ x = cc in
    let tail : a ++ b ≡ c ++ d = cc in
    let h = longer_front a b c d tail (omega (arith, fits)) in
    (h.0, ap₂ (λ (z : ℕ) (l : List ℕ). z ∷ l) head h.1, h.2)

spaces_in_front : (a b t : List ℕ) → IsSpaces t → t ≡ a ++ b → IsSpaces a
spaces_in_front [] b t p is = no_spaces
spaces_in_front (x ∷ a) b _ no_spaces is = absurd cc
spaces_in_front (x ∷ a) b _ (one_more {rest} p) is =
    let head : space ≡ x = cc in
    let tail : rest ≡ a ++ b = cc in
    subst (λ y. IsSpaces (y ∷ a)) head (one_more (spaces_in_front a b rest p tail))

-- what can be completed, or is full, with each front of it
cut_words : (field : FieldValue) (n : ℕ) (whole front rest : List ℕ) → whole ≡ front ++ rest → Halts n (IsSomeText field n) whole → Goes (IsSomeText field n) front ⊎ EndsInFull field n front
cut_words field n whole front rest is (completed more p) = inl (rest ++ more, subst (IsSomeText field n) (ap (λ l. l ++ more) is ∙ append_assoc front rest more) p)
cut_words field n whole front [] is (at_last_dot before short w split letters_are full p) =
    inr (inl (record { before = before; letters = short; word = w; split = sym (is ∙ append-nil front) ∙ split ∙ sym (append_assoc before short (dot ∷ [])); is = letters_are; full = full }))
cut_words field n whole front (b ∷ rest) is (at_last_dot before short w split letters_are full p) =
    let same : front ++ b ∷ rest ≡ (before ++ short) ++ dot ∷ [] = sym is ∙ split ∙ sym (append_assoc before short (dot ∷ [])) in
    let fits : length front ≤ length (before ++ short) = omega (arith, ap length same, length-append front (b ∷ rest), length-append (before ++ short) (dot ∷ [])) in
    let h = longer_front front (b ∷ rest) (before ++ short) (dot ∷ []) same fits in
    inl (h.0, subst (IsSomeText field n) h.1 p)

cut_sign : (field : FieldValue) (n : ℕ) (front rest lead body between after : List ℕ) (byte : ℕ) (next : Sign) (f : Combination) → (lead ++ body ++ between) ++ byte ∷ after ≡ front ++ rest → IsSpaces lead → IsSignedTerms field n body f →
    length f ≡ TERM_LIMIT → IsSpaces between → IsSign byte next → IsSpaces after → Goes (IsSomeText field n) front ⊎ EndsInFull field n front
cut_sign field n front rest lead body between after byte next f is gap are full spaced signed blank =
    elim (cases_lt (length (lead ++ body ++ between)) (length front)) [
      | inl more ↦ let h = longer_front (lead ++ body ++ between) (byte ∷ after) front rest is (omega (arith, more)) in behind h.0 h.1 h.2 (omega (arith, more, ap length h.1, length-append (lead ++ body ++ between) h.0))
      | inr less ↦ let h = longer_front front rest (lead ++ body ++ between) (byte ∷ after) (sym is) less in inl (h.0, (f, subst (λ l. IsExpression field n l f) h.1 (terms gap are (omega (arith, full)) spaced)))
    ]
  where
    behind : (k : List ℕ) → front ≡ (lead ++ body ++ between) ++ k → byte ∷ after ≡ k ++ rest → 0 < length k → Goes (IsSomeText field n) front ⊎ EndsInFull field n front
    behind [] split same some = absurd (omega (arith, some))
    behind (b ∷ k) split same some =
        let head : b ≡ byte = cc in
        let tail : after ≡ k ++ rest = cc in
        inr (inr (record {
          before = lead;
          body = body;
          between = between;
          byte = byte;
          sign = next;
          after = k;
          terms = f;
          split = split ∙ ap (λ c. (lead ++ body ++ between) ++ c ∷ k) head;
          gap = gap;
          are = are;
          spaced = spaced;
          signed = signed;
          blank = spaces_in_front k rest after blank tail;
          full = full;
        }))

cut : (field : FieldValue) (n : ℕ) (whole front rest : List ℕ) → whole ≡ front ++ rest → ExpressionHalt field n whole → Goes (IsSomeText field n) front ⊎ EndsInFull field n front
cut field n whole front rest is (by_words h) = cut_words field n whole front rest is h
cut field n whole front rest is (by_sign lead body between after byte next f split gap are full spaced signed blank) = cut_sign field n front rest lead body between after byte next f (sym split ∙ is) gap are full spaced signed blank

pub faults_are_first : FaultsAreFirst
unfolding expression_of
faults_are_first braid is order text fault h front back split before = at (read_terms braid.field braid.letters text) (read_terms_halt braid.field braid.letters is.least text) h
  where
    told : FaultAt → Fault
    told e = record { place = length text + 1 - length e.left; cause = e.cause }

    at : (r : Read) → ReadHalts (ExpressionHalt braid.field braid.letters) text r → value_or_fault braid.field order text r ≡ Err fault → CanBeCompleted braid front ⊎ EndsInFull braid.field braid.letters front
    at (Ok f) halts h = absurd cc
    at (Err e) halts h =
        let same : told e ≡ fault = cc in
        let place : length text + 1 - length e.left ≡ fault.place = ap (λ x. x.place) same in
        let sizes : length text ≡ length (halts.0 ++ e.left) = ap length halts.1 in
        let fits : length front ≤ length halts.0 = omega (arith, before, place, sizes, length-append halts.0 e.left) in
        let longer = longer_front front back halts.0 e.left (sym split ∙ halts.1) fits in
        cut braid.field braid.letters halts.0 front longer.0 longer.1 halts.2
