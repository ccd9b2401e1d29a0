-- What is read is in the grammar.
use Rattle.std.proofs.Common.{◌≡◌, ℕ, zero, suc, ◌<◌, ◌≤◌, pos, Bool, true, false, ◌&&◌, cond, List, [], ◌∷◌, ◌++◌, length, decimal, refl, sym, ◌∙◌, ap, subst, nat_eq, nat_le, bytes_eq, arith, Option, Some, None, Ok, Err, append_assoc, append-nil}
use Rattle.std.proofs.lemmas.Bool.{and_parts}
use Rattle.std.specs.Str.Parse.{IsNumeral, digits_value}
use Rattle.std.proofs.lemmas.Bool.Decides.{nat_tests, Decides-eqb}
use Rattle.std.proofs.lemmas.Slice.Eq.{bytes_eq-Decides}
use Rattle.nichols_field.specs.Field.{FieldValue, residue, joined, is_extended}
use Rattle.nichols_tensor.specs.Combination.{Term, Combination}
use Rattle.nichols_tensor.specs.declared.TheConstants.{WORD_LIMIT}
use Rattle.nichols_expression.specs.declared.TheConstants.{NUMBER_LIMIT, TERM_LIMIT}
use Rattle.nichols_expression.specs.Bytes.{opening, closing, comma, star, plus_byte, minus_byte, dot, zero_digit, empty_byte, signed_term}
use Rattle.nichols_expression.specs.declared.signs.Sign.{Sign}
use Rattle.nichols_expression.specs.declared.signs.Sign.TheVariants.{Positive, Reversed}
use Rattle.nichols_expression.specs.Grammar.{IsSpaces, IsSign, plus_sign, minus_sign, IsLetterText, letter, IsLetters, last_letter, next_letter, IsWordText, empty_word, letters, IsNumber, number, one_number, pair, IsTermText, alone, multiple, IsTerms, last_term, next_term, IsSignedTerms, unsigned, after_sign, IsExpression, nothing, terms}
use Rattle.std.specs.Char.{is_ascii_digit}
use Rattle.nichols_expression.specs.Reader.{Step, map_step, then_step, fault, past_mark, mark_at, number_by, number_at, pair_element, second_at, pair_at, word_after, opens_pair, term_opened, run_at, past_run, past_spaces, is_letter_run, at_dot, after_dot, after_letter, past_letter, at_run, letters_at, word_by, word_at, with_coefficient, bare_word, term_after_number, by_star, past_first_run, term_by, term_at, sign_of, Read, put_first, after_term, past_term, with_term, terms_at, is_empty, signed_by, zero_or_terms, expression_at, read_terms}
use Rattle.nichols_expression.specs.declared.faults.Cause.TheVariants.{LongWord}
use Rattle.nichols_expression.proofs.Runs.{run_split, run_is_digits, run_begins, SplitsSpaces, spaces_split}

-- where a step reads something, it read a front of the text of which P holds
abbrev pub Reads : {X : Type 0} → (List ℕ → X → Type 0) → List ℕ → Step X → Type 0
Reads P text (Ok r) = (front : List ℕ) × (text ≡ front ++ r.left) × P front r.value
Reads P text (Err e) = Unit {0}

pub reads_mapped : {X Y : Type 0} (P : List ℕ → X → Type 0) (Q : List ℕ → Y → Type 0) (f : X → Y) (wrap : List ℕ → List ℕ) (whole text : List ℕ) (r : Step X) →
    ((front left : List ℕ) → text ≡ front ++ left → whole ≡ wrap front ++ left) → ((front : List ℕ) (x : X) → P front x → Q (wrap front) (f x)) → Reads P text r → Reads Q whole (map_step f r)
reads_mapped P Q f wrap whole text (Ok r) split make h = (wrap h.0, split h.0 r.left h.1, make h.0 r.value h.2)
reads_mapped P Q f wrap whole text (Err e) split make h = tt

pub reads_weaker : {X : Type 0} (P Q : List ℕ → X → Type 0) (text : List ℕ) (r : Step X) → ((front : List ℕ) (x : X) → P front x → Q front x) → Reads P text r → Reads Q text r
reads_weaker P Q text (Ok r) weaken h = (h.0, h.1, weaken h.0 r.value h.2)
reads_weaker P Q text (Err e) weaken h = tt

-- ---- letters

-- what holds of a run that is a letter
pub record LetterFacts (n : ℕ) (run : List ℕ) : Type 0 where
  pub low : 1 ≤ digits_value 10 run
  pub high : digits_value 10 run ≤ n
  pub same : run ≡ decimal (digits_value 10 run)

pub letter_facts : (n : ℕ) (run : List ℕ) → is_letter_run n run ≡ true → LetterFacts n run
letter_facts n run h =
    let second = and_parts (nat_le 1 (digits_value 10 run) && nat_le (digits_value 10 run) n) (bytes_eq run (decimal (digits_value 10 run))) h in
    let first = and_parts (nat_le 1 (digits_value 10 run)) (nat_le (digits_value 10 run) n) second.0 in
    record {
      low = grind (arith, nat_tests, first.0);
      high = grind (arith, nat_tests, first.1);
      same = (bytes_eq-Decides run (decimal (digits_value 10 run))).0 second.1;
    }

pub letter_by_test : (n : ℕ) (run : List ℕ) → is_letter_run n run ≡ true → IsLetterText n run (digits_value 10 run)
letter_by_test n run h =
    let facts = letter_facts n run h in
    subst (λ t. IsLetterText n t (digits_value 10 run)) (sym facts.same) (letter (facts.low, facts.high))

-- at most so many letters
abbrev pub IsLettersWithin : ℕ → ℕ → List ℕ → List ℕ → Type 0
IsLettersWithin n room text w = IsLetters n text w × (length w ≤ room)

one_read : (n room : ℕ) (run rest : List ℕ) (a : ℕ) → IsLetterText n run a → Reads (IsLettersWithin n (suc room)) (run ++ rest) (Ok (record { value = a ∷ []; left = rest }))
one_read n room run rest a l = (run, refl, (last_letter l, omega arith))

at_dot_sound : (n room : ℕ) (further : List ℕ → Step (List ℕ)) → ((t : List ℕ) → Reads (IsLettersWithin n room) t (further t)) → (run rest : List ℕ) (a : ℕ) → IsLetterText n run a →
    Reads (IsLettersWithin n (suc room)) (run ++ dot ∷ rest) (map_step (λ w. a ∷ w) (at_dot further rest))
at_dot_sound n room further ih run [] a l = tt
at_dot_sound n room further ih run (c ∷ rest) a l = at (is_ascii_digit c)
  where
    at : (b : Bool) → Reads (IsLettersWithin n (suc room)) (run ++ dot ∷ c ∷ rest) (map_step (λ w. a ∷ w) (after_dot further b c rest))
    at true =
        reads_mapped (IsLettersWithin n room) (IsLettersWithin n (suc room)) (λ w. a ∷ w) (λ front. run ++ dot ∷ front) (run ++ dot ∷ c ∷ rest) (c ∷ rest) (further (c ∷ rest))
        (λ front left e. ap (λ t. run ++ dot ∷ t) e ∙ sym (append_assoc run (dot ∷ front) left)) (λ front w p. (next_letter l p.0, omega (arith, p.1))) (ih (c ∷ rest))
    at false = tt

past_letter_sound : (n room : ℕ) (further : List ℕ → Step (List ℕ)) → ((t : List ℕ) → Reads (IsLettersWithin n room) t (further t)) → (run rest : List ℕ) (a : ℕ) → IsLetterText n run a →
    Reads (IsLettersWithin n (suc room)) (run ++ rest) (past_letter further a rest)
past_letter_sound n room further ih run [] a l = one_read n room run [] a l
past_letter_sound n room further ih run (byte ∷ rest) a l = at (nat_eq byte dot) refl
  where
    at : (b : Bool) → nat_eq byte dot ≡ b → Reads (IsLettersWithin n (suc room)) (run ++ byte ∷ rest) (after_letter further a b byte rest)
    at false e = one_read n room run (byte ∷ rest) a l
    at true e =
        subst (λ c. Reads (IsLettersWithin n (suc room)) (run ++ c ∷ rest) (map_step (λ w. a ∷ w) (at_dot further rest)))
        (sym ((Decides-eqb byte dot).0 e)) (at_dot_sound n room further ih run rest a l)

pub letters_sound : (n room : ℕ) (text : List ℕ) → Reads (IsLettersWithin n room) text (letters_at n room text)
unfolding letters_at
letters_sound n zero text = at (is_letter_run n (run_at text))
  where
    at : (b : Bool) → Reads (IsLettersWithin n 0) text (at_run (fault LongWord) b text)
    at true = tt
    at false = tt
letters_sound n (suc room) text = at (is_letter_run n (run_at text)) refl (past_letter_sound n room (letters_at n room) (letters_sound n room) (run_at text) (past_run text) (digits_value 10 (run_at text)))
  where
    Here : List ℕ → Type 0
    Here t = Reads (IsLettersWithin n (suc room)) t (past_letter (letters_at n room) (digits_value 10 (run_at text)) (past_run text))

    at : (b : Bool) → is_letter_run n (run_at text) ≡ b → (IsLetterText n (run_at text) (digits_value 10 (run_at text)) → Here (run_at text ++ past_run text)) →
        Reads (IsLettersWithin n (suc room)) text (at_run (λ t. past_letter (letters_at n room) (digits_value 10 (run_at t)) (past_run t)) b text)
    at true e h = subst Here (sym (run_split text)) (h (letter_by_test n (run_at text) e))
    at false e h = tt

-- ---- words

pub word_sound : (n : ℕ) (text : List ℕ) → Reads (IsWordText n) text (word_at n text)
unfolding word_at
word_sound n [] = tt
word_sound n (byte ∷ rest) = at (is_ascii_digit byte) (nat_eq byte empty_byte) refl
  where
    at : (d e : Bool) → nat_eq byte empty_byte ≡ e → Reads (IsWordText n) (byte ∷ rest) (word_by n d e byte rest)
    at true e q = reads_weaker (IsLettersWithin n WORD_LIMIT) (IsWordText n) (byte ∷ rest) (letters_at n WORD_LIMIT (byte ∷ rest)) (λ front w p. letters p.0 p.1) (letters_sound n WORD_LIMIT (byte ∷ rest))
    at false true q = (byte ∷ [], refl, subst (λ b. IsWordText n (b ∷ []) []) (sym ((Decides-eqb byte empty_byte).0 q)) empty_word)
    at false false q = tt

-- ---- pairs of numbers

-- a front of which P holds, and then another of which Q does
abbrev pub IsThen : {X Y : Type 0} → (List ℕ → X → Type 0) → (X → List ℕ → Y → Type 0) → List ℕ → Y → Type 0
IsThen {X} P Q front y = (first second : List ℕ) × (x : X) × (front ≡ first ++ second) × P first x × Q x second y

pub reads_then : {X Y : Type 0} (P : List ℕ → X → Type 0) (Q : X → List ℕ → Y → Type 0) (text : List ℕ) (r : Step X) (next : X → List ℕ → Step Y) →
    ((x : X) (left : List ℕ) → Reads (Q x) left (next x left)) → Reads P text r → Reads (IsThen P Q) text (then_step r next)
reads_then P Q text (Err e) next further h = tt
reads_then {X} {Y} P Q text (Ok r) next further h = at (next r.value r.left) (further r.value r.left)
  where
    at : (s : Step Y) → Reads (Q r.value) r.left s → Reads (IsThen P Q) text s
    at (Err e) k = tt
    at (Ok s) k = (h.0 ++ k.0, h.1 ∙ ap (λ l. h.0 ++ l) k.1 ∙ sym (append_assoc h.0 k.0 s.left), (h.0, k.0, r.value, refl, h.2, k.2))

-- spaces, and then a front of which P holds
abbrev pub IsBehindSpaces : {X : Type 0} → (List ℕ → X → Type 0) → List ℕ → X → Type 0
IsBehindSpaces P front x = (gap body : List ℕ) × (front ≡ gap ++ body) × IsSpaces gap × P body x

pub reads_behind : {X : Type 0} (P : List ℕ → X → Type 0) (text : List ℕ) (r : Step X) → Reads P (past_spaces text) r → Reads (IsBehindSpaces P) text r
reads_behind P text (Err e) h = tt
reads_behind P text (Ok r) h =
    let gap = spaces_split text in
    (gap.0 ++ h.0, gap.1 ∙ ap (λ t. gap.0 ++ t) h.1 ∙ sym (append_assoc gap.0 h.0 r.left), (gap.0, h.0, refl, gap.2, h.2))

abbrev pub IsMark : ℕ → List ℕ → Unit {0} → Type 0
IsMark mark front u = front ≡ mark ∷ []

mark_sound : (mark : ℕ) (text : List ℕ) → Reads (IsMark mark) text (mark_at mark text)
mark_sound mark [] = tt
mark_sound mark (byte ∷ rest) = at (nat_eq byte mark) refl
  where
    at : (b : Bool) → nat_eq byte mark ≡ b → Reads (IsMark mark) (byte ∷ rest) (past_mark b byte rest)
    at true e = (byte ∷ [], refl, ap (λ b. b ∷ []) ((Decides-eqb byte mark).0 e))
    at false e = tt

-- a number, spaces and a mark
abbrev pub IsMarkedNumber : ℕ → List ℕ → ℕ → Type 0
IsMarkedNumber mark front v = (digits gap : List ℕ) × (front ≡ digits ++ (gap ++ mark ∷ [])) × IsNumber digits v × IsSpaces gap

pub run_is_numeral : (byte : ℕ) (rest : List ℕ) → is_ascii_digit byte ≡ true → IsNumeral 10 (run_at (byte ∷ rest))
run_is_numeral byte rest e = (subst (λ l. 0 < length l) (sym (run_begins byte rest e)) (omega arith), run_is_digits (byte ∷ rest))

number_sound : (mark : ℕ) (text : List ℕ) → Reads (IsMarkedNumber mark) text (number_at mark text)
unfolding number_at
number_sound mark [] = tt
number_sound mark (byte ∷ rest) = at (is_ascii_digit byte) (nat_le (length (run_at (byte ∷ rest))) NUMBER_LIMIT) refl refl
  where
    at : (d s : Bool) → is_ascii_digit byte ≡ d → nat_le (length (run_at (byte ∷ rest))) NUMBER_LIMIT ≡ s → Reads (IsMarkedNumber mark) (byte ∷ rest) (number_by mark d s (byte ∷ rest))
    at false s e q = tt
    at true false e q = tt
    at true true e q =
        let run = run_at (byte ∷ rest) in
        let gap = spaces_split (past_run (byte ∷ rest)) in
        let short : length run ≤ NUMBER_LIMIT = grind (arith, nat_tests, q) in
        reads_mapped (IsMark mark) (IsMarkedNumber mark) (λ _. digits_value 10 run) (λ front. run ++ (gap.0 ++ front)) (byte ∷ rest) (past_spaces (past_run (byte ∷ rest))) (mark_at mark (past_spaces (past_run (byte ∷ rest))))
        (λ front left p. run_split (byte ∷ rest) ∙ ap (λ t. run ++ t) (gap.1 ∙ ap (λ t. gap.0 ++ t) p ∙ sym (append_assoc gap.0 front left)) ∙ sym (append_assoc run (gap.0 ++ front) left))
        (λ front u p. (run, gap.0, ap (λ t. run ++ (gap.0 ++ t)) p, number (run_is_numeral byte rest e) short, gap.2)) (mark_sound mark (past_spaces (past_run (byte ∷ rest))))

-- spaces, a star, and the element of two numbers
abbrev pub IsElementBefore : FieldValue → ℕ → ℕ → List ℕ → ℕ → Type 0
IsElementBefore field u v front c = (c ≡ pair_element field u v) × IsBehindSpaces (IsMark star) front tt

-- the second number, the end of the pair, and the star behind it
abbrev pub IsPairEnd : FieldValue → ℕ → List ℕ → ℕ → Type 0
IsPairEnd field u front c = IsThen (IsBehindSpaces (IsMarkedNumber closing)) (IsElementBefore field u) front c

-- what stands behind the beginning of a pair, up to the star behind it
abbrev pub IsPairBody : FieldValue → List ℕ → ℕ → Type 0
IsPairBody field front c = IsThen (IsBehindSpaces (IsMarkedNumber comma)) (IsPairEnd field) front c

element_sound : (field : FieldValue) (u v : ℕ) (text : List ℕ) → Reads (IsElementBefore field u v) text (map_step (λ _. pair_element field u v) (mark_at star (past_spaces text)))
element_sound field u v text =
    reads_mapped (IsBehindSpaces (IsMark star)) (IsElementBefore field u v) (λ _. pair_element field u v) (λ front. front) text text (mark_at star (past_spaces text)) (λ front left e. e) (λ front x p. (refl, p))
    (reads_behind (IsMark star) text (mark_at star (past_spaces text)) (mark_sound star (past_spaces text)))

pub spaced_number_sound : (mark : ℕ) (text : List ℕ) → Reads (IsBehindSpaces (IsMarkedNumber mark)) text (number_at mark (past_spaces text))
spaced_number_sound mark text = reads_behind (IsMarkedNumber mark) text (number_at mark (past_spaces text)) (number_sound mark (past_spaces text))

second_sound : (field : FieldValue) (u : ℕ) (text : List ℕ) → Reads (IsPairEnd field u) text (second_at field u text)
second_sound field u text =
    reads_then (IsBehindSpaces (IsMarkedNumber closing)) (IsElementBefore field u) text (number_at closing (past_spaces text)) (λ v left. map_step (λ _. pair_element field u v) (mark_at star (past_spaces left)))
    (element_sound field u) (spaced_number_sound closing text)

pub pair_sound : (field : FieldValue) (text : List ℕ) → Reads (IsPairBody field) text (pair_at field text)
unfolding pair_at
pair_sound field text = reads_then (IsBehindSpaces (IsMarkedNumber comma)) (IsPairEnd field) text (number_at comma (past_spaces text)) (second_at field) (second_sound field) (spaced_number_sound comma text)

-- ---- terms

bare_sound : (field : FieldValue) (n : ℕ) (text : List ℕ) → Reads (IsTermText field n) text (bare_word n text)
bare_sound field n text = reads_mapped (IsWordText n) (IsTermText field n) (with_coefficient 1) (λ front. front) text text (word_at n text) (λ front left e. e) (λ front w p. alone p) (word_sound n text)

regrouped : (a b c d e : List ℕ) (x : ℕ) → a ++ (b ++ x ∷ (c ++ (d ++ e))) ≡ (a ++ b ++ x ∷ c ++ d) ++ e
regrouped a b c d e x = sym (append_assoc a b (x ∷ (c ++ (d ++ e)))) ∙ sym (append_assoc (a ++ b) (x ∷ c) (d ++ e)) ∙ sym (append_assoc (a ++ b ++ x ∷ c) d e)

numbered_sound : (field : FieldValue) (n : ℕ) (text after : List ℕ) → IsNumeral 10 (run_at text) → SplitsSpaces (past_run text) (star ∷ after) → (b : Bool) → nat_le (length (run_at text)) NUMBER_LIMIT ≡ b →
    Reads (IsTermText field n) text (term_after_number field n b text after)
numbered_sound field n text after digits gap false e = tt
numbered_sound field n text after digits gap true e =
    let second = spaces_split after in
    let short : length (run_at text) ≤ NUMBER_LIMIT = grind (arith, nat_tests, e) in
    reads_mapped (IsWordText n) (IsTermText field n) (with_coefficient (residue field (pos (digits_value 10 (run_at text))))) (λ front. run_at text ++ gap.0 ++ star ∷ second.0 ++ front)
    text (past_spaces after) (word_at n (past_spaces after))
    (λ front left q. run_split text ∙ ap (λ t. run_at text ++ t) gap.1 ∙ ap (λ t. run_at text ++ (gap.0 ++ star ∷ t)) (second.1 ∙ ap (λ t. second.0 ++ t) q) ∙ regrouped (run_at text) gap.0 second.0 front left star)
    (λ front w p. multiple (one_number (number digits short)) gap.2 second.2 p) (word_sound n (past_spaces after))

past_first_run_sound : (field : FieldValue) (n : ℕ) (text rest : List ℕ) → IsNumeral 10 (run_at text) → SplitsSpaces (past_run text) rest → Reads (IsTermText field n) text (past_first_run field n text rest)
past_first_run_sound field n text [] digits gap = bare_sound field n text
past_first_run_sound field n text (byte ∷ after) digits gap = at (nat_eq byte star) refl
  where
    at : (b : Bool) → nat_eq byte star ≡ b → Reads (IsTermText field n) text (by_star field n b text after)
    at true e = numbered_sound field n text after digits (subst (λ c. SplitsSpaces (past_run text) (c ∷ after)) ((Decides-eqb byte star).0 e) gap) (nat_le (length (run_at text)) NUMBER_LIMIT) refl
    at false e = bare_sound field n text

-- a word behind spaces, as a term with this coefficient
abbrev IsWordOf : ℕ → ℕ → List ℕ → Term → Type 0
IsWordOf n c front t = (t.coefficient ≡ c) × IsBehindSpaces (IsWordText n) front t.word

word_after_sound : (n c : ℕ) (text : List ℕ) → Reads (IsWordOf n c) text (word_after n c text)
word_after_sound n c text =
    reads_mapped (IsBehindSpaces (IsWordText n)) (IsWordOf n c) (with_coefficient c) (λ front. front) text text (word_at n (past_spaces text)) (λ front left e. e) (λ front w p. (refl, p))
    (reads_behind (IsWordText n) text (word_at n (past_spaces text)) (word_sound n (past_spaces text)))

-- a pair, its star and a word are a term
pair_is_term : (field : FieldValue) (n : ℕ) → is_extended field ≡ true → (front : List ℕ) (t : Term) → IsThen (IsPairBody field) (IsWordOf n) front t → IsTermText field n (opening ∷ front) t
pair_is_term field n extended front t h =
    let body = h.4 in
    let first = body.4 in
    let rest = body.5 in
    let second = rest.4 in
    let element = rest.5 in
    let word = h.5 in
    let u = body.2 in
    let v = rest.2 in
    let one = first.0 in
    let digits = first.4.0 in
    let two = first.4.1 in
    let three = second.0 in
    let more = second.4.0 in
    let four = second.4.1 in
    let before = element.1.0 in
    let after = word.1.0 in
    let text = word.1.1 in
    let value : t.coefficient ≡ joined field (pos u) (pos v) = word.0 ∙ element.0 in
    let term : IsTermText field n ((opening ∷ one ++ digits ++ two ++ comma ∷ three ++ more ++ four ++ closing ∷ []) ++ before ++ star ∷ after ++ text) (record { word = t.word; coefficient = joined field (pos u) (pos v) }) =
    multiple (pair extended first.3 first.4.3 first.4.4 second.3 second.4.3 second.4.4) element.1.3 word.1.3 word.1.4 in
    let first_is : first.1 ≡ digits ++ (two ++ comma ∷ []) = first.4.2 in
    let second_is : second.1 ≡ more ++ (four ++ closing ∷ []) = second.4.2 in
    let star_is : element.1.1 ≡ star ∷ [] = element.1.4 in
    let written : opening ∷ front ≡ (opening ∷ one ++ digits ++ two ++ comma ∷ three ++ more ++ four ++ closing ∷ []) ++ before ++ star ∷ after ++ text =
    rw (h.3, body.3, first.2, first_is, rest.3, second.2, second_is, element.1.2, star_is, word.1.2) (simp append_assoc) in
    subst (λ l. IsTermText field n l t) (sym written) (subst (λ c. IsTermText field n ((opening ∷ one ++ digits ++ two ++ comma ∷ three ++ more ++ four ++ closing ∷ []) ++ before ++ star ∷ after ++ text) (record { word = t.word; coefficient = c })) (sym value) term)

pair_term_sound : (field : FieldValue) (n : ℕ) → is_extended field ≡ true → (rest : List ℕ) → Reads (IsTermText field n) (opening ∷ rest) (then_step (pair_at field rest) (word_after n))
pair_term_sound field n extended rest = at (then_step (pair_at field rest) (word_after n)) (reads_then (IsPairBody field) (IsWordOf n) rest (pair_at field rest) (word_after n) (word_after_sound n) (pair_sound field rest))
  where
    at : (r : Step Term) → Reads (IsThen (IsPairBody field) (IsWordOf n)) rest r → Reads (IsTermText field n) (opening ∷ rest) r
    at (Err e) h = tt
    at (Ok r) h = (opening ∷ h.0, ap (λ l. opening ∷ l) h.1, pair_is_term field n extended h.0 r.value h.2)

pub term_sound : (field : FieldValue) (n byte : ℕ) (rest : List ℕ) → Reads (IsTermText field n) (byte ∷ rest) (term_at field n byte rest)
unfolding term_at
term_sound field n byte rest = opened (opens_pair field byte) refl
  where
    at : (b : Bool) → is_ascii_digit byte ≡ b → Reads (IsTermText field n) (byte ∷ rest) (term_by field n b (byte ∷ rest))
    at true e = past_first_run_sound field n (byte ∷ rest) (past_spaces (past_run (byte ∷ rest))) (run_is_numeral byte rest e) (spaces_split (past_run (byte ∷ rest)))
    at false e = bare_sound field n (byte ∷ rest)

    opened : (b : Bool) → opens_pair field byte ≡ b → Reads (IsTermText field n) (byte ∷ rest) (term_opened field n b byte rest)
    opened false e = at (is_ascii_digit byte) refl
    opened true e =
        let tests = and_parts (nat_eq byte opening) (is_extended field) e in
        subst (λ b. Reads (IsTermText field n) (b ∷ rest) (then_step (pair_at field rest) (word_after n))) (sym ((Decides-eqb byte opening).0 tests.0)) (pair_term_sound field n tests.1 rest)

-- ---- expressions

-- where terms are read, a front of the text has them, and spaces come behind it
abbrev pub EndsIn : (List ℕ → Combination → Type 0) → List ℕ → Read → Type 0
EndsIn P text (Ok f) = (front back : List ℕ) × (text ≡ front ++ back) × P front f × IsSpaces back
EndsIn P text (Err e) = Unit {0}

ends_wrapped : (P Q : List ℕ → Combination → Type 0) (wrap : List ℕ → List ℕ) (whole text : List ℕ) (r : Read) →
    ((front back : List ℕ) → text ≡ front ++ back → whole ≡ wrap front ++ back) → ((front : List ℕ) (f : Combination) → P front f → Q (wrap front) f) → EndsIn P text r → EndsIn Q whole r
ends_wrapped P Q wrap whole text (Ok f) split make h = (wrap h.0, h.1, split h.0 h.1 h.2, make h.0 f h.3, h.4)
ends_wrapped P Q wrap whole text (Err e) split make h = tt

ends_put : (P Q : List ℕ → Combination → Type 0) (t : Term) (wrap : List ℕ → List ℕ) (whole text : List ℕ) (r : Read) →
    ((front back : List ℕ) → text ≡ front ++ back → whole ≡ wrap front ++ back) → ((front : List ℕ) (f : Combination) → P front f → Q (wrap front) (t ∷ f)) → EndsIn P text r → EndsIn Q whole (put_first t r)
ends_put P Q t wrap whole text (Ok f) split make h = (wrap h.0, h.1, split h.0 h.1 h.2, make h.0 f h.3, h.4)
ends_put P Q t wrap whole text (Err e) split make h = tt

-- what a byte's sign tells
abbrev pub TellsSign : ℕ → Option Sign → Type 0
TellsSign byte (Some sign) = IsSign byte sign
TellsSign byte None = Unit {0}

pub sign_told : (byte : ℕ) → TellsSign byte (sign_of byte)
sign_told byte = at (nat_eq byte plus_byte) (nat_eq byte minus_byte) refl refl
  where
    at : (p m : Bool) → nat_eq byte plus_byte ≡ p → nat_eq byte minus_byte ≡ m → TellsSign byte (cond p (Some Positive) (cond m (Some Reversed) None))
    at true m e d = subst (λ b. IsSign b Positive) (sym ((Decides-eqb byte plus_byte).0 e)) plus_sign
    at false true e d = subst (λ b. IsSign b Reversed) (sym ((Decides-eqb byte minus_byte).0 d)) minus_sign
    at false false e d = tt

-- at most so many terms
abbrev pub IsTermsWithin : FieldValue → ℕ → ℕ → Sign → List ℕ → Combination → Type 0
IsTermsWithin field n room sign text f = IsTerms field n sign text f × (length f ≤ room)

section_ends : (field : FieldValue) (n room : ℕ) (sign : Sign) (front before : List ℕ) (t : Term) → IsTermText field n front t → IsSpaces before →
    EndsIn (IsTermsWithin field n (suc room) sign) (front ++ (before ++ [])) (Ok (signed_term field sign t ∷ []))
section_ends field n room sign front before t p gap = (front, before ++ [], refl, (last_term p, omega arith), subst IsSpaces (sym (append-nil before)) gap)

past_term_sound : (field : FieldValue) (n room : ℕ) (further : Sign → List ℕ → Read) → ((s : Sign) (t : List ℕ) → EndsIn (IsTermsWithin field n room s) t (further s t)) →
    (sign : Sign) (front before rest : List ℕ) (t : Term) → IsTermText field n front t → IsSpaces before → EndsIn (IsTermsWithin field n (suc room) sign) (front ++ (before ++ rest)) (past_term further (signed_term field sign t) rest)
past_term_sound field n room further ih sign front before [] t p gap = section_ends field n room sign front before t p gap
past_term_sound field n room further ih sign front before (byte ∷ rest) t p gap = at (sign_of byte) (sign_told byte)
  where
    at : (o : Option Sign) → TellsSign byte o → EndsIn (IsTermsWithin field n (suc room) sign) (front ++ (before ++ byte ∷ rest)) (after_term further (signed_term field sign t) o byte rest)
    at None told = tt
    at (Some next) told =
        let second = spaces_split rest in
        ends_put (IsTermsWithin field n room next) (IsTermsWithin field n (suc room) sign) (signed_term field sign t) (λ more. front ++ before ++ byte ∷ second.0 ++ more)
        (front ++ (before ++ byte ∷ rest)) (past_spaces rest) (further next (past_spaces rest))
        (λ more back e. ap (λ l. front ++ (before ++ byte ∷ l)) (second.1 ∙ ap (λ l. second.0 ++ l) e) ∙ regrouped front before second.0 more back byte)
        (λ more f q. (next_term p gap told second.2 q.0, omega (arith, q.1))) (ih next (past_spaces rest))

with_term_sound : (field : FieldValue) (n room : ℕ) (further : Sign → List ℕ → Read) → ((s : Sign) (t : List ℕ) → EndsIn (IsTermsWithin field n room s) t (further s t)) →
    (sign : Sign) (text : List ℕ) (r : Step Term) → Reads (IsTermText field n) text r → EndsIn (IsTermsWithin field n (suc room) sign) text (with_term field further sign r)
with_term_sound field n room further ih sign text (Err e) h = tt
with_term_sound field n room further ih sign text (Ok r) h =
    let gap = spaces_split r.left in
    subst (λ t. EndsIn (IsTermsWithin field n (suc room) sign) t (past_term further (signed_term field sign r.value) (past_spaces r.left))) (sym (h.1 ∙ ap (λ t. h.0 ++ t) gap.1))
    (past_term_sound field n room further ih sign h.0 gap.0 (past_spaces r.left) r.value h.2 gap.2)

pub terms_sound : (field : FieldValue) (n room : ℕ) (sign : Sign) (text : List ℕ) → EndsIn (IsTermsWithin field n room sign) text (terms_at field n room sign text)
unfolding terms_at
terms_sound field n zero sign [] = tt
terms_sound field n (suc room) sign [] = tt
terms_sound field n zero sign (byte ∷ rest) = tt
terms_sound field n (suc room) sign (byte ∷ rest) = with_term_sound field n room (terms_at field n room) (terms_sound field n room) sign (byte ∷ rest) (term_at field n byte rest) (term_sound field n byte rest)

-- where terms are read, the text is in the grammar
abbrev pub Whole : (List ℕ → Combination → Type 0) → List ℕ → Read → Type 0
Whole P text (Ok f) = P text f
Whole P text (Err e) = Unit {0}

abbrev pub IsSignedWithin : FieldValue → ℕ → List ℕ → Combination → Type 0
IsSignedWithin field n text f = IsSignedTerms field n text f × (length f ≤ TERM_LIMIT)

whole_of_ends : (field : FieldValue) (n : ℕ) (before rest : List ℕ) (r : Read) → IsSpaces before → EndsIn (IsSignedWithin field n) rest r → Whole (IsExpression field n) (before ++ rest) r
whole_of_ends field n before rest (Err e) gap h = tt
whole_of_ends field n before rest (Ok f) gap h =
    subst (λ t. IsExpression field n t f) (append_assoc before h.0 h.1 ∙ ap (λ t. before ++ t) (sym h.2)) (terms gap h.3.0 h.3.1 h.4)

signed_sound : (field : FieldValue) (n byte : ℕ) (rest : List ℕ) (o : Option Sign) → TellsSign byte o → EndsIn (IsSignedWithin field n) (byte ∷ rest) (signed_by field n o byte rest)
signed_sound field n byte rest None told =
    ends_wrapped (IsTermsWithin field n TERM_LIMIT Positive) (IsSignedWithin field n) (λ front. front) (byte ∷ rest) (byte ∷ rest) (terms_at field n TERM_LIMIT Positive (byte ∷ rest))
    (λ front back e. e) (λ front f p. (unsigned p.0, p.1)) (terms_sound field n TERM_LIMIT Positive (byte ∷ rest))
signed_sound field n byte rest (Some sign) told =
    let gap = spaces_split rest in
    ends_wrapped (IsTermsWithin field n TERM_LIMIT sign) (IsSignedWithin field n) (λ front. byte ∷ gap.0 ++ front) (byte ∷ rest) (past_spaces rest) (terms_at field n TERM_LIMIT sign (past_spaces rest))
    (λ front back e. ap (λ t. byte ∷ t) (gap.1 ∙ ap (λ t. gap.0 ++ t) e) ∙ sym (append_assoc (byte ∷ gap.0) front back)) (λ front f p. (after_sign told gap.2 p.0, p.1)) (terms_sound field n TERM_LIMIT sign (past_spaces rest))

pub empty_by_test : (left : List ℕ) → is_empty left ≡ true → left ≡ []
empty_by_test [] h = refl
empty_by_test (byte ∷ rest) h = let c : true ≡ false = sym h in absurd cc

pub spaces_by_test : (text : List ℕ) → is_empty (past_spaces text) ≡ true → IsSpaces text
spaces_by_test text h =
    let gap = spaces_split text in
    subst IsSpaces (sym (gap.1 ∙ ap (λ t. gap.0 ++ t) (empty_by_test (past_spaces text) h) ∙ append-nil gap.0)) gap.2

expression_sound : (field : FieldValue) (n : ℕ) (before left : List ℕ) → IsSpaces before → Whole (IsExpression field n) (before ++ left) (expression_at field n left)
expression_sound field n before [] gap = tt
expression_sound field n before (byte ∷ rest) gap = at (nat_eq byte zero_digit && is_empty (past_spaces rest)) refl
  where
    at : (b : Bool) → (nat_eq byte zero_digit && is_empty (past_spaces rest)) ≡ b → Whole (IsExpression field n) (before ++ byte ∷ rest) (zero_or_terms field n b byte rest)
    at true e =
        let tests = and_parts (nat_eq byte zero_digit) (is_empty (past_spaces rest)) e in
        subst (λ b. IsExpression field n (before ++ b ∷ rest) []) (sym ((Decides-eqb byte zero_digit).0 tests.0)) (nothing gap (spaces_by_test rest tests.1))
    at false e = whole_of_ends field n before (byte ∷ rest) (signed_by field n (sign_of byte) byte rest) gap (signed_sound field n byte rest (sign_of byte) (sign_told byte))

pub read_terms_sound : (field : FieldValue) (n : ℕ) (text : List ℕ) → Whole (IsExpression field n) text (read_terms field n text)
unfolding read_terms
read_terms_sound field n text =
    let gap = spaces_split text in
    subst (λ t. Whole (IsExpression field n) t (expression_at field n (past_spaces text))) (sym gap.1) (expression_sound field n gap.0 (past_spaces text) gap.2)
