-- What is in the grammar is read.
use Rattle.std.proofs.Common.{◌≡◌, ℕ, zero, suc, ◌≤◌, pos, Bool, true, false, List, [], ◌∷◌, ◌++◌, length, refl, sym, ◌∙◌, ap, subst, nat_eq, nat_le, arith, append_assoc}
use Rattle.std.specs.Str.Parse.{IsNumeral, digits_value}
use Rattle.std.proofs.lemmas.Bool.Decides.{nat_tests}
use Rattle.nichols_field.specs.Field.{FieldValue, residue, is_extended}
use Rattle.nichols_tensor.specs.Combination.{Term}
use Rattle.nichols_tensor.specs.declared.TheConstants.{LETTER_LIMIT, WORD_LIMIT}
use Rattle.nichols_expression.specs.declared.TheConstants.{NUMBER_LIMIT}
use Rattle.nichols_expression.specs.Bytes.{space, opening, closing, comma, star, dot, empty_byte}
use Rattle.nichols_expression.specs.Grammar.{IsSpaces, IsLetters, last_letter, next_letter, IsWordText, empty_word, letters, IsNumber, number, IsCoefficient, one_number, pair, IsTermText, alone, multiple}
use Rattle.std.specs.Char.{is_ascii_digit}
use Rattle.nichols_expression.specs.Reader.{Step, got, map_step, then_step, past_mark, mark_at, number_by, number_at, pair_element, second_at, pair_at, word_after, term_opened, run_at, past_run, past_spaces, is_letter_run, at_dot, after_dot, after_letter, past_letter, at_run, letters_at, word_by, word_at, with_coefficient, bare_word, term_after_number, by_star, past_first_run, term_by, term_at}
use Rattle.nichols_expression.proofs.Fronts.{Begins, Avoids, begins_term, digit_begins, digit_opens_none, begins_weaker, begins_avoids, spaces_avoid, past_gap, past_no_spaces, run_is, past_run_is, numeral_begins, IsLetterRun, letter_run, letters_begin}

abbrev is_star : ℕ → Bool
is_star b = nat_eq b star

-- what may come after a term
pub record IsAfterTerm (rest : List ℕ) : Type 0 where
  pub no_digit : Avoids is_ascii_digit rest
  pub no_dot : Avoids (λ b. nat_eq b dot) rest
  pub no_star : Avoids (λ b. nat_eq b star) (past_spaces rest)

-- ---- letters

letters_step : (n room : ℕ) (run rest : List ℕ) (a : ℕ) → IsLetterRun n run a → Avoids is_ascii_digit rest → letters_at n (suc room) (run ++ rest) ≡ past_letter (letters_at n room) a rest
unfolding letters_at
letters_step n room run rest a l k =
    let same = run_is run rest l.numeral.1 k in
    ap (λ b. at_run (λ t. past_letter (letters_at n room) (digits_value 10 (run_at t)) (past_run t)) b (run ++ rest)) (ap (is_letter_run n) same ∙ l.test)
    ∙ ap (λ v. past_letter (letters_at n room) v (past_run (run ++ rest))) (ap (digits_value 10) same ∙ l.value)
    ∙ ap (past_letter (letters_at n room) a) (past_run_is run rest l.numeral.1 k)

pub letter_ends : (further : List ℕ → Step (List ℕ)) (a : ℕ) (rest : List ℕ) → Avoids (λ b. nat_eq b dot) rest → past_letter further a rest ≡ got (a ∷ []) rest
letter_ends further a [] h = refl
letter_ends further a (byte ∷ rest) h = ap (λ b. after_letter further a b byte rest) h

pub dot_goes_on : (further : List ℕ → Step (List ℕ)) (text : List ℕ) → Begins is_ascii_digit text → at_dot further text ≡ further text
dot_goes_on further [] h = absurd h
dot_goes_on further (byte ∷ rest) h = ap (λ b. after_dot further b byte rest) h

pub letters_complete : (n : ℕ) → n ≤ LETTER_LIMIT → (room : ℕ) (text w : List ℕ) → IsLetters n text w → length w ≤ room → (rest : List ℕ) → Avoids is_ascii_digit rest → Avoids (λ b. nat_eq b dot) rest →
    letters_at n room (text ++ rest) ≡ got w rest
letters_complete n small zero _ _ (last_letter l) fits rest no_digit no_dot = absurd (omega (arith, fits))
letters_complete n small zero _ _ (next_letter l p) fits rest no_digit no_dot = absurd (omega (arith, fits))
letters_complete n small (suc room) _ _ (last_letter {text} {a} l) fits rest no_digit no_dot =
    letters_step n room text rest a (letter_run n small text a l) no_digit ∙ letter_ends (letters_at n room) a rest no_dot
letters_complete n small (suc room) _ _ (next_letter {text} {rest = more} {w} {a} l p) fits rest no_digit no_dot =
    ap (letters_at n (suc room)) (append_assoc text (dot ∷ more) rest)
    ∙ letters_step n room text (dot ∷ more ++ rest) a (letter_run n small text a l) refl
    ∙ ap (map_step (λ v. a ∷ v)) (dot_goes_on (letters_at n room) (more ++ rest) (letters_begin n small more w p rest) ∙ letters_complete n small room more w p (omega (arith, fits)) rest no_digit no_dot)

-- ---- words

pub word_of_digit : (n : ℕ) (text : List ℕ) → Begins is_ascii_digit text → word_at n text ≡ letters_at n WORD_LIMIT text
unfolding word_at
word_of_digit n [] h = absurd h
word_of_digit n (byte ∷ rest) h = ap (λ b. word_by n b (nat_eq byte empty_byte) byte rest) h

pub word_complete : (n : ℕ) → n ≤ LETTER_LIMIT → (text w : List ℕ) → IsWordText n text w → (rest : List ℕ) → Avoids is_ascii_digit rest → Avoids (λ b. nat_eq b dot) rest → word_at n (text ++ rest) ≡ got w rest
unfolding word_at
word_complete n small _ _ empty_word rest no_digit no_dot = refl
word_complete n small _ _ (letters {text} {w} p fits) rest no_digit no_dot =
    word_of_digit n (text ++ rest) (letters_begin n small text w p rest) ∙ letters_complete n small WORD_LIMIT text w p fits rest no_digit no_dot

pub word_begins : (n : ℕ) → n ≤ LETTER_LIMIT → (text w : List ℕ) → IsWordText n text w → (rest : List ℕ) → Begins begins_term (text ++ rest)
word_begins n small _ _ empty_word rest = refl
word_begins n small _ _ (letters {text} {w} p fits) rest = begins_weaker is_ascii_digit begins_term digit_begins (text ++ rest) (letters_begin n small text w p rest)

-- ---- pairs of numbers

-- a mark that is no digit and no space
pub record IsMarkByte (mark : ℕ) : Type 0 where
  pub itself : nat_eq mark mark ≡ true
  pub no_digit : is_ascii_digit mark ≡ false
  pub no_space : nat_eq mark space ≡ false

comma_marks : IsMarkByte comma
comma_marks = record { itself = refl; no_digit = refl; no_space = refl }

closing_marks : IsMarkByte closing
closing_marks = record { itself = refl; no_digit = refl; no_space = refl }

pub number_of_digit : (mark : ℕ) (text : List ℕ) → Begins is_ascii_digit text → number_at mark text ≡ number_by mark true (nat_le (length (run_at text)) NUMBER_LIMIT) text
unfolding number_at
number_of_digit mark [] h = absurd h
number_of_digit mark (byte ∷ rest) h = ap (λ b. number_by mark b (nat_le (length (run_at (byte ∷ rest))) NUMBER_LIMIT) (byte ∷ rest)) h

marked_number : (mark : ℕ) → IsMarkByte mark → (digits gap rest : List ℕ) → IsNumeral 10 digits → length digits ≤ NUMBER_LIMIT → IsSpaces gap → number_at mark (digits ++ (gap ++ mark ∷ rest)) ≡ got (digits_value 10 digits) rest
marked_number mark is digits gap rest numeral short p =
    let tail = gap ++ mark ∷ rest in
    let whole = digits ++ tail in
    let no_digit : Avoids is_ascii_digit tail = spaces_avoid is_ascii_digit refl gap p (mark ∷ rest) is.no_digit in
    let run_same : run_at whole ≡ digits = run_is digits tail numeral.1 no_digit in
    let marked : past_spaces (past_run whole) ≡ mark ∷ rest = ap past_spaces (past_run_is digits tail numeral.1 no_digit) ∙ past_gap gap p (mark ∷ rest) is.no_space in
    let fits : nat_le (length digits) NUMBER_LIMIT ≡ true = grind (arith, nat_tests, short) in
    number_of_digit mark whole (numeral_begins digits tail numeral)
    ∙ ap (λ b. number_by mark true b whole) (ap (λ r. nat_le (length r) NUMBER_LIMIT) run_same ∙ fits)
    ∙ ap (λ l. map_step (λ _. digits_value 10 (run_at whole)) (mark_at mark l)) marked
    ∙ ap (λ b. map_step (λ _. digits_value 10 (run_at whole)) (past_mark b mark rest)) is.itself
    ∙ ap (λ r. got (digits_value 10 r) rest) run_same

pub number_complete : (mark : ℕ) → IsMarkByte mark → (before digits gap rest : List ℕ) (v : ℕ) → IsSpaces before → IsNumber digits v → IsSpaces gap → number_at mark (past_spaces (before ++ (digits ++ (gap ++ mark ∷ rest)))) ≡ got v rest
number_complete mark is before _ gap rest _ one (number {text = digits} numeral short) p =
    let tail = digits ++ (gap ++ mark ∷ rest) in
    ap (number_at mark) (past_gap before one tail (begins_avoids is_ascii_digit space refl tail (numeral_begins digits (gap ++ mark ∷ rest) numeral))) ∙ marked_number mark is digits gap rest numeral short p

pair_complete : (field : FieldValue) (one first two three second four gap rest : List ℕ) (u v : ℕ) → IsSpaces one → IsNumber first u → IsSpaces two → IsSpaces three → IsNumber second v → IsSpaces four → IsSpaces gap →
    pair_at field (one ++ (first ++ (two ++ comma ∷ (three ++ (second ++ (four ++ closing ∷ (gap ++ star ∷ rest))))))) ≡ got (pair_element field u v) rest
unfolding pair_at
pair_complete field one first two three second four gap rest u v a b c d e f g =
    ap (λ r. then_step r (second_at field)) (number_complete comma comma_marks one first two (three ++ (second ++ (four ++ closing ∷ (gap ++ star ∷ rest)))) u a b c)
    ∙ ap (λ r. then_step r (λ w left. map_step (λ _. pair_element field u w) (mark_at star (past_spaces left)))) (number_complete closing closing_marks three second four (gap ++ star ∷ rest) v d e f)
    ∙ ap (λ l. map_step (λ _. pair_element field u v) (mark_at star l)) (past_gap gap g (star ∷ rest) refl)

-- ---- terms

-- a term is read at the beginning of the text, and this is left
abbrev pub TermRead : FieldValue → ℕ → List ℕ → Term → List ℕ → Type 0
TermRead field n [] t rest = ⊥
TermRead field n (byte ∷ more) t rest = (term_at field n byte more ≡ got t rest) × (begins_term byte ≡ true)

no_star_after : (n : ℕ) → n ≤ LETTER_LIMIT → (text w : List ℕ) → IsLetters n text w → (rest : List ℕ) → IsAfterTerm rest → Avoids (λ b. nat_eq b star) (past_spaces (past_run (text ++ rest)))
no_star_after n small _ _ (last_letter {text} {a} l) rest after =
    subst (λ t. Avoids (λ b. nat_eq b star) (past_spaces t)) (sym (past_run_is text rest (letter_run n small text a l).numeral.1 after.no_digit)) after.no_star
no_star_after n small _ _ (next_letter {text} {rest = more} {w} {a} l p) rest after =
    let next : past_run ((text ++ dot ∷ more) ++ rest) ≡ dot ∷ (more ++ rest) = ap past_run (append_assoc text (dot ∷ more) rest) ∙ past_run_is text (dot ∷ (more ++ rest)) (letter_run n small text a l).numeral.1 refl in
    let kept : past_spaces (past_run ((text ++ dot ∷ more) ++ rest)) ≡ dot ∷ (more ++ rest) = ap past_spaces next ∙ past_no_spaces (dot ∷ (more ++ rest)) refl in
    subst (Avoids (λ b. nat_eq b star)) (sym kept) refl

pub no_star_bare : (field : FieldValue) (n : ℕ) (text rest : List ℕ) → Avoids (λ b. nat_eq b star) rest → past_first_run field n text rest ≡ bare_word n text
no_star_bare field n text [] h = refl
no_star_bare field n text (byte ∷ rest) h = ap (λ b. by_star field n b text rest) h

read_at_digit : (field : FieldValue) (n : ℕ) (text : List ℕ) (t : Term) (rest : List ℕ) → Begins is_ascii_digit text → past_first_run field n text (past_spaces (past_run text)) ≡ got t rest → TermRead field n text t rest
unfolding term_at
read_at_digit field n [] t rest h e = absurd h
read_at_digit field n (byte ∷ more) t rest h e = (ap (λ b. term_opened field n b byte more) (digit_opens_none field byte h) ∙ ap (λ b. term_by field n b (byte ∷ more)) h ∙ e, digit_begins byte h)

word_term : (field : FieldValue) (n : ℕ) → n ≤ LETTER_LIMIT → (text w : List ℕ) → IsWordText n text w → (rest : List ℕ) → IsAfterTerm rest → TermRead field n (text ++ rest) (with_coefficient 1 w) rest
unfolding term_at word_at
word_term field n small _ _ empty_word rest after = (refl, refl)
word_term field n small _ _ (letters {text} {w} p fits) rest after =
    read_at_digit field n (text ++ rest) (with_coefficient 1 w) rest (letters_begin n small text w p rest)
    (no_star_bare field n (text ++ rest) (past_spaces (past_run (text ++ rest))) (no_star_after n small text w p rest after)
    ∙ ap (map_step (with_coefficient 1)) (word_complete n small text w (letters p fits) rest after.no_digit after.no_dot))

number_term : (field : FieldValue) (n : ℕ) → n ≤ LETTER_LIMIT → (digits before between text w : List ℕ) → IsNumeral 10 digits → length digits ≤ NUMBER_LIMIT → IsSpaces before → IsSpaces between → IsWordText n text w →
    (rest : List ℕ) → IsAfterTerm rest → TermRead field n (digits ++ (before ++ star ∷ (between ++ (text ++ rest)))) (with_coefficient (residue field (pos (digits_value 10 digits))) w) rest
number_term field n small digits before between text w numeral short gap second p rest after =
    let tail = star ∷ (between ++ (text ++ rest)) in
    let whole = digits ++ (before ++ tail) in
    let no_digit : Avoids is_ascii_digit (before ++ tail) = spaces_avoid is_ascii_digit refl before gap tail refl in
    let run_same : run_at whole ≡ digits = run_is digits (before ++ tail) numeral.1 no_digit in
    let stars : past_spaces (past_run whole) ≡ tail = ap past_spaces (past_run_is digits (before ++ tail) numeral.1 no_digit) ∙ past_gap before gap tail refl in
    let fits : nat_le (length digits) NUMBER_LIMIT ≡ true = grind (arith, nat_tests, short) in
    let to_word : past_spaces (between ++ (text ++ rest)) ≡ text ++ rest = past_gap between second (text ++ rest) (begins_avoids begins_term space refl (text ++ rest) (word_begins n small text w p rest)) in
    read_at_digit field n whole (with_coefficient (residue field (pos (digits_value 10 digits))) w) rest (numeral_begins digits (before ++ tail) numeral)
    (ap (past_first_run field n whole) stars
    ∙ ap (λ b. term_after_number field n b whole (between ++ (text ++ rest))) (ap (λ r. nat_le (length r) NUMBER_LIMIT) run_same ∙ fits)
    ∙ ap (λ r. map_step (with_coefficient (residue field (pos (digits_value 10 r)))) (word_at n (past_spaces (between ++ (text ++ rest))))) run_same
    ∙ ap (map_step (with_coefficient (residue field (pos (digits_value 10 digits))))) (ap (word_at n) to_word ∙ word_complete n small text w p rest after.no_digit after.no_dot))

pair_term : (field : FieldValue) (n : ℕ) → n ≤ LETTER_LIMIT → is_extended field ≡ true → (one first two three second four gap between text w : List ℕ) (u v : ℕ) → IsSpaces one → IsNumber first u → IsSpaces two → IsSpaces three →
    IsNumber second v → IsSpaces four → IsSpaces gap → IsSpaces between → IsWordText n text w → (rest : List ℕ) → IsAfterTerm rest →
    TermRead field n (opening ∷ (one ++ (first ++ (two ++ comma ∷ (three ++ (second ++ (four ++ closing ∷ (gap ++ star ∷ (between ++ (text ++ rest)))))))))) (with_coefficient (pair_element field u v) w) rest
unfolding term_at
pair_term field n small extended one first two three second four gap between text w u v a b c d e f g h p rest after =
    let tail = between ++ (text ++ rest) in
    let body = one ++ (first ++ (two ++ comma ∷ (three ++ (second ++ (four ++ closing ∷ (gap ++ star ∷ tail)))))) in
    let to_word : past_spaces tail ≡ text ++ rest = past_gap between h (text ++ rest) (begins_avoids begins_term space refl (text ++ rest) (word_begins n small text w p rest)) in (
      ap (λ b. term_opened field n b opening body) extended
          ∙ ap (λ r. then_step r (word_after n)) (pair_complete field one first two three second four gap tail u v a b c d e f g)
          ∙ ap (λ l. map_step (with_coefficient (pair_element field u v)) (word_at n l)) to_word
          ∙ ap (map_step (with_coefficient (pair_element field u v))) (word_complete n small text w p rest after.no_digit after.no_dot),
      refl,
    )

pub term_complete : (field : FieldValue) (n : ℕ) → n ≤ LETTER_LIMIT → (text : List ℕ) (t : Term) → IsTermText field n text t → (rest : List ℕ) → IsAfterTerm rest → TermRead field n (text ++ rest) t rest
term_complete field n small _ _ (alone {text} {w} p) rest after = word_term field n small text w p rest after
term_complete field n small _ _ (multiple {coefficient = front} {before} {after = between} {text} {w} {c} k gap second p) rest after =
    at front c k
  where
    numbered : (ds : List ℕ) (u : ℕ) → IsNumber ds u → TermRead field n ((ds ++ before ++ star ∷ between ++ text) ++ rest) (with_coefficient (residue field (pos u)) w) rest
    numbered _ _ (number {text = ds} numeral short) =
        let split : (ds ++ before ++ star ∷ between ++ text) ++ rest ≡ ds ++ (before ++ star ∷ (between ++ (text ++ rest))) = simp append_assoc in
        subst (λ l. TermRead field n l (with_coefficient (residue field (pos (digits_value 10 ds))) w) rest) (sym split) (number_term field n small ds before between text w numeral short gap second p rest after)

    at : (ds : List ℕ) (c : ℕ) → IsCoefficient field ds c → TermRead field n ((ds ++ before ++ star ∷ between ++ text) ++ rest) (with_coefficient c w) rest
    at _ _ (one_number {text = ds} {u} q) = numbered ds u q
    at _ _ (pair {first} {second = more} {one} {two} {three} {four} {u} {v} extended a b c d e f) =
        let whole = opening ∷ (one ++ (first ++ (two ++ comma ∷ (three ++ (more ++ (four ++ closing ∷ (before ++ star ∷ (between ++ (text ++ rest))))))))) in
        let split : ((opening ∷ one ++ first ++ two ++ comma ∷ three ++ more ++ four ++ closing ∷ []) ++ before ++ star ∷ between ++ text) ++ rest ≡ whole = simp append_assoc in
        subst (λ l. TermRead field n l (with_coefficient (pair_element field u v) w) rest) (sym split)
        (pair_term field n small extended one first two three more four before between text w u v a b c d e f gap second p rest after)
