-- One turn of the loop over the letters of a word: the letters so far, and the step that is left.
use Rattle.std.proofs.Common.{◌≡◌, ◌<◌, ◌≤◌, ◌+◌, ◌-◌, ℕ, zero, suc, true, false, List, [], ◌∷◌, ◌++◌, Ok, Err, length, drop, get_or, refl, sym, ◌∙◌, ap, append_assoc, arith, IsTrue, ⊎_elim}
use Rattle.std.specs.Str.Parse.{digits_value}
use Rattle.std.specs.Char.{is_ascii_digit}
use Rattle.std.proofs.lemmas.Bool.{cases_lt}
use Rattle.std.proofs.lemmas.List.{length-append, drop_all}
use Rattle.nichols_tensor.specs.declared.TheConstants.{WORD_LIMIT}
use Rattle.nichols_expression.specs.Bytes.{dot}
use Rattle.nichols_expression.specs.Reader.{Step, got, fault, map_step, run_at, past_run, is_letter_run, at_dot, after_dot, past_letter, at_run, letters_at}
use Rattle.nichols_expression.specs.Steps.{starts_with, starts_with_digit}
use Rattle.nichols_expression.specs.declared.faults.Cause.TheVariants.{Early, Byte, Letter, LongWord}
use Rattle.nichols_expression.proofs.Complete.{dot_goes_on, letter_ends}
use Rattle.nichols_expression.proofs.Scanning.{byte_first, byte_at, byte_avoided, digit_begun}

-- what a step answers, behind the letters so far
abbrev pub behind : List ℕ → Step (List ℕ) → Step (List ℕ)
behind sofar r = map_step (λ w. sofar ++ w) r

-- what is left to be read behind the letters so far
abbrev pub left_of : ℕ → List ℕ → List ℕ → Step (List ℕ)
left_of n sofar text = behind sofar (letters_at n (WORD_LIMIT - length sofar) text)

one_more_letter : (sofar : List ℕ) (a : ℕ) (r : Step (List ℕ)) → behind sofar (map_step (λ w. a ∷ w) r) ≡ behind (sofar ++ a ∷ []) r
one_more_letter sofar a (Ok r) = ap (λ w. got w r.left) (sym (append_assoc sofar (a ∷ []) r.value))
one_more_letter sofar a (Err e) = refl

-- a run that is a letter is taken where there is room
letter_taken : (n room : ℕ) (text : List ℕ) → is_letter_run n (run_at text) ≡ true → letters_at n (suc room) text ≡ past_letter (letters_at n room) (digits_value 10 (run_at text)) (past_run text)
unfolding letters_at
letter_taken n room text h = ap (λ b. at_run (λ t. past_letter (letters_at n room) (digits_value 10 (run_at t)) (past_run t)) b text) h

pub turn-no_letter : (n : ℕ) (text sofar : List ℕ) → is_letter_run n (run_at text) ≡ false → left_of n sofar text ≡ fault Letter text
unfolding letters_at
turn-no_letter n text sofar h = at (WORD_LIMIT - length sofar)
  where
    at : (room : ℕ) → behind sofar (letters_at n room text) ≡ fault Letter text
    at zero = ap (λ b. behind sofar (at_run (fault LongWord) b text)) h
    at (suc room) = ap (λ b. behind sofar (at_run (λ t. past_letter (letters_at n room) (digits_value 10 (run_at t)) (past_run t)) b text)) h

pub turn-full : (n : ℕ) (text sofar : List ℕ) → is_letter_run n (run_at text) ≡ true → WORD_LIMIT ≤ length sofar → left_of n sofar text ≡ fault LongWord text
unfolding letters_at
turn-full n text sofar h full = ap (λ room. behind sofar (letters_at n room text)) none ∙ at h
  where
    none : WORD_LIMIT - length sofar ≡ 0
    none = omega (arith, full)

    at : is_letter_run n (run_at text) ≡ true → behind sofar (letters_at n 0 text) ≡ fault LongWord text
    at h = ap (λ b. behind sofar (at_run (fault LongWord) b text)) h

-- the letter at a place, and where it ends
pub record LetterTaken (n : ℕ) (text sofar : List ℕ) (at a end : ℕ) : Type 0 where
  pub test : is_letter_run n (run_at (drop at text)) ≡ true
  pub value : a ≡ digits_value 10 (run_at (drop at text))
  pub within : end ≤ length text
  pub left : drop end text ≡ past_run (drop at text)
  pub room : length sofar < WORD_LIMIT

-- what follows a letter is read with room for one letter less
letter_passed : (n : ℕ) (text sofar : List ℕ) (at a end : ℕ) → LetterTaken n text sofar at a end →
    left_of n sofar (drop at text) ≡ behind sofar (past_letter (letters_at n (WORD_LIMIT - length (sofar ++ a ∷ []))) a (drop end text))
letter_passed n text sofar at a end t =
    let room = WORD_LIMIT - length (sofar ++ a ∷ []) in
    let next : WORD_LIMIT - length sofar ≡ suc room = omega (arith, t.room, length-append sofar (a ∷ [])) in
    ap (λ k. behind sofar (letters_at n k (drop at text))) next
    ∙ ap (behind sofar) (letter_taken n room (drop at text) t.test)
    ∙ ap (λ v. behind sofar (past_letter (letters_at n room) v (past_run (drop at text)))) (sym t.value)
    ∙ ap (λ l. behind sofar (past_letter (letters_at n room) a l)) (sym t.left)

pub turn-ends : (n : ℕ) (text sofar : List ℕ) (at a end : ℕ) → LetterTaken n text sofar at a end → starts_with dot (drop end text) ≡ false →
    left_of n sofar (drop at text) ≡ got (sofar ++ a ∷ []) (drop end text)
turn-ends n text sofar at a end t h =
    letter_passed n text sofar at a end t
    ∙ ap (behind sofar) (letter_ends (letters_at n (WORD_LIMIT - length (sofar ++ a ∷ []))) a (drop end text) (byte_avoided dot (drop end text) h))

-- after a letter and a dot
dot_passed : (n : ℕ) (text sofar : List ℕ) (at a end : ℕ) → LetterTaken n text sofar at a end → starts_with dot (drop end text) ≡ true →
    left_of n sofar (drop at text) ≡ behind (sofar ++ a ∷ []) (at_dot (letters_at n (WORD_LIMIT - length (sofar ++ a ∷ []))) (drop (end + 1) text))
dot_passed n text sofar at a end t h =
    letter_passed n text sofar at a end t
    ∙ ap (λ l. behind sofar (past_letter (letters_at n (WORD_LIMIT - length (sofar ++ a ∷ []))) a l)) (byte_at text end dot h).split
    ∙ one_more_letter sofar a (at_dot (letters_at n (WORD_LIMIT - length (sofar ++ a ∷ []))) (drop (end + 1) text))

pub turn-early : (n : ℕ) (text sofar : List ℕ) (at a end : ℕ) → LetterTaken n text sofar at a end → starts_with dot (drop end text) ≡ true → length text ≤ end + 1 →
    left_of n sofar (drop at text) ≡ fault Early (drop (end + 1) text)
turn-early n text sofar at a end t h last =
    let further = letters_at n (WORD_LIMIT - length (sofar ++ a ∷ [])) in
    let none = drop_all (end + 1) text last in
    dot_passed n text sofar at a end t h ∙ ap (λ l. behind (sofar ++ a ∷ []) (at_dot further l)) none ∙ ap (λ l. fault Early l) (sym none)

pub turn-byte : (n : ℕ) (text sofar : List ℕ) (at a end : ℕ) → LetterTaken n text sofar at a end → starts_with dot (drop end text) ≡ true → end + 1 < length text → starts_with_digit (drop (end + 1) text) ≡ false →
    left_of n sofar (drop at text) ≡ fault Byte (drop (end + 1) text)
turn-byte n text sofar at a end t h more no_digit =
    let further = letters_at n (WORD_LIMIT - length (sofar ++ a ∷ [])) in
    let split = byte_first text (end + 1) 0 more in
    let byte = get_or text (end + 1) 0 in
    let rest = drop (end + 1 + 1) text in
    let test : is_ascii_digit byte ≡ false = ap starts_with_digit (sym split) ∙ no_digit in
    dot_passed n text sofar at a end t h
    ∙ ap (λ l. behind (sofar ++ a ∷ []) (at_dot further l)) split
    ∙ ap (λ b. behind (sofar ++ a ∷ []) (after_dot further b byte rest)) test
    ∙ ap (λ l. fault Byte l) (sym split)

pub turn-goes_on : (n : ℕ) (text sofar : List ℕ) (at a end : ℕ) → LetterTaken n text sofar at a end → starts_with dot (drop end text) ≡ true → starts_with_digit (drop (end + 1) text) ≡ true →
    left_of n sofar (drop at text) ≡ left_of n (sofar ++ a ∷ []) (drop (end + 1) text)
turn-goes_on n text sofar at a end t h digit =
    dot_passed n text sofar at a end t h
    ∙ ap (behind (sofar ++ a ∷ [])) (dot_goes_on (letters_at n (WORD_LIMIT - length (sofar ++ a ∷ []))) (drop (end + 1) text) (digit_begun (drop (end + 1) text) digit))

-- a word that takes no further letter is full
pub full_word : (n m : ℕ) → (n < m → IsTrue false) → m ≤ n
full_word n m h = ⊎_elim (λ less. let c : false ≡ true = h less in absurd cc) (λ full. full) (cases_lt n m)
