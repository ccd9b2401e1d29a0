-- Whole expressions of the grammar are read.
use Rattle.std.proofs.Common.{◌≡◌, ◌-◌, ℕ, zero, suc, ◌<◌, ◌≤◌, Bool, true, false, ◌&&◌, cond, List, [], ◌∷◌, ◌++◌, length, refl, sym, ◌∙◌, ap, subst, nat_eq, arith, Some, None, Ok, append_assoc, append-nil}
use Rattle.std.proofs.lemmas.Bool.{and_parts}
use Rattle.std.specs.Str.Parse.{digits_value}
use Rattle.std.proofs.lemmas.Bool.Decides.{Decides-eqb}
use Rattle.nichols_field.specs.Field.{FieldValue}
use Rattle.nichols_tensor.specs.Combination.{Term, Combination}
use Rattle.nichols_tensor.specs.declared.TheConstants.{LETTER_LIMIT}
use Rattle.nichols_expression.specs.declared.TheConstants.{TERM_LIMIT}
use Rattle.nichols_expression.specs.Bytes.{space, star, plus_byte, minus_byte, dot, zero_digit, signed_term}
use Rattle.nichols_expression.specs.declared.signs.Sign.{Sign}
use Rattle.nichols_expression.specs.declared.signs.Sign.TheVariants.{Positive, Reversed}
use Rattle.nichols_expression.specs.Grammar.{IsSpaces, IsSign, plus_sign, minus_sign, IsTermText, IsTerms, last_term, next_term, IsSignedTerms, unsigned, after_sign, IsExpression, nothing, terms}
use Rattle.std.specs.Char.{is_ascii_digit}
use Rattle.nichols_tensor.specs.declared.TheConstants.{WORD_LIMIT}
use Rattle.nichols_expression.specs.Reader.{fault, map_step, run_at, past_run, past_spaces, is_letter_run, past_letter, at_run, letters_at, word_at, with_coefficient, past_first_run, term_at, sign_of, put_first, after_term, past_term, with_term, terms_at, is_empty, signed_by, zero_or_terms, expression_at, read_terms}
use Rattle.nichols_expression.specs.declared.faults.Cause.TheVariants.{Letter}
use Rattle.nichols_expression.proofs.Sound.{spaces_by_test}
use Rattle.nichols_expression.proofs.Fronts.{Begins, Avoids, begins_term, differs, begins_avoids, spaces_avoid, past_gap, all_spaces, run_is, past_run_is}
use Rattle.nichols_expression.proofs.Complete.{IsAfterTerm, TermRead, term_complete, word_of_digit}

-- ---- what comes after a term

spaces_avoid_all : (test : ℕ → Bool) → test space ≡ false → (text : List ℕ) → IsSpaces text → Avoids test text
spaces_avoid_all test e text p = subst (Avoids test) (append-nil text) (spaces_avoid test e text p [] tt)

after_spaces : (text : List ℕ) → IsSpaces text → IsAfterTerm text
after_spaces text p = record {
  no_digit = spaces_avoid_all is_ascii_digit refl text p;
  no_dot = spaces_avoid_all (λ b. nat_eq b dot) refl text p;
  no_star = subst (Avoids (λ b. nat_eq b star)) (sym (all_spaces text p)) tt;
}

-- what is known of a sign's byte
record SignFacts (byte : ℕ) (sign : Sign) : Type 0 where
  known : sign_of byte ≡ Some sign
  no_digit : is_ascii_digit byte ≡ false
  no_dot : nat_eq byte dot ≡ false
  no_star : nat_eq byte star ≡ false
  no_space : nat_eq byte space ≡ false
  no_zero : nat_eq byte zero_digit ≡ false

sign_facts : (byte : ℕ) (sign : Sign) → IsSign byte sign → SignFacts byte sign
sign_facts _ _ plus_sign = record { known = refl; no_digit = refl; no_dot = refl; no_star = refl; no_space = refl; no_zero = refl }
sign_facts _ _ minus_sign = record { known = refl; no_digit = refl; no_dot = refl; no_star = refl; no_space = refl; no_zero = refl }

before_sign : (front : List ℕ) → IsSpaces front → (byte : ℕ) (sign : Sign) → IsSign byte sign → (rest : List ℕ) → IsAfterTerm (front ++ byte ∷ rest)
before_sign front p byte sign is rest =
    let facts = sign_facts byte sign is in
    record {
      no_digit = spaces_avoid is_ascii_digit refl front p (byte ∷ rest) facts.no_digit;
      no_dot = spaces_avoid (λ b. nat_eq b dot) refl front p (byte ∷ rest) facts.no_dot;
      no_star = subst (Avoids (λ b. nat_eq b star)) (sym (past_gap front p (byte ∷ rest) facts.no_space)) facts.no_star;
    }

-- ---- terms

term_read_begins : (field : FieldValue) (n : ℕ) (text : List ℕ) (t : Term) (rest : List ℕ) → TermRead field n text t rest → Begins begins_term text
term_read_begins field n [] t rest h = h
term_read_begins field n (byte ∷ more) t rest h = h.1

terms_step : (field : FieldValue) (n room : ℕ) (sign : Sign) (text : List ℕ) (t : Term) (rest : List ℕ) → TermRead field n text t rest →
    terms_at field n (suc room) sign text ≡ past_term (terms_at field n room) (signed_term field sign t) (past_spaces rest)
unfolding terms_at
terms_step field n room sign [] t rest h = absurd h
terms_step field n room sign (byte ∷ more) t rest h = ap (with_term field (terms_at field n room) sign) h.0

-- the terms are read, and the text begins with one
abbrev pub TermsRead : FieldValue → ℕ → ℕ → Sign → List ℕ → Combination → Type 0
TermsRead field n room sign text f = (terms_at field n room sign text ≡ Ok f) × ((t : Term) × (rest : List ℕ) × TermRead field n text t rest)

last_read : (field : FieldValue) (n : ℕ) → n ≤ LETTER_LIMIT → (room : ℕ) (sign : Sign) (text : List ℕ) (t : Term) → IsTermText field n text t → (back : List ℕ) → IsSpaces back → TermsRead field n (suc room) sign (text ++ back) (signed_term field sign t ∷ [])
last_read field n small room sign text t p back gap =
    let first = term_complete field n small text t p back (after_spaces back gap) in
    (terms_step field n room sign (text ++ back) t back first ∙ ap (past_term (terms_at field n room) (signed_term field sign t)) (all_spaces back gap), (t, back, first))

next_read : (field : FieldValue) (n : ℕ) → n ≤ LETTER_LIMIT → (room : ℕ) (sign next : Sign) (text before after rest : List ℕ) (byte : ℕ) (t : Term) (f : Combination) →
    IsTermText field n text t → IsSpaces before → IsSign byte next → IsSpaces after → TermsRead field n room next rest f → TermsRead field n (suc room) sign (text ++ (before ++ byte ∷ (after ++ rest))) (signed_term field sign t ∷ f)
next_read field n small room sign next text before after rest byte t f p gap is second ih =
    let facts = sign_facts byte next is in
    let tail = byte ∷ (after ++ rest) in
    let first = term_complete field n small text t p (before ++ tail) (before_sign before gap byte next is (after ++ rest)) in
    let no_space = begins_avoids begins_term space refl rest (term_read_begins field n rest ih.1.0 ih.1.1 ih.1.2) in (
      terms_step field n room sign (text ++ (before ++ tail)) t (before ++ tail) first
          ∙ ap (past_term (terms_at field n room) (signed_term field sign t)) (past_gap before gap tail facts.no_space)
          ∙ ap (λ o. after_term (terms_at field n room) (signed_term field sign t) o byte (after ++ rest)) facts.known
          ∙ ap (put_first (signed_term field sign t)) (ap (terms_at field n room next) (past_gap after second rest no_space) ∙ ih.0),
      (t, before ++ tail, first),
    )

pub terms_complete : (field : FieldValue) (n : ℕ) → n ≤ LETTER_LIMIT → (room : ℕ) (sign : Sign) (text : List ℕ) (f : Combination) → IsTerms field n sign text f → length f ≤ room → (back : List ℕ) → IsSpaces back → TermsRead field n room sign (text ++ back) f
terms_complete field n small zero _ _ _ (last_term p) fits back gap = absurd (omega (arith, fits))
terms_complete field n small zero _ _ _ (next_term p before is after ps) fits back gap = absurd (omega (arith, fits))
terms_complete field n small (suc room) _ _ _ (last_term {sign} {text} {t} p) fits back gap = last_read field n small room sign text t p back gap
terms_complete field n small (suc room) _ _ _ (next_term {sign} {next} {text} {before} {after} {rest} {byte} {t} {f} p one is two ps) fits back gap =
    subst (λ l. TermsRead field n (suc room) sign l (signed_term field sign t ∷ f))
    (sym (append_assoc (text ++ before ++ byte ∷ after) rest back ∙ append_assoc (text ++ before) (byte ∷ after) (rest ++ back) ∙ append_assoc text before (byte ∷ (after ++ (rest ++ back)))))
    (next_read field n small room sign next text before after (rest ++ back) byte t f p one is two (terms_complete field n small room next rest f ps (omega (arith, fits)) back gap))

-- ---- the digit 0 alone begins no term

pub not_letter : (n room : ℕ) (text : List ℕ) → is_letter_run n (run_at text) ≡ false → letters_at n (suc room) text ≡ fault Letter text
unfolding letters_at
not_letter n room text h = ap (λ b. at_run (λ t. past_letter (letters_at n room) (digits_value 10 (run_at t)) (past_run t)) b text) h

zero_is_no_letter : (n : ℕ) (rest : List ℕ) → IsSpaces rest → word_at n (zero_digit ∷ rest) ≡ fault Letter (zero_digit ∷ rest)
zero_is_no_letter n rest p =
    word_of_digit n (zero_digit ∷ rest) refl
    ∙ not_letter n (WORD_LIMIT - 1) (zero_digit ∷ rest) (ap (is_letter_run n) (run_is (zero_digit ∷ []) rest (lt_ten, tt) (spaces_avoid_all is_ascii_digit refl rest p)))
  where
    lt_ten : 0 < 10
    lt_ten = omega arith

zero_is_no_term : (field : FieldValue) (n : ℕ) (rest : List ℕ) → IsSpaces rest → term_at field n zero_digit rest ≡ fault Letter (zero_digit ∷ rest)
unfolding term_at
zero_is_no_term field n rest p =
    ap (past_first_run field n (zero_digit ∷ rest)) (ap past_spaces (past_run_is (zero_digit ∷ []) rest (lt_ten, tt) (spaces_avoid_all is_ascii_digit refl rest p)) ∙ all_spaces rest p)
    ∙ ap (map_step (with_coefficient 1)) (zero_is_no_letter n rest p)
  where
    lt_ten : 0 < 10
    lt_ten = omega arith

-- a term isn't taken for the digit 0 alone
not_zero : (field : FieldValue) (n byte : ℕ) (more : List ℕ) (t : Term) (rest : List ℕ) → TermRead field n (byte ∷ more) t rest → (nat_eq byte zero_digit && is_empty (past_spaces more)) ≡ false
not_zero field n byte more t rest h = at (nat_eq byte zero_digit && is_empty (past_spaces more)) refl
  where
    at : (b : Bool) → (nat_eq byte zero_digit && is_empty (past_spaces more)) ≡ b → b ≡ false
    at false e = refl
    at true e =
        let tests = and_parts (nat_eq byte zero_digit) (is_empty (past_spaces more)) e in
        let answer = sym (zero_is_no_term field n more (spaces_by_test more tests.1)) ∙ ap (λ b. term_at field n b more) (sym ((Decides-eqb byte zero_digit).0 tests.0)) ∙ h.0 in
        absurd cc

-- ---- expressions

no_sign : (byte : ℕ) → begins_term byte ≡ true → sign_of byte ≡ None
no_sign byte h =
    ap (λ b. cond b (Some Positive) (cond (nat_eq byte minus_byte) (Some Reversed) None)) (differs begins_term byte plus_byte h refl)
    ∙ ap (λ b. cond b (Some Reversed) None) (differs begins_term byte minus_byte h refl)

expression_of_terms : (field : FieldValue) (n : ℕ) (text : List ℕ) (f : Combination) → TermsRead field n TERM_LIMIT Positive text f → expression_at field n text ≡ Ok f
expression_of_terms field n [] f h = absurd h.1.2
expression_of_terms field n (byte ∷ more) f h =
    ap (λ b. zero_or_terms field n b byte more) (not_zero field n byte more h.1.0 h.1.1 h.1.2)
    ∙ ap (λ o. signed_by field n o byte more) (no_sign byte h.1.2.1)
    ∙ h.0

expression_of_signed : (field : FieldValue) (n byte : ℕ) (sign : Sign) → IsSign byte sign → (between : List ℕ) → IsSpaces between → (text : List ℕ) (f : Combination) → TermsRead field n TERM_LIMIT sign text f →
    expression_at field n (byte ∷ (between ++ text)) ≡ Ok f
expression_of_signed field n byte sign is between gap text f h =
    let facts = sign_facts byte sign is in
    ap (λ b. zero_or_terms field n (b && is_empty (past_spaces (between ++ text))) byte (between ++ text)) facts.no_zero
    ∙ ap (λ o. signed_by field n o byte (between ++ text)) facts.known
    ∙ ap (terms_at field n TERM_LIMIT sign) (past_gap between gap text (begins_avoids begins_term space refl text (term_read_begins field n text h.1.0 h.1.1 h.1.2)))
    ∙ h.0

-- an expression is read from a text, which begins with no space
abbrev ExpressionRead : FieldValue → ℕ → List ℕ → Combination → Type 0
ExpressionRead field n text f = (expression_at field n text ≡ Ok f) × Avoids (λ b. nat_eq b space) text

signed_complete : (field : FieldValue) (n : ℕ) → n ≤ LETTER_LIMIT → (text : List ℕ) (f : Combination) → IsSignedTerms field n text f → length f ≤ TERM_LIMIT → (back : List ℕ) → IsSpaces back → ExpressionRead field n (text ++ back) f
signed_complete field n small _ _ (unsigned {text} {f} p) fits back gap =
    let h = terms_complete field n small TERM_LIMIT Positive text f p fits back gap in
    (expression_of_terms field n (text ++ back) f h, begins_avoids begins_term space refl (text ++ back) (term_read_begins field n (text ++ back) h.1.0 h.1.1 h.1.2))
signed_complete field n small _ _ (after_sign {sign} {byte} {between} {text} {f} is one p) fits back gap =
    let h = terms_complete field n small TERM_LIMIT sign text f p fits back gap in
    subst (λ l. ExpressionRead field n l f) (sym (append_assoc (byte ∷ between) text back))
    (expression_of_signed field n byte sign is between one (text ++ back) f h, (sign_facts byte sign is).no_space)

zero_read : (field : FieldValue) (n : ℕ) (rest : List ℕ) → IsSpaces rest → expression_at field n (zero_digit ∷ rest) ≡ Ok []
zero_read field n rest p = ap (λ l. zero_or_terms field n (is_empty l) zero_digit rest) (all_spaces rest p)

pub read_terms_complete : (field : FieldValue) (n : ℕ) → n ≤ LETTER_LIMIT → (text : List ℕ) (f : Combination) → IsExpression field n text f → read_terms field n text ≡ Ok f
unfolding read_terms
read_terms_complete field n small _ _ (nothing {before} {after} one two) = ap (expression_at field n) (past_gap before one (zero_digit ∷ after) refl) ∙ zero_read field n after two
read_terms_complete field n small _ _ (terms {before} {text} {after} {f} one p fits two) =
    let h = signed_complete field n small text f p fits after two in
    ap (λ l. expression_at field n (past_spaces l)) (append_assoc before text after) ∙ ap (expression_at field n) (past_gap before one (text ++ after) h.1) ∙ h.0
