-- Runs of digits and spaces, and what is left after them.
use Rattle.std.proofs.Common.{◌≡◌, ℕ, ◌<◌, Bool, true, false, cond, List, [], ◌∷◌, ◌++◌, refl, ◌∙◌, ap, nat_eq, arith}
use Rattle.std.specs.Char.{digit_value}
use Rattle.std.specs.Str.Parse.{AllDigits}
use Rattle.std.proofs.lemmas.Bool.Decides.{nat_tests, Decides-eqb}
use Rattle.nichols_expression.specs.Bytes.{space}
use Rattle.nichols_expression.specs.Grammar.{IsSpaces, no_spaces, one_more}
use Rattle.std.specs.Char.{is_ascii_digit}
use Rattle.nichols_expression.specs.Reader.{run_at, past_run, past_spaces}

pub digit_by_test : (byte : ℕ) → is_ascii_digit byte ≡ true → digit_value byte < 10
digit_by_test byte h = grind (arith, nat_tests, h)

pub run_split : (text : List ℕ) → text ≡ run_at text ++ past_run text
unfolding run_at past_run
run_split [] = refl
run_split (byte ∷ rest) = at (is_ascii_digit byte) (run_split rest)
  where
    at : (b : Bool) → rest ≡ run_at rest ++ past_run rest → byte ∷ rest ≡ cond b (byte ∷ run_at rest) [] ++ cond b (past_run rest) (byte ∷ rest)
    at true h = ap (λ l. byte ∷ l) h
    at false h = refl

pub run_is_digits : (text : List ℕ) → AllDigits 10 (run_at text)
unfolding run_at
run_is_digits [] = tt
run_is_digits (byte ∷ rest) = at (is_ascii_digit byte) refl (run_is_digits rest)
  where
    at : (b : Bool) → is_ascii_digit byte ≡ b → AllDigits 10 (run_at rest) → AllDigits 10 (cond b (byte ∷ run_at rest) [])
    at true e h = (digit_by_test byte e, h)
    at false e h = tt

pub run_begins : (byte : ℕ) (rest : List ℕ) → is_ascii_digit byte ≡ true → run_at (byte ∷ rest) ≡ byte ∷ run_at rest
unfolding run_at
run_begins byte rest h = ap (λ b. cond b (byte ∷ run_at rest) []) h

-- ---- spaces

abbrev pub SplitsSpaces : List ℕ → List ℕ → Type 0
SplitsSpaces text left = (front : List ℕ) × (text ≡ front ++ left) × IsSpaces front

pub spaces_split : (text : List ℕ) → SplitsSpaces text (past_spaces text)
unfolding past_spaces
spaces_split [] = ([], refl, no_spaces)
spaces_split (byte ∷ rest) = at (nat_eq byte space) refl (spaces_split rest)
  where
    at : (b : Bool) → nat_eq byte space ≡ b → SplitsSpaces rest (past_spaces rest) → SplitsSpaces (byte ∷ rest) (cond b (past_spaces rest) (byte ∷ rest))
    at true e h = (space ∷ h.0, ap (λ l. byte ∷ l) h.1 ∙ ap (λ b. b ∷ (h.0 ++ past_spaces rest)) ((Decides-eqb byte space).0 e), one_more h.2)
    at false e h = ([], refl, no_spaces)
