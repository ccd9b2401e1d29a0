-- What the first fault of a text says.
use Rattle.std.specs.Prelude.{◌≡◌, ◌⊎◌, ℕ, ◌-◌, ◌+◌, ◌<◌, ◌≤◌, List, [], ◌∷◌, ◌++◌, length, drop}
use Rattle.nichols_field.specs.Field.{FieldValue}
use Rattle.nichols_tensor.specs.Combination.{Combination}
use Rattle.nichols_tensor.specs.declared.TheConstants.{WORD_LIMIT}
use Rattle.nichols_expression.specs.declared.TheConstants.{NUMBER_LIMIT, TERM_LIMIT}
use Rattle.nichols_expression.specs.Bytes.{dot}
use Rattle.nichols_expression.specs.Grammar.{IsSpaces, IsSign, IsLetters, IsSignedTerms}
use Rattle.nichols_expression.specs.Reader.{past_run, past_spaces}
use Rattle.nichols_expression.specs.declared.signs.Sign.{Sign}
use Rattle.nichols_expression.specs.declared.faults.ExpressionFault.{ExpressionFault}
use Rattle.nichols_expression.specs.declared.faults.ExpressionFault.TheVariants.{At, Memory}
use Rattle.nichols_expression.specs.declared.faults.Cause.{Cause}
use Rattle.nichols_expression.specs.declared.faults.Cause.TheVariants.{Early, Byte, Letter, LongNumber, LongWord, Terms, Surplus}

-- where the faults of a cause may stand: behind the text where it ends too early, else in the text
abbrev pub IsPlaceOf : List ℕ → Cause → ℕ → Type 0
IsPlaceOf text Early place = place ≡ length text + 1
IsPlaceOf text Byte place = (1 ≤ place) × (place ≤ length text)
IsPlaceOf text Letter place = (1 ≤ place) × (place ≤ length text)
IsPlaceOf text LongNumber place = (1 ≤ place) × (place ≤ length text)
IsPlaceOf text LongWord place = (1 ≤ place) × (place ≤ length text)
IsPlaceOf text Terms place = (1 ≤ place) × (place ≤ length text)
IsPlaceOf text Surplus place = ⊥

-- the fault stands where its cause allows; want of memory has no place
abbrev pub IsPlacedIn : List ℕ → ExpressionFault → Type 0
IsPlacedIn text (At place cause) = IsPlaceOf text cause place
IsPlacedIn text Memory = Unit {0}

-- a front of a text which settles a fault there: it has the byte at the place, which no front has where the text ends too early;
-- of a run that is no letter, the first byte behind the run and the spaces after it; of too long a number, one digit more than a number may have;
-- that of too many expressions is settled by no front
abbrev pub Settles : Cause → ℕ → List ℕ → Type 0
Settles Early place front = place ≤ length front
Settles Byte place front = place ≤ length front
Settles Letter place front = 0 < length (past_spaces (past_run (drop (place - 1) front)))
Settles LongNumber place front = place + NUMBER_LIMIT ≤ length front
Settles LongWord place front = place ≤ length front
Settles Terms place front = place ≤ length front
Settles Surplus place front = ⊥

-- a text that ends with as many letters as a word may have and one dot more
pub record EndsWithLastDot (n : ℕ) (text : List ℕ) : Type 0 where
  pub before : List ℕ
  pub letters : List ℕ
  pub word : List ℕ
  pub split : text ≡ before ++ letters ++ dot ∷ []
  pub is : IsLetters n letters word
  pub full : length word ≡ WORD_LIMIT

-- a text that is as many terms as an expression may have, a sign, and spaces
pub record EndsWithLastSign (field : FieldValue) (n : ℕ) (text : List ℕ) : Type 0 where
  pub before : List ℕ
  pub body : List ℕ
  pub between : List ℕ
  pub byte : ℕ
  pub sign : Sign
  pub after : List ℕ
  pub terms : Combination
  pub split : text ≡ before ++ body ++ between ++ byte ∷ after
  pub gap : IsSpaces before
  pub are : IsSignedTerms field n body terms
  pub spaced : IsSpaces between
  pub signed : IsSign byte sign
  pub blank : IsSpaces after
  pub full : length terms ≡ TERM_LIMIT

-- one of these
abbrev pub EndsInFull : FieldValue → ℕ → List ℕ → Type 0
EndsInFull field n text = EndsWithLastDot n text ⊎ EndsWithLastSign field n text
