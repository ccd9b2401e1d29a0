-- The texts that are expressions over n letters, each beside the list of its terms, and the value of these.
use Rattle.std.specs.Prelude.{◌≡◌, ℕ, ◌≤◌, pos, true, List, [], ◌∷◌, ◌++◌, length, decimal}
use Rattle.std.specs.Str.Parse.{IsNumeral, digits_value}
use Rattle.nichols_field.specs.Field.{FieldValue, residue, joined, is_extended}
use Rattle.nichols_tensor.specs.Combination.{Term, Combination}
use Rattle.nichols_tensor.specs.Words.{IsLetterOf}
use Rattle.nichols_tensor.specs.declared.TheConstants.{WORD_LIMIT}
use Rattle.nichols_expression.specs.declared.TheConstants.{NUMBER_LIMIT, TERM_LIMIT}
use Rattle.nichols_expression.specs.Bytes.{space, opening, closing, comma, star, plus_byte, minus_byte, dot, zero_digit, empty_byte, signed_term}
use Rattle.nichols_expression.specs.declared.signs.Sign.{Sign}
use Rattle.nichols_expression.specs.declared.signs.Sign.TheVariants.{Positive, Reversed}

-- spaces = any number of bytes 32
pub data IsSpaces : List ℕ → Type 0 where
  no_spaces : IsSpaces []
  one_more : {rest : List ℕ} → IsSpaces rest → IsSpaces (space ∷ rest)

-- sign = "+" | "-"
pub data IsSign : ℕ → Sign → Type 0 where
  plus_sign : IsSign plus_byte Positive
  minus_sign : IsSign minus_byte Reversed

-- letter = a decimal number from 1 to n without leading zeros
pub data IsLetterText (n : ℕ) : List ℕ → ℕ → Type 0 where
  letter : {a : ℕ} → IsLetterOf n a → IsLetterText n (decimal a) a

-- letter { "." letter }
pub data IsLetters (n : ℕ) : List ℕ → List ℕ → Type 0 where
  last_letter : {text : List ℕ} {a : ℕ} → IsLetterText n text a → IsLetters n text (a ∷ [])
  next_letter : {text rest w : List ℕ} {a : ℕ} → IsLetterText n text a → IsLetters n rest w → IsLetters n (text ++ dot ∷ rest) (a ∷ w)

-- word = "e" | letter { "." letter }
pub data IsWordText (n : ℕ) : List ℕ → List ℕ → Type 0 where
  empty_word : IsWordText n (empty_byte ∷ []) []
  letters : {text w : List ℕ} → IsLetters n text w → length w ≤ WORD_LIMIT → IsWordText n text w

-- number = 1 to NUMBER_LIMIT ASCII digits
pub data IsNumber : List ℕ → ℕ → Type 0 where
  number : {text : List ℕ} → IsNumeral 10 text → length text ≤ NUMBER_LIMIT → IsNumber text (digits_value 10 text)

-- coefficient = number, or with an extension also "(" spaces number spaces "," spaces number spaces ")"
pub data IsCoefficient (field : FieldValue) : List ℕ → ℕ → Type 0 where
  one_number : {text : List ℕ} {u : ℕ} → IsNumber text u → IsCoefficient field text (residue field (pos u))
  pair : {first second one two three four : List ℕ} {u v : ℕ} → is_extended field ≡ true → IsSpaces one → IsNumber first u → IsSpaces two → IsSpaces three → IsNumber second v → IsSpaces four →
      IsCoefficient field (opening ∷ one ++ first ++ two ++ comma ∷ three ++ second ++ four ++ closing ∷ []) (joined field (pos u) (pos v))

-- term = [ coefficient spaces "*" spaces ] word
pub data IsTermText (field : FieldValue) (n : ℕ) : List ℕ → Term → Type 0 where
  alone : {text w : List ℕ} → IsWordText n text w → IsTermText field n text (record { word = w; coefficient = 1 })
  multiple : {coefficient before after text w : List ℕ} {c : ℕ} → IsCoefficient field coefficient c → IsSpaces before → IsSpaces after → IsWordText n text w →
      IsTermText field n (coefficient ++ before ++ star ∷ after ++ text) (record { word = w; coefficient = c })

-- term { spaces sign spaces term }, after a sign
pub data IsTerms (field : FieldValue) (n : ℕ) : Sign → List ℕ → Combination → Type 0 where
  last_term : {sign : Sign} {text : List ℕ} {t : Term} → IsTermText field n text t → IsTerms field n sign text (signed_term field sign t ∷ [])
  next_term : {sign next : Sign} {text before after rest : List ℕ} {byte : ℕ} {t : Term} {f : Combination} →
      IsTermText field n text t → IsSpaces before → IsSign byte next → IsSpaces after → IsTerms field n next rest f →
      IsTerms field n sign (text ++ before ++ byte ∷ after ++ rest) (signed_term field sign t ∷ f)

-- [ sign spaces ] term { spaces sign spaces term }
pub data IsSignedTerms (field : FieldValue) (n : ℕ) : List ℕ → Combination → Type 0 where
  unsigned : {text : List ℕ} {f : Combination} → IsTerms field n Positive text f → IsSignedTerms field n text f
  after_sign : {sign : Sign} {byte : ℕ} {between text : List ℕ} {f : Combination} → IsSign byte sign → IsSpaces between → IsTerms field n sign text f → IsSignedTerms field n (byte ∷ between ++ text) f

-- expression = spaces "0" spaces | spaces [ sign spaces ] term { spaces sign spaces term } spaces
pub data IsExpression (field : FieldValue) (n : ℕ) : List ℕ → Combination → Type 0 where
  nothing : {before after : List ℕ} → IsSpaces before → IsSpaces after → IsExpression field n (before ++ zero_digit ∷ after) []
  terms : {before text after : List ℕ} {f : Combination} → IsSpaces before → IsSignedTerms field n text f → length f ≤ TERM_LIMIT → IsSpaces after → IsExpression field n (before ++ text ++ after) f
