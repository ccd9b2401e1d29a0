-- The coefficients of expressions are elements of the field.
use Rattle.std.proofs.Common.{ℕ, pos, List}
use Rattle.nichols_field.specs.Field.{FieldValue, IsField, IsElement}
use Rattle.nichols_field.proofs.Parts.{joined_is_element}
use Rattle.nichols_field.proofs.FieldLaws.{one_is_element, negative_is_element, residue_is_element}
use Rattle.nichols_tensor.specs.Combination.{Term, Combination, AllElements}
use Rattle.nichols_expression.specs.Bytes.{signed_term}
use Rattle.nichols_expression.specs.declared.signs.Sign.{Sign}
use Rattle.nichols_expression.specs.declared.signs.Sign.TheVariants.{Positive, Reversed}
use Rattle.nichols_expression.specs.Grammar.{IsCoefficient, one_number, pair, IsTermText, alone, multiple, IsTerms, last_term, next_term, IsSignedTerms, unsigned, after_sign, IsExpression, nothing, terms}

term_element : (k : FieldValue) → IsField k → (n : ℕ) (text : List ℕ) (t : Term) → IsTermText k n text t → IsElement k t.coefficient
term_element k is n _ _ (alone p) = one_is_element k is
term_element k is n _ _ (multiple {coefficient = digits} {c} p one two q) = at digits c p
  where
    at : (ds : List ℕ) (c : ℕ) → IsCoefficient k ds c → IsElement k c
    at _ _ (one_number q) = residue_is_element k _ is
    at _ _ (pair {u} {v} extended a b c d e f) = joined_is_element k (pos u) (pos v) is extended

signed_element : (k : FieldValue) → IsField k → (sign : Sign) (t : Term) → IsElement k t.coefficient → IsElement k (signed_term k sign t).coefficient
signed_element k is Positive t h = h
signed_element k is Reversed t h = negative_is_element k t.coefficient is

terms_elements : (k : FieldValue) → IsField k → (n : ℕ) (sign : Sign) (text : List ℕ) (f : Combination) → IsTerms k n sign text f → AllElements k f
terms_elements k is n _ _ _ (last_term {sign} {text} {t} p) = (signed_element k is sign t (term_element k is n text t p), tt)
terms_elements k is n _ _ _ (next_term {sign} {next} {text} {rest} {t} {f} p one s two q) = (signed_element k is sign t (term_element k is n text t p), terms_elements k is n next rest f q)

signed_elements : (k : FieldValue) → IsField k → (n : ℕ) (text : List ℕ) (f : Combination) → IsSignedTerms k n text f → AllElements k f
signed_elements k is n _ _ (unsigned {text} {f} p) = terms_elements k is n Positive text f p
signed_elements k is n _ _ (after_sign {sign} {text} {f} s one p) = terms_elements k is n sign text f p

pub expression_elements : (k : FieldValue) → IsField k → (n : ℕ) (text : List ℕ) (f : Combination) → IsExpression k n text f → AllElements k f
expression_elements k is n _ _ (nothing one two) = tt
expression_elements k is n _ _ (terms {text} {f} one p fits two) = signed_elements k is n text f p
