-- The value of an expression that was read, its fault, and what holds of its terms.
use Rattle.std.proofs.Common.{◌≡◌, ◌≤◌, ◌+◌, ◌-◌, ℕ, suc, Bool, true, false, cond, nat_eq, not, List, [], ◌∷◌, Ok, Err, length, map, drop, ◌∙◌, ap, subst, arith}
use Rattle.std.specs.declared.cmp.Ordering.{Ordering}
use Rattle.std.specs.declared.cmp.Ordering.TheVariants.{Less, Equal, Greater}
use Rattle.std.proofs.lemmas.List.{length-drop, length-map}
use Rattle.nichols_field.specs.Field.{FieldValue, IsField}
use Rattle.nichols_braid.specs.Braid.{BraidValue}
use Rattle.nichols_braid.specs.Order.{IsOrder, rank_of, in_ranks}
use Rattle.nichols_braid.proofs.Ranks.{ranks_over}
use Rattle.nichols_tensor.specs.Combination.{Term, Combination, AllElements, without_zeros}
use Rattle.nichols_tensor.specs.InOrder.{with_term, rising_terms, in_order}
use Rattle.nichols_tensor.specs.WordOrder.{word_cmp}
use Rattle.nichols_tensor.specs.Words.{IsWordOver, IsOver}
use Rattle.nichols_expression.specs.declared.TheConstants.{TERM_LIMIT}
use Rattle.nichols_expression.specs.declared.faults.ExpressionFault.{ExpressionFault}
use Rattle.nichols_expression.specs.declared.faults.ExpressionFault.TheVariants.{At, Memory}
use Rattle.nichols_expression.specs.declared.faults.Cause.{Cause}
use Rattle.nichols_expression.specs.declared.signs.Sign.{Sign}
use Rattle.nichols_expression.specs.declared.signs.Sign.TheVariants.{Positive, Reversed}
use Rattle.nichols_expression.specs.Answers.{IsFaultAnswer}
use Rattle.nichols_expression.specs.Bytes.{signed_term}
use Rattle.nichols_expression.specs.Grammar.{IsLetterText, letter, IsLetters, last_letter, next_letter, IsWordText, empty_word, letters, IsTermText, alone, multiple, IsTerms, last_term, next_term, IsSignedTerms, unsigned, after_sign, IsExpression, nothing, terms}
use Rattle.nichols_expression.specs.Reader.{Fault, value_or_fault, read_terms, expression_of}
use Rattle.nichols_expression.specs.Steps.{IsFaultOf}
use Rattle.nichols_expression.proofs.Sound.{Whole, read_terms_sound}
use Rattle.nichols_expression.proofs.Coefficients.{expression_elements}
use Rattle.nichols_tensor.proofs.InOrder.{beside, over-in_order}

-- ---- terms that were read

pub in_grammar : (k : FieldValue) (n : ℕ) (text : List ℕ) (f : Combination) → read_terms k n text ≡ Ok f → IsExpression k n text f
in_grammar k n text f h = subst (Whole (IsExpression k n) text) h (read_terms_sound k n text)

pub read_elements : (k : FieldValue) → IsField k → (n : ℕ) (text : List ℕ) (f : Combination) → read_terms k n text ≡ Ok f → AllElements k f
read_elements k is n text f h = expression_elements k is n text f (in_grammar k n text f h)

letters_over : (n : ℕ) (text w : List ℕ) → IsLetters n text w → IsWordOver n w
letters_over n _ _ (last_letter l) = (of_letter n _ _ l, tt)
  where
    of_letter : (n : ℕ) (text : List ℕ) (a : ℕ) → IsLetterText n text a → (1 ≤ a) × (a ≤ n)
    of_letter n _ _ (letter h) = h
letters_over n _ _ (next_letter {rest = more} {w} l p) = (of_letter n _ _ l, letters_over n more w p)
  where
    of_letter : (n : ℕ) (text : List ℕ) (a : ℕ) → IsLetterText n text a → (1 ≤ a) × (a ≤ n)
    of_letter n _ _ (letter h) = h

pub word_over : (n : ℕ) (text w : List ℕ) → IsWordText n text w → IsWordOver n w
word_over n _ _ empty_word = tt
word_over n _ _ (letters {text} {w} p fits) = letters_over n text w p

term_over : (k : FieldValue) (n : ℕ) (text : List ℕ) (t : Term) → IsTermText k n text t → IsWordOver n t.word
term_over k n _ _ (alone {text} {w} p) = word_over n text w p
term_over k n _ _ (multiple {text} {w} c one two p) = word_over n text w p

signed_over : (k : FieldValue) (n : ℕ) (sign : Sign) (t : Term) → IsWordOver n t.word → IsWordOver n (signed_term k sign t).word
signed_over k n Positive t h = h
signed_over k n Reversed t h = h

terms_over : (k : FieldValue) (n : ℕ) (sign : Sign) (text : List ℕ) (f : Combination) → IsTerms k n sign text f → IsOver n f
terms_over k n _ _ _ (last_term {sign} {text} {t} p) = (signed_over k n sign t (term_over k n text t p), tt)
terms_over k n _ _ _ (next_term {sign} {next} {text} {rest} {t} {f} p one s two q) = (signed_over k n sign t (term_over k n text t p), terms_over k n next rest f q)

signed_terms_over : (k : FieldValue) (n : ℕ) (text : List ℕ) (f : Combination) → IsSignedTerms k n text f → IsOver n f
signed_terms_over k n _ _ (unsigned {text} {f} p) = terms_over k n Positive text f p
signed_terms_over k n _ _ (after_sign {sign} {text} {f} s one p) = terms_over k n sign text f p

pub expression_over : (k : FieldValue) (n : ℕ) (text : List ℕ) (f : Combination) → IsExpression k n text f → IsOver n f
expression_over k n _ _ (nothing one two) = tt
expression_over k n _ _ (terms {text} {f} one p fits two) = signed_terms_over k n text f p

pub read_over : (k : FieldValue) (n : ℕ) (text : List ℕ) (f : Combination) → read_terms k n text ≡ Ok f → IsOver n f
read_over k n text f h = expression_over k n text f (in_grammar k n text f h)

expression_few : (k : FieldValue) (n : ℕ) (text : List ℕ) (f : Combination) → IsExpression k n text f → length f ≤ TERM_LIMIT
expression_few k n _ _ (nothing one two) = omega arith
expression_few k n _ _ (terms one p fits two) = fits

-- ---- no more terms in order than there were

fewer-with_term : (k : FieldValue) (t : Term) (f : Combination) → length (with_term k t f) ≤ suc (length f)
unfolding with_term
fewer-with_term k t [] = omega arith
fewer-with_term k t (u ∷ f) = at (word_cmp t.word u.word) (fewer-with_term k t f)
  where
    at : (o : Ordering) → length (with_term k t f) ≤ suc (length f) → length (beside k t u f (with_term k t f) o) ≤ suc (suc (length f))
    at Less h = omega arith
    at Equal h = omega arith
    at Greater h = omega (arith, h)

fewer-rising_terms : (k : FieldValue) (f : Combination) → length (rising_terms k f) ≤ length f
unfolding rising_terms
fewer-rising_terms k [] = omega arith
fewer-rising_terms k (t ∷ f) = omega (arith, fewer-with_term k t (rising_terms k f), fewer-rising_terms k f)

fewer-without_zeros : (f : Combination) → length (without_zeros f) ≤ length f
fewer-without_zeros [] = omega arith
fewer-without_zeros (t ∷ f) = at (not (nat_eq t.coefficient 0)) (fewer-without_zeros f)
  where
    at : (b : Bool) → length (without_zeros f) ≤ length f → length (cond b (t ∷ without_zeros f) (without_zeros f)) ≤ suc (length f)
    at true h = omega (arith, h)
    at false h = omega (arith, h)

pub fewer-in_order : (k : FieldValue) (f : Combination) → length (in_order k f) ≤ length f
unfolding in_order
fewer-in_order k f = omega (arith, fewer-without_zeros (rising_terms k f), fewer-rising_terms k f)

pub read_few : (k : FieldValue) (n : ℕ) (order text : List ℕ) (f : Combination) → read_terms k n text ≡ Ok f → length (in_order k (in_ranks order f)) ≤ TERM_LIMIT
read_few k n order text f h =
    omega (arith, fewer-in_order k (in_ranks order f), length-map f (λ t. (let r : Term = record { word = map (rank_of order) t.word; coefficient = t.coefficient } in r)), expression_few k n text f (in_grammar k n text f h))

-- ---- in ranks

pub ranks_elements : (k : FieldValue) (order : List ℕ) (f : Combination) → AllElements k f → AllElements k (in_ranks order f)
ranks_elements k order [] h = tt
ranks_elements k order (t ∷ f) h = (h.0, ranks_elements k order f h.1)

pub terms_over_ranks : (n : ℕ) (order : List ℕ) → IsOrder n order → (f : Combination) → IsOver n f → IsOver n (in_ranks order f)
terms_over_ranks n order o [] h = tt
terms_over_ranks n order o (t ∷ f) h = (ranks_over n order o t.word h.0, terms_over_ranks n order o f h.1)

pub over_read : (k : FieldValue) (n : ℕ) (order : List ℕ) → length order ≡ n → IsOrder (length order) order → (text : List ℕ) (f : Combination) → read_terms k n text ≡ Ok f → IsOver n (in_order k (in_ranks order f))
over_read k n order size o text f h = over-in_order n k (in_ranks order f) (terms_over_ranks n order (subst (λ m. IsOrder m order) size o) f (read_over k n text f h))

-- ---- values and faults

pub value_read : (braid : BraidValue) (order text : List ℕ) (f : Combination) → read_terms braid.field braid.letters text ≡ Ok f → expression_of braid order text ≡ Ok (in_order braid.field (in_ranks order f))
unfolding expression_of
value_read braid order text f h = ap (value_or_fault braid.field order text) h

pub fault_read : (braid : BraidValue) (order text : List ℕ) (fault : ExpressionFault) → IsFaultOf text (read_terms braid.field braid.letters text) fault → IsFaultAnswer (expression_of braid order text) fault
unfolding expression_of
fault_read braid order text Memory h = tt
fault_read braid order text (At place cause) h =
    let counted : length text + 1 - length (drop h.0 text) ≡ place = omega (arith, length-drop h.0 text, h.1, h.2) in
    ap (value_or_fault braid.field order text) h.3 ∙ ap (λ n. Err (told n cause)) counted
  where
    told : ℕ → Cause → Fault
    told n cause = record { place = n; cause = cause }
