-- Printed combinations are expressions.
use Rattle.std.proofs.Common.{◌≡◌, ℕ, zero, suc, true, refl, ◌<◌, ◌≤◌, ◌^◌, pos, List, [], ◌∷◌, ◌++◌, map, length, decimal, codes, flat_map, sym, ◌∙◌, ap, ap₂, subst, arith, append_assoc, append-nil}
use Rattle.std.proofs.lemmas.Fmt.{decimal_is_IsNumeral, length-decimal-le}
use Rattle.std.proofs.lemmas.List.{length-map}
use Rattle.std.specs.List.{AllByRecursion}
use Rattle.nichols_field.specs.Field.{FieldValue, IsField, IsElement, residue, joined, is_extended, parts_of}
use Rattle.nichols_field.proofs.Parts.{joined_of_parts, residue_of_low, second_number_extends, parts_bounds}
use Rattle.nichols_braid.specs.Braid.{BraidValue, IsBraid}
use Rattle.nichols_braid.specs.Order.{IsOrder, letter_at, in_ranks, in_letters}
use Rattle.nichols_braid.proofs.Ranks.{letter_is_letter, ranks_of_letters}
use Rattle.nichols_tensor.specs.Combination.{Term, Combination, AllElements}
use Rattle.nichols_tensor.specs.Words.{IsLetterOf, IsWordOver, IsOver}
use Rattle.nichols_tensor.specs.InOrder.{in_order}
use Rattle.nichols_tensor.specs.declared.TheConstants.{WORD_LIMIT}
use Rattle.nichols_expression.specs.Bytes.{space, opening, closing, comma, star, plus_byte}
use Rattle.nichols_expression.specs.declared.signs.Sign.TheVariants.{Positive}
use Rattle.nichols_expression.specs.Grammar.{no_spaces, one_more, plus_sign, letter, IsLetters, last_letter, next_letter, IsWordText, empty_word, letters, IsNumber, number, IsCoefficient, one_number, pair, IsTermText, multiple, IsTerms, last_term, next_term, unsigned, IsExpression, nothing, terms}
use Rattle.nichols_expression.specs.Printed.{word_text, parts_text, coefficient_text, term_text, form_text}
use Rattle.nichols_expression.specs.Laws.{IsExpressionOf, IsPrintable, PrintedCombinationsAreReadAgain}
use Rattle.nichols_expression.proofs.GrammarLaws.{grammar_is_accepted}
use Rattle.nichols_tensor.proofs.InOrder.{in_order_itself}
use Rattle.nichols_expression.specs.declared.TheConstants.{NUMBER_LIMIT, TERM_LIMIT}

-- ---- words

-- the letters of further ranks, each behind a dot
abbrev dotted : List ℕ → List ℕ → List ℕ
dotted order w = flat_map (λ b. codes "." ++ decimal (letter_at order b)) w

letters_printed : (n : ℕ) (order : List ℕ) → IsOrder n order → (r : ℕ) (w : List ℕ) → IsLetterOf n r → IsWordOver n w → IsLetters n (decimal (letter_at order r) ++ dotted order w) (map (letter_at order) (r ∷ w))
letters_printed n order o r [] is h = subst (λ t. IsLetters n t (letter_at order r ∷ [])) (sym (append-nil (decimal (letter_at order r)))) (last_letter (letter (letter_is_letter n order o r is)))
letters_printed n order o r (s ∷ w) is h = next_letter (letter (letter_is_letter n order o r is)) (letters_printed n order o s w h.0 h.1)

word_printed : (n : ℕ) (order : List ℕ) → IsOrder n order → (w : List ℕ) → IsWordOver n w → length w ≤ WORD_LIMIT → IsWordText n (word_text order w) (map (letter_at order) w)
unfolding word_text
word_printed n order o [] h short = empty_word
word_printed n order o (r ∷ w) h short = letters (letters_printed n order o r w h.0 h.1) (omega (arith, short, length-map (r ∷ w) (letter_at order)))

-- ---- terms

number_printed : (u : ℕ) → u < 65522 → IsNumber (decimal u) u
number_printed u below =
    let few : u < 10 ^ NUMBER_LIMIT = omega (arith, below) in
    let small : u < 2 ^ 64 = omega (arith, below) in
    let d = decimal_is_IsNumeral u small in
    subst (IsNumber (decimal u)) d.1 (number d.0 (length-decimal-le NUMBER_LIMIT u (omega arith) few small))

-- two numbers as they are printed, of which this is the element
parts_printed : (k : FieldValue) (u v c : ℕ) → u < 65522 → v < 65522 → (v ≡ 0 → residue k (pos u) ≡ c) → (0 < v → is_extended k ≡ true) → joined k (pos u) (pos v) ≡ c → IsCoefficient k (parts_text u v) c
parts_printed k u zero c low high alone extends both = subst (IsCoefficient k (decimal u)) (alone refl) (one_number (number_printed u low))
parts_printed k u (suc v) c low high alone extends both =
    let written : opening ∷ [] ++ decimal u ++ [] ++ comma ∷ [] ++ decimal (suc v) ++ [] ++ closing ∷ [] ≡ parts_text u (suc v) = simp (append_assoc, append-nil) in
    subst (λ l. IsCoefficient k l c) written
    (subst (IsCoefficient k (opening ∷ [] ++ decimal u ++ [] ++ comma ∷ [] ++ decimal (suc v) ++ [] ++ closing ∷ [])) both
    (pair (extends (omega arith)) no_spaces (number_printed u low) no_spaces no_spaces (number_printed (suc v) high) no_spaces))

coefficient_printed : (k : FieldValue) → IsField k → (c : ℕ) → IsElement k c → IsCoefficient k (coefficient_text k c) c
unfolding coefficient_text
coefficient_printed k is c e =
    let bounds = parts_bounds k c is e in
    parts_printed k (parts_of k c).low (parts_of k c).high c bounds.0 bounds.1 (residue_of_low k c is e) (λ some. second_number_extends k c is e (λ none. absurd (omega (arith, some, none)))) (joined_of_parts k c is e)

term_printed : (k : FieldValue) → IsField k → (n : ℕ) (order : List ℕ) → IsOrder n order → (t : Term) → IsElement k t.coefficient → IsWordOver n t.word → length t.word ≤ WORD_LIMIT →
    IsTermText k n (term_text k order t) (record { word = map (letter_at order) t.word; coefficient = t.coefficient })
unfolding term_text
term_printed k is n order o t e over short =
    subst (λ l. IsTermText k n (l ++ star ∷ [] ++ word_text order t.word) (record { word = map (letter_at order) t.word; coefficient = t.coefficient })) (append-nil (coefficient_text k t.coefficient))
    (multiple (coefficient_printed k is t.coefficient e) no_spaces no_spaces (word_printed n order o t.word over short))

-- ---- expressions

abbrev joined_terms : FieldValue → List ℕ → Combination → List ℕ
joined_terms k order f = flat_map (λ u. codes " + " ++ term_text k order u) f

terms_printed : (k : FieldValue) → IsField k → (n : ℕ) (order : List ℕ) → IsOrder n order → (t : Term) (f : Combination) → AllElements k (t ∷ f) → IsOver n (t ∷ f) → AllByRecursion (λ s. length s.word ≤ WORD_LIMIT) (t ∷ f) →
    IsTerms k n Positive (term_text k order t ++ joined_terms k order f) (in_letters order (t ∷ f))
terms_printed k is n order o t [] e over short =
    subst (λ l. IsTerms k n Positive l (in_letters order (t ∷ []))) (sym (append-nil (term_text k order t))) (last_term (term_printed k is n order o t e.0 over.0 short.0))
terms_printed k is n order o t (u ∷ f) e over short =
    subst (λ l. IsTerms k n Positive l (in_letters order (t ∷ u ∷ f)))
    (append_assoc (term_text k order t ++ space ∷ []) (plus_byte ∷ space ∷ []) (term_text k order u ++ joined_terms k order f) ∙ append_assoc (term_text k order t) (space ∷ []) (plus_byte ∷ space ∷ (term_text k order u ++ joined_terms k order f)))
    (next_term (term_printed k is n order o t e.0 over.0 short.0) (one_more no_spaces) plus_sign (one_more no_spaces) (terms_printed k is n order o u f e.1 over.1 short.1))

form_printed : (braid : BraidValue) → IsBraid braid → (order : List ℕ) → IsOrder braid.letters order → (f : Combination) → IsPrintable braid f → IsExpression braid.field braid.letters (form_text braid.field order f) (in_letters order f)
unfolding form_text
form_printed braid is order o [] h = nothing no_spaces no_spaces
form_printed braid is order o (t ∷ f) h =
    let few : length (in_letters order (t ∷ f)) ≤ TERM_LIMIT = omega (arith, h.few, length-map (t ∷ f) (λ s. (let r : Term = record { word = map (letter_at order) s.word; coefficient = s.coefficient } in r))) in
    subst (λ l. IsExpression braid.field braid.letters l (in_letters order (t ∷ f))) (append-nil (term_text braid.field order t ++ joined_terms braid.field order f))
    (terms no_spaces (unsigned (terms_printed braid.field is.field braid.letters order o t f h.elements h.letters h.short)) few no_spaces)

ranks_back : (n : ℕ) (order : List ℕ) → IsOrder n order → (f : Combination) → IsOver n f → in_ranks order (in_letters order f) ≡ f
ranks_back n order o [] over = refl
ranks_back n order o (t ∷ f) over =
    ap₂ (λ (v : List ℕ) (g : Combination). record { word = v; coefficient = t.coefficient } ∷ g) (ranks_of_letters n order o t.word over.0) (ranks_back n order o f over.1)

pub printed_combinations_are_read_again : PrintedCombinationsAreReadAgain
printed_combinations_are_read_again braid is order o f h =
    let value : f ≡ in_order braid.field (in_ranks order (in_letters order f)) = sym (ap (in_order braid.field) (ranks_back braid.letters order o f h.letters) ∙ in_order_itself braid.field is.field f h.elements h.ordered) in
    let expression : IsExpressionOf braid order (form_text braid.field order f) f = (in_letters order f, form_printed braid is order o f h, value) in
    (expression, (grammar_is_accepted braid is order (form_text braid.field order f) f).1 expression)
