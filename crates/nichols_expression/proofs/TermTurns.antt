-- One turn of the loop over the terms of an expression: the terms so far, and what is left to be read.
use Rattle.std.proofs.Common.{◌≡◌, ◌<◌, ◌≤◌, ◌+◌, ◌-◌, ℕ, zero, suc, List, [], ◌∷◌, ◌++◌, Some, None, Ok, Err, length, drop, get_or, refl, sym, ◌∙◌, ap, append_assoc, arith}
use Rattle.std.proofs.lemmas.List.{length-append, drop_all}
use Rattle.nichols_field.specs.Field.{FieldValue}
use Rattle.nichols_tensor.specs.Combination.{Term, Combination}
use Rattle.nichols_expression.specs.Bytes.{signed_term}
use Rattle.nichols_expression.specs.declared.signs.Sign.{Sign}
use Rattle.nichols_expression.specs.Reader.{FaultAt, Step, got, fault, past_spaces, term_at, sign_of, Read, put_first, after_term, past_term, with_term, terms_at}
use Rattle.nichols_expression.specs.declared.TheConstants.{TERM_LIMIT}
use Rattle.nichols_expression.specs.declared.faults.Cause.{Cause}
use Rattle.nichols_expression.specs.declared.faults.Cause.TheVariants.{Early, Byte, Terms}
use Rattle.nichols_expression.proofs.Scanning.{byte_first}
use Rattle.nichols_expression.proofs.TermSteps.{term_from}

-- what is read, behind the terms so far
abbrev pub behind_terms : Combination → Read → Read
behind_terms sofar (Ok f) = Ok (sofar ++ f)
behind_terms sofar (Err e) = Err e

one_more_term : (sofar : Combination) (t : Term) (r : Read) → behind_terms sofar (put_first t r) ≡ behind_terms (sofar ++ t ∷ []) r
one_more_term sofar t (Ok f) = ap (λ g. Ok g) (sym (append_assoc sofar (t ∷ []) f))
one_more_term sofar t (Err e) = refl

term_taken : (field : FieldValue) (n room : ℕ) (sign : Sign) (byte : ℕ) (rest : List ℕ) (r : Step Term) → term_at field n byte rest ≡ r → terms_at field n (suc room) sign (byte ∷ rest) ≡ with_term field (terms_at field n room) sign r
unfolding terms_at
term_taken field n room sign byte rest r h = ap (with_term field (terms_at field n room) sign) h

term_turn-goes_on : (field : FieldValue) (n room : ℕ) (sign next : Sign) (byte : ℕ) (rest left : List ℕ) (t : Term) (c : ℕ) (more : List ℕ) (sofar : Combination) →
    term_at field n byte rest ≡ got t left → past_spaces left ≡ c ∷ more → sign_of c ≡ Some next →
    behind_terms sofar (terms_at field n (suc room) sign (byte ∷ rest)) ≡ behind_terms (sofar ++ signed_term field sign t ∷ []) (terms_at field n room next (past_spaces more))
term_turn-goes_on field n room sign next byte rest left t c more sofar h e k =
    ap (behind_terms sofar)
    (term_taken field n room sign byte rest (got t left) h ∙ ap (past_term (terms_at field n room) (signed_term field sign t)) e
    ∙ ap (λ o. after_term (terms_at field n room) (signed_term field sign t) o c more) k)
    ∙ one_more_term sofar (signed_term field sign t) (terms_at field n room next (past_spaces more))

term_turn-ends : (field : FieldValue) (n room : ℕ) (sign : Sign) (byte : ℕ) (rest left : List ℕ) (t : Term) (sofar : Combination) →
    term_at field n byte rest ≡ got t left → past_spaces left ≡ [] → behind_terms sofar (terms_at field n (suc room) sign (byte ∷ rest)) ≡ Ok (sofar ++ signed_term field sign t ∷ [])
term_turn-ends field n room sign byte rest left t sofar h e =
    ap (behind_terms sofar) (term_taken field n room sign byte rest (got t left) h ∙ ap (past_term (terms_at field n room) (signed_term field sign t)) e)

term_turn-no_sign : (field : FieldValue) (n room : ℕ) (sign : Sign) (byte : ℕ) (rest left : List ℕ) (t : Term) (c : ℕ) (more : List ℕ) (sofar : Combination) →
    term_at field n byte rest ≡ got t left → past_spaces left ≡ c ∷ more → sign_of c ≡ None → behind_terms sofar (terms_at field n (suc room) sign (byte ∷ rest)) ≡ fault Byte (c ∷ more)
term_turn-no_sign field n room sign byte rest left t c more sofar h e k =
    ap (behind_terms sofar)
    (term_taken field n room sign byte rest (got t left) h ∙ ap (past_term (terms_at field n room) (signed_term field sign t)) e
    ∙ ap (λ o. after_term (terms_at field n room) (signed_term field sign t) o c more) k)

term_turn-fault : (field : FieldValue) (n room : ℕ) (sign : Sign) (byte : ℕ) (rest : List ℕ) (e : FaultAt) (sofar : Combination) →
    term_at field n byte rest ≡ Err e → behind_terms sofar (terms_at field n (suc room) sign (byte ∷ rest)) ≡ Err e
term_turn-fault field n room sign byte rest e sofar h = ap (behind_terms sofar) (term_taken field n room sign byte rest (Err e) h)

nothing_left : (field : FieldValue) (n room : ℕ) (sign : Sign) → terms_at field n room sign [] ≡ fault Early []
unfolding terms_at
nothing_left field n zero sign = refl
nothing_left field n (suc room) sign = refl

no_room : (field : FieldValue) (n : ℕ) (sign : Sign) (byte : ℕ) (rest : List ℕ) → terms_at field n 0 sign (byte ∷ rest) ≡ fault Terms (byte ∷ rest)
unfolding terms_at
no_room field n sign byte rest = refl

-- ---- the turns, by places of the text

-- what is left to be read behind the terms so far
abbrev pub left_terms : FieldValue → ℕ → Combination → Sign → List ℕ → Read
left_terms field n sofar sign text = behind_terms sofar (terms_at field n (TERM_LIMIT - length sofar) sign text)

pub turn-early : (field : FieldValue) (n : ℕ) (sofar : Combination) (sign : Sign) (text : List ℕ) (at : ℕ) → length text ≤ at → left_terms field n sofar sign (drop at text) ≡ fault Early (drop at text)
turn-early field n sofar sign text at last = ap (left_terms field n sofar sign) none ∙ ended (TERM_LIMIT - length sofar) ∙ ap (λ l. fault Early l) (sym none)
  where
    none : drop at text ≡ []
    none = drop_all at text last

    ended : (room : ℕ) → behind_terms sofar (terms_at field n room sign []) ≡ fault Early []
    ended room = ap (behind_terms sofar) (nothing_left field n room sign)

pub turn-full : (field : FieldValue) (n : ℕ) (sofar : Combination) (sign : Sign) (text : List ℕ) (at : ℕ) → at < length text → TERM_LIMIT ≤ length sofar → left_terms field n sofar sign (drop at text) ≡ fault Terms (drop at text)
turn-full field n sofar sign text at more full =
    let split = byte_first text at 0 more in
    let none : TERM_LIMIT - length sofar ≡ 0 = omega (arith, full) in
    ap (λ room. behind_terms sofar (terms_at field n room sign (drop at text))) none
    ∙ ap (λ l. behind_terms sofar (terms_at field n 0 sign l)) split
    ∙ ap (behind_terms sofar) (no_room field n sign (get_or text at 0) (drop (at + 1) text))
    ∙ ap (λ l. fault Terms l) (sym split)

-- there is room for the term at a place
room_taken : (field : FieldValue) (n : ℕ) (sofar : Combination) (sign : Sign) (text : List ℕ) (at : ℕ) (t : Term) → at < length text → length sofar < TERM_LIMIT →
    left_terms field n sofar sign (drop at text) ≡ behind_terms sofar (terms_at field n (suc (TERM_LIMIT - length (sofar ++ t ∷ []))) sign (get_or text at 0 ∷ drop (at + 1) text))
room_taken field n sofar sign text at t more room =
    let next : TERM_LIMIT - length sofar ≡ suc (TERM_LIMIT - length (sofar ++ t ∷ [])) = omega (arith, room, length-append sofar (t ∷ [])) in
    ap (λ k. behind_terms sofar (terms_at field n k sign (drop at text))) next
    ∙ ap (λ l. behind_terms sofar (terms_at field n (suc (TERM_LIMIT - length (sofar ++ t ∷ []))) sign l)) (byte_first text at 0 more)

pub turn-stops : (field : FieldValue) (n : ℕ) (sofar : Combination) (sign : Sign) (text : List ℕ) (at : ℕ) (cause : Cause) (left : List ℕ) → at < length text → length sofar < TERM_LIMIT →
    term_from field n text at ≡ fault cause left → left_terms field n sofar sign (drop at text) ≡ fault cause left
turn-stops field n sofar sign text at cause left more room h =
    let t : Term = record { word = []; coefficient = 0 } in
    let stop : FaultAt = record { left = left; cause = cause } in
    room_taken field n sofar sign text at t more room
    ∙ term_turn-fault field n (TERM_LIMIT - length (sofar ++ t ∷ [])) sign (get_or text at 0) (drop (at + 1) text) stop sofar h

pub turn-ends : (field : FieldValue) (n : ℕ) (sofar : Combination) (sign : Sign) (text : List ℕ) (at end behind : ℕ) (t : Term) → at < length text → length sofar < TERM_LIMIT →
    term_from field n text at ≡ got t (drop end text) → drop behind text ≡ past_spaces (drop end text) → length text ≤ behind →
    left_terms field n sofar sign (drop at text) ≡ Ok (sofar ++ signed_term field sign t ∷ [])
turn-ends field n sofar sign text at end behind t more room h gap last =
    room_taken field n sofar sign text at (signed_term field sign t) more room
    ∙ term_turn-ends field n (TERM_LIMIT - length (sofar ++ signed_term field sign t ∷ [])) sign (get_or text at 0) (drop (at + 1) text) (drop end text) t sofar h (sym gap ∙ drop_all behind text last)

pub turn-no_sign : (field : FieldValue) (n : ℕ) (sofar : Combination) (sign : Sign) (text : List ℕ) (at end behind : ℕ) (t : Term) → at < length text → length sofar < TERM_LIMIT →
    term_from field n text at ≡ got t (drop end text) → drop behind text ≡ past_spaces (drop end text) → behind < length text → sign_of (get_or text behind 0) ≡ None →
    left_terms field n sofar sign (drop at text) ≡ fault Byte (drop behind text)
turn-no_sign field n sofar sign text at end behind t more room h gap further none =
    let split = byte_first text behind 0 further in
    room_taken field n sofar sign text at (signed_term field sign t) more room
    ∙ term_turn-no_sign field n (TERM_LIMIT - length (sofar ++ signed_term field sign t ∷ [])) sign (get_or text at 0) (drop (at + 1) text) (drop end text) t (get_or text behind 0) (drop (behind + 1) text) sofar h (sym gap ∙ split) none
    ∙ ap (λ l. fault Byte l) (sym split)

pub turn-goes_on : (field : FieldValue) (n : ℕ) (sofar : Combination) (sign next : Sign) (text : List ℕ) (at end behind after : ℕ) (t : Term) → at < length text → length sofar < TERM_LIMIT →
    term_from field n text at ≡ got t (drop end text) → drop behind text ≡ past_spaces (drop end text) → behind < length text → sign_of (get_or text behind 0) ≡ Some next →
    drop after text ≡ past_spaces (drop (behind + 1) text) → left_terms field n sofar sign (drop at text) ≡ left_terms field n (sofar ++ signed_term field sign t ∷ []) next (drop after text)
turn-goes_on field n sofar sign next text at end behind after t more room h gap further is_sign second =
    room_taken field n sofar sign text at (signed_term field sign t) more room
    ∙ term_turn-goes_on field n (TERM_LIMIT - length (sofar ++ signed_term field sign t ∷ [])) sign next (get_or text at 0) (drop (at + 1) text) (drop end text) t (get_or text behind 0) (drop (behind + 1) text) sofar h
    (sym gap ∙ byte_first text behind 0 further) is_sign
    ∙ ap (left_terms field n (sofar ++ signed_term field sign t ∷ []) next) (sym second)
