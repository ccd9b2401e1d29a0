-- The first fault of expressions, or all their values.
use Rattle.std.proofs.Common.{◌≡◌, ◌≤◌, ℕ, suc, ◌+◌, Bool, true, false, cond, nat_lt, List, [], ◌∷◌, ◌++◌, length, map, Result, Ok, Err, refl, ap, ap₂, ◌∙◌, arith}
use Rattle.std.proofs.lemmas.Bool.Decides.{nat_tests}
use Rattle.std.specs.Prelude.{◌&&◌}
use Rattle.std.specs.List.{list_all}
use Rattle.std.specs.Result.{is_ok}
use Rattle.nichols_tensor.specs.Combination.{Combination}
use Rattle.nichols_braid.specs.Braid.{BraidValue}
use Rattle.nichols_expression.specs.Reader.{Fault, expression_of}
use Rattle.nichols_expression.specs.declared.faults.Cause.TheVariants.{Surplus}
use Rattle.nichols_expression.specs.declared.TheConstants.{EXPRESSION_LIMIT}
use Rattle.nichols_input.specs.Document.{values_from, value_of, with_number, put_value}
use Rattle.nichols_input.specs.Refusal.{Refusal, expression}

-- the texts are expressions
abbrev pub all_read : BraidValue → List ℕ → List (List ℕ) → Bool
all_read braid order texts = list_all (λ t. is_ok (expression_of braid order t)) texts

-- what is said of texts that are numbered from k on
pub data Told (braid : BraidValue) (order : List ℕ) (k : ℕ) (texts : List (List ℕ)) : Result (List Combination) Refusal → Type 0 where
  values : (fs : List Combination) → k + length texts ≤ suc EXPRESSION_LIMIT → map (expression_of braid order) texts ≡ map (λ f. Ok f) fs → Told braid order k texts (Ok fs)
  fault_at : (before after : List (List ℕ)) (text : List ℕ) (fault : Fault) (number : ℕ) → texts ≡ before ++ text ∷ after → all_read braid order before ≡ true
      → number ≡ k + length before → number ≤ EXPRESSION_LIMIT → expression_of braid order text ≡ Err fault → Told braid order k texts (Err (expression number fault.place fault.cause))
  too_many : (before after : List (List ℕ)) (text : List ℕ) (number : ℕ) → texts ≡ before ++ text ∷ after → all_read braid order before ≡ true
      → number ≡ k + length before → number ≡ suc EXPRESSION_LIMIT → Told braid order k texts (Err (expression number 1 Surplus))

next_number : (n k m : ℕ) → n ≡ suc k + m → n ≡ k + suc m
next_number n k m e = grind (arith, e)

-- a text that is read, before others
one_more : (braid : BraidValue) (order : List ℕ) (k : ℕ) (text : List ℕ) (texts : List (List ℕ)) (f : Combination) → expression_of braid order text ≡ Ok f
    → (r : Result (List Combination) Refusal) → Told braid order (suc k) texts r → Told braid order k (text ∷ texts) (put_value (Ok f) r)
one_more braid order k text texts f is _ (values fs few same) =
    let fewer : k + length (text ∷ texts) ≤ suc EXPRESSION_LIMIT = (let h : suc k + length texts ≤ suc EXPRESSION_LIMIT = few in grind (arith, h)) in
    values (f ∷ fs) fewer (ap₂ (λ x xs. x ∷ xs) is same)
one_more braid order k text texts f is _ (fault_at before after bad fault number split good counted low at) =
    fault_at (text ∷ before) after bad fault number (ap (λ ts. text ∷ ts) split) (ap (λ r. is_ok r && all_read braid order before) is ∙ good) (next_number number k (length before) counted) low at
one_more braid order k text texts f is _ (too_many before after bad number split good counted high) =
    too_many (text ∷ before) after bad number (ap (λ ts. text ∷ ts) split) (ap (λ r. is_ok r && all_read braid order before) is ∙ good) (next_number number k (length before) counted) high

pub values_told : (braid : BraidValue) (order : List ℕ) (texts : List (List ℕ)) (k : ℕ) → k ≤ suc EXPRESSION_LIMIT → Told braid order k texts (values_from braid order k texts)
unfolding values_from
values_told braid order [] k low = values [] (let h : k ≤ suc EXPRESSION_LIMIT = low in grind (arith, h)) refl
values_told braid order (text ∷ texts) k low = by_number (values_told braid order texts (suc k)) (nat_lt EXPRESSION_LIMIT k) refl
  where
    by_text : (suc k ≤ suc EXPRESSION_LIMIT → Told braid order (suc k) texts (values_from braid order (suc k) texts)) → k ≤ EXPRESSION_LIMIT → (r : Result Combination Fault) → expression_of braid order text ≡ r → Told braid order k (text ∷ texts) (put_value (with_number k r) (values_from braid order (suc k) texts))
    by_text later inside (Ok f) is = one_more braid order k text texts f is (values_from braid order (suc k) texts) (later (let h : k ≤ EXPRESSION_LIMIT = inside in grind (arith, h)))
    by_text later inside (Err fault) is = fault_at [] texts text fault k refl refl (omega arith) inside is

    by_number : (suc k ≤ suc EXPRESSION_LIMIT → Told braid order (suc k) texts (values_from braid order (suc k) texts)) → (b : Bool) → nat_lt EXPRESSION_LIMIT k ≡ b → Told braid order k (text ∷ texts) (put_value (cond b (Err (expression k 1 Surplus)) (with_number k (expression_of braid order text))) (values_from braid order (suc k) texts))
    by_number later true over = too_many [] texts text k refl refl (omega arith) (let h : nat_lt EXPRESSION_LIMIT k ≡ true = over in let g : k ≤ suc EXPRESSION_LIMIT = low in grind (arith, nat_tests, h, g))
    by_number later false under = by_text later (let h : nat_lt EXPRESSION_LIMIT k ≡ false = under in grind (arith, nat_tests, h)) (expression_of braid order text) refl

-- ---- and back

-- a text within the limit
within : (braid : BraidValue) (order : List ℕ) (k : ℕ) (text : List ℕ) → k ≤ EXPRESSION_LIMIT → value_of braid order k text ≡ with_number k (expression_of braid order text)
within braid order k text inside =
    let under : nat_lt EXPRESSION_LIMIT k ≡ false = (let h : k ≤ EXPRESSION_LIMIT = inside in grind (arith, nat_tests, h)) in
    ap (λ b. cond b (Err (expression k 1 Surplus)) (with_number k (expression_of braid order text))) under

one_read : (braid : BraidValue) (order : List ℕ) (k : ℕ) (text : List ℕ) (texts : List (List ℕ)) (f : Combination) → k ≤ EXPRESSION_LIMIT → expression_of braid order text ≡ Ok f
    → values_from braid order k (text ∷ texts) ≡ put_value (Ok f) (values_from braid order (suc k) texts)
unfolding values_from
one_read braid order k text texts f inside is = ap (λ v. put_value v (values_from braid order (suc k) texts)) (within braid order k text inside ∙ ap (with_number k) is)

-- the values of texts before others, then the refusal of these
pub past_read : (braid : BraidValue) (order : List ℕ) (before rest : List (List ℕ)) (k : ℕ) (refusal : Refusal) → k + length before ≤ suc EXPRESSION_LIMIT → all_read braid order before ≡ true
    → values_from braid order (k + length before) rest ≡ Err refusal → values_from braid order k (before ++ rest) ≡ Err refusal
past_read braid order [] rest k refusal low good is = let e : k ≡ k + 0 = omega arith in ap (λ n. values_from braid order n rest) e ∙ is
past_read braid order (text ∷ before) rest k refusal low good is = by_text (past_read braid order before rest (suc k) refusal) (expression_of braid order text) refl good
  where
    moved : suc k + length before ≡ k + length (text ∷ before)
    moved = omega arith

    lower : suc k + length before ≤ suc EXPRESSION_LIMIT
    lower = let h : k + length (text ∷ before) ≤ suc EXPRESSION_LIMIT = low in grind (arith, h)

    inside : k ≤ EXPRESSION_LIMIT
    inside = let h : k + length (text ∷ before) ≤ suc EXPRESSION_LIMIT = low in grind (arith, h)

    by_text : (suc k + length before ≤ suc EXPRESSION_LIMIT → all_read braid order before ≡ true → values_from braid order (suc k + length before) rest ≡ Err refusal → values_from braid order (suc k) (before ++ rest) ≡ Err refusal)
        → (r : Result Combination Fault) → expression_of braid order text ≡ r → is_ok r && all_read braid order before ≡ true → values_from braid order k (text ∷ before ++ rest) ≡ Err refusal
    by_text later (Ok f) e g = one_read braid order k text (before ++ rest) f inside e ∙ ap (put_value (Ok f)) (later lower g (ap (λ n. values_from braid order n rest) moved ∙ is))
    by_text later (Err fault) e g = absurd cc

pub refused_text : (braid : BraidValue) (order : List ℕ) (k : ℕ) (text : List ℕ) (texts : List (List ℕ)) (fault : Fault) → k ≤ EXPRESSION_LIMIT → expression_of braid order text ≡ Err fault
    → values_from braid order k (text ∷ texts) ≡ Err (expression k fault.place fault.cause)
unfolding values_from
refused_text braid order k text texts fault inside is = ap (λ v. put_value v (values_from braid order (suc k) texts)) (within braid order k text inside ∙ ap (with_number k) is)

pub surplus_text : (braid : BraidValue) (order : List ℕ) (k : ℕ) (text : List ℕ) (texts : List (List ℕ)) → k ≡ suc EXPRESSION_LIMIT → values_from braid order k (text ∷ texts) ≡ Err (expression k 1 Surplus)
unfolding values_from
surplus_text braid order k text texts is =
    let over : nat_lt EXPRESSION_LIMIT k ≡ true = (let h : k ≡ suc EXPRESSION_LIMIT = is in grind (arith, nat_tests, h)) in
    ap (λ b. put_value (cond b (Err (expression k 1 Surplus)) (with_number k (expression_of braid order text))) (values_from braid order (suc k) texts)) over

pub all_values : (braid : BraidValue) (order : List ℕ) (texts : List (List ℕ)) (fs : List Combination) (k : ℕ) → k + length texts ≤ suc EXPRESSION_LIMIT
    → map (expression_of braid order) texts ≡ map (λ f. Ok f) fs → values_from braid order k texts ≡ Ok fs
unfolding values_from
all_values braid order [] [] k low same = refl
all_values braid order [] (f ∷ fs) k low same = absurd cc
all_values braid order (text ∷ texts) [] k low same = absurd cc
all_values braid order (text ∷ texts) (f ∷ fs) k low same =
    let here : expression_of braid order text ≡ Ok f = cc in
    let later : map (expression_of braid order) texts ≡ map (λ g. Ok g) fs = cc in
    let inside : k ≤ EXPRESSION_LIMIT = (let h : k + length (text ∷ texts) ≤ suc EXPRESSION_LIMIT = low in grind (arith, h)) in
    let lower : suc k + length texts ≤ suc EXPRESSION_LIMIT = (let h : k + length (text ∷ texts) ≤ suc EXPRESSION_LIMIT = low in grind (arith, h)) in
    one_read braid order k text texts f inside here ∙ ap (put_value (Ok f)) (all_values braid order texts fs (suc k) lower later)
