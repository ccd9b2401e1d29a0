-- Searches along the numbers from 1 on, as loops make them.
use Rattle.std.proofs.Common.{◌≡◌, ℕ, zero, suc, ◌+◌, ◌-◌, ◌<◌, ◌≤◌, true, false, List, [], ◌∷◌, ◌++◌, refl, sym, ◌∙◌, ap, arith, Some, None, append_assoc, append-nil}
use Rattle.std.specs.Prelude.{Option, is_some}
use Rattle.std.specs.Option.{option_or, option_map}
use Rattle.nichols_tensor.specs.Words.{up_to}
use Rattle.nichols_braid.specs.FaultAnswers.{IsFault}
use Rattle.nichols_braid.specs.Faults.{TableFault, first_answer}
use Rattle.nichols_braid.specs.declared.faults.BraidFault.{BraidFault}

pub or_assoc : {X : Type 0} (o p q : Option X) → option_or (option_or o p) q ≡ option_or o (option_or p q)
or_assoc None p q = refl
or_assoc (Some x) p q = refl

pub first_answer-append : {X : Type 0} (f : ℕ → Option X) (xs ys : List ℕ) → first_answer f (xs ++ ys) ≡ option_or (first_answer f xs) (first_answer f ys)
first_answer-append f [] ys = refl
first_answer-append f (x ∷ xs) ys = ap (option_or (f x)) (first_answer-append f xs ys) ∙ sym (or_assoc (f x) (first_answer f xs) (first_answer f ys))

-- the numbers up to n begin with those up to m
up_to-more : (m d : ℕ) → (ys : List ℕ) × (up_to (d + m) ≡ up_to m ++ ys)
up_to-more m zero = let e : 0 + m ≡ m = omega arith in ([], ap up_to e ∙ sym (append-nil (up_to m)))
up_to-more m (suc d) =
    let (ys, e) = up_to-more m d in
    let next : suc d + m ≡ suc (d + m) = omega arith in
    (ys ++ suc (d + m) ∷ [], ap up_to next ∙ ap (λ xs. xs ++ suc (d + m) ∷ []) e ∙ append_assoc (up_to m) ys (suc (d + m) ∷ []))

pub up_to-prefix : (m n : ℕ) → m ≤ n → (ys : List ℕ) × (up_to n ≡ up_to m ++ ys)
up_to-prefix m n h =
    let (ys, e) = up_to-more m (n - m) in
    let same : n - m + m ≡ n = omega arith in
    (ys, ap up_to (sym same) ∙ e)

pub up_to-next : (i : ℕ) → up_to (i + 1) ≡ up_to i ++ (i + 1) ∷ []
up_to-next i = let e : i + 1 ≡ suc i = omega arith in rw e refl

some_first : {X : Type 0} (p q : Option X) → is_some p ≡ true → option_or p q ≡ p
some_first None q h = cc
some_first (Some x) q h = refl

-- no answer up to i, nor at the next number
pub first_answer-more : {X : Type 0} (f : ℕ → Option X) (i : ℕ) → first_answer f (up_to i) ≡ None → f (i + 1) ≡ None → first_answer f (up_to (i + 1)) ≡ None
first_answer-more f i before here =
    ap (first_answer f) (up_to-next i) ∙ first_answer-append f (up_to i) ((i + 1) ∷ [])
    ∙ ap (λ p. option_or p (first_answer f ((i + 1) ∷ []))) before
    ∙ ap (λ p. option_or p None) here

-- no answer up to i, but one at the next number
pub first_answer-found : {X : Type 0} (f : ℕ → Option X) (i n : ℕ) → i < n → first_answer f (up_to i) ≡ None → is_some (f (i + 1)) ≡ true → first_answer f (up_to n) ≡ f (i + 1)
first_answer-found f i n less before some =
    let (ys, e) = up_to-prefix (i + 1) n (omega arith) in
    ap (first_answer f) (e ∙ ap (λ xs. xs ++ ys) (up_to-next i) ∙ append_assoc (up_to i) ((i + 1) ∷ []) ys)
    ∙ first_answer-append f (up_to i) ((i + 1) ∷ ys)
    ∙ ap (λ p. option_or p (first_answer f ((i + 1) ∷ ys))) before
    ∙ some_first (f (i + 1)) (first_answer f ys) some

-- ---- the same for answers of `BraidFault`

no_fault : (o : Option BraidFault) (p : Option TableFault) → IsFault o p → is_some o ≡ false → p ≡ None
no_fault None None e h = refl
no_fault None (Some x) e h = cc
no_fault (Some x) p e h = cc

some_fault : (o : Option BraidFault) (p : Option TableFault) → IsFault o p → is_some o ≡ true → is_some p ≡ true
some_fault None p e h = cc
some_fault (Some x) None e h = cc
some_fault (Some x) (Some y) e h = refl

pub fault-more : (f : ℕ → Option TableFault) (i : ℕ) (o : Option BraidFault) → first_answer f (up_to i) ≡ None → IsFault o (f (i + 1)) → is_some o ≡ false → first_answer f (up_to (i + 1)) ≡ None
fault-more f i o before here none = first_answer-more f i before (no_fault o (f (i + 1)) here none)

pub fault-found : (f : ℕ → Option TableFault) (i n : ℕ) (o : Option BraidFault) → i < n → first_answer f (up_to i) ≡ None → IsFault o (f (i + 1)) → is_some o ≡ true → IsFault o (first_answer f (up_to n))
fault-found f i n o less before here some = here ∙ ap (option_map Some) (sym (first_answer-found f i n less before (some_fault o (f (i + 1)) here some)))
