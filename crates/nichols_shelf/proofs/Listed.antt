-- Lists of blocks, and of edges with values.
use Rattle.std.proofs.Common.{◌≡◌, ◌≢◌, ◌⊎◌, ℕ, zero, suc, ◌+◌, ◌<◌, Bool, true, false, true≢false, cond, eqb, ltb, lt-ltb, ◌||◌, List, [], ◌∷◌, ◌++◌, length, get_or, refl, sym, ap, ◌∙◌, inl, inr, ⊎_elim, eq-eqb, ne_eqb, arith, Option, Some, None}
use Rattle.std.specs.Prelude.{is_some}
use Rattle.std.proofs.lemmas.Bool.{ltb-true, false_from_ne_true}
use Rattle.std.proofs.lemmas.List.Folds.{list_any-append}
use Rattle.std.proofs.lemmas.List.Sums.{sum_by-append}
use mathlib.Core.Option.{some, some-injective, some-ne-none}
use mathlib.Core.Logic.{dite}
use native.Mathlib.Decide.{ℕ_discrete}
use lib.ListN.{get_elem?}
use Rattle.nichols_value.specs.declared.value.BlockValue.{BlockValue}
use Rattle.nichols_shelf.specs.Lists.{is_in, times_in, without, below, noted_value}

-- whether a number stands in a list without another, or in two lists
pub is_in-without : (c b : ℕ) (xs : List ℕ) → is_in c (without b xs) ≡ cond (eqb c b) false (is_in c xs)
is_in-without c b [] = dite (ℕ_discrete c b) (λ e. simp (eq-eqb c b e)) (λ n. simp (ne_eqb c b n))
is_in-without c b (x ∷ xs) = dite (ℕ_discrete b x)
    (λ e. simp (eq-eqb b x e) (is_in-without c b xs ∙ dite (ℕ_discrete c b) (λ p. simp (eq-eqb c b p)) (λ n. simp (ne_eqb c b n, ne_eqb c x (λ q. n (q ∙ sym e))))))
    (λ n. simp (ne_eqb b x n, is_in-without c b xs) (dite (ℕ_discrete c b) (λ p. simp (eq-eqb c b p, ne_eqb c x (λ q. n (sym p ∙ q)))) (λ m. simp (ne_eqb c b m))))

pub gone : (b : ℕ) (xs : List ℕ) → is_in b (without b xs) ≡ false
gone b xs = is_in-without b b xs ∙ ap (λ t. cond t false (is_in b xs)) (eq-eqb b b refl)

pub others_stay : (c b : ℕ) (xs : List ℕ) → c ≢ b → is_in c (without b xs) ≡ is_in c xs
others_stay c b xs n = is_in-without c b xs ∙ ap (λ t. cond t false (is_in c xs)) (ne_eqb c b n)

pub is_in-append : (b : ℕ) (xs ys : List ℕ) → is_in b (xs ++ ys) ≡ (is_in b xs || is_in b ys)
is_in-append b xs ys = list_any-append (λ x. eqb b x) xs ys

pub is_in-below : (b n : ℕ) → is_in b (below n) ≡ ltb b n
is_in-below b zero = sym (false_from_ne_true (ltb b 0) (λ e. let h = ltb-true b 0 e in omega arith))
is_in-below b (suc n) = dite (ℕ_discrete b n)
    (λ e. ap (λ t. t || is_in b (below n)) (eq-eqb b n e) ∙ sym (lt-ltb b (suc n) (omega arith)))
    (λ ne. ap (λ t. t || is_in b (below n)) (ne_eqb b n ne) ∙ (is_in-below b n ∙ further b n ne))
  where
    further : (b n : ℕ) → b ≢ n → ltb b n ≡ ltb b (suc n)
    further b n ne = grind arith

-- how often a number stands in two lists, and at the end of one
pub times_in-append : (b : ℕ) (xs ys : List ℕ) → times_in b (xs ++ ys) ≡ times_in b xs + times_in b ys
times_in-append b xs ys = sum_by-append (λ x. cond (eqb b x) 1 0) xs ys

pub times_in-snoc_same : (b : ℕ) (xs : List ℕ) → times_in b (xs ++ b ∷ []) ≡ times_in b xs + 1
times_in-snoc_same b xs = times_in-append b xs (b ∷ []) ∙ ap (λ t. times_in b xs + (0 + cond t 1 0)) (eq-eqb b b refl)

pub times_in-snoc_other : (c b : ℕ) (xs : List ℕ) → c ≢ b → times_in c (xs ++ b ∷ []) ≡ times_in c xs
times_in-snoc_other c b xs n = times_in-append c xs (b ∷ []) ∙ (ap (λ t. times_in c xs + (0 + cond t 1 0)) (ne_eqb c b n) ∙ omega arith)

-- the value, where there is one
pub value_of : (o : Option BlockValue) → is_some o ≡ true → (x : BlockValue) × (o ≡ Some x)
value_of (Some x) h = (x, refl)
value_of None h = absurd (true≢false (sym h))

-- what is noted of an edge at the head of a list, and in two lists
pub noted_same : (k : ℕ) (x : BlockValue) (xs : List (ℕ × BlockValue)) → noted_value k ((k, x) ∷ xs) ≡ Some x
noted_same k x xs = ap (λ t. cond t (Some x) (noted_value k xs)) (eq-eqb k k refl)

pub noted_other : (j k : ℕ) (x : BlockValue) (xs : List (ℕ × BlockValue)) → j ≢ k → noted_value j ((k, x) ∷ xs) ≡ noted_value j xs
noted_other j k x xs n = ap (λ t. cond t (Some x) (noted_value j xs)) (ne_eqb j k n)

pub noted_more : (k : ℕ) (xs ys : List (ℕ × BlockValue)) → is_some (noted_value k xs) ≡ true → is_some (noted_value k (xs ++ ys)) ≡ true
noted_more k [] ys h = absurd (true≢false (sym h))
noted_more k (x ∷ xs) ys h = two (eqb k x.0) h (noted_more k xs ys)
  where
    two : (t : Bool) → is_some (cond t (Some x.1) (noted_value k xs)) ≡ true → (is_some (noted_value k xs) ≡ true → is_some (noted_value k (xs ++ ys)) ≡ true) → is_some (cond t (Some x.1) (noted_value k (xs ++ ys))) ≡ true
    two true h more = refl
    two false h more = more h

pub noted_later : (k : ℕ) (xs ys : List (ℕ × BlockValue)) → is_some (noted_value k ys) ≡ true → is_some (noted_value k (xs ++ ys)) ≡ true
noted_later k [] ys h = h
noted_later k (x ∷ xs) ys h = two (eqb k x.0) (noted_later k xs ys h)
  where
    two : (t : Bool) → is_some (noted_value k (xs ++ ys)) ≡ true → is_some (cond t (Some x.1) (noted_value k (xs ++ ys))) ≡ true
    two true h = refl
    two false h = h

pub noted_either : (k : ℕ) (xs ys : List (ℕ × BlockValue)) (v : BlockValue) → noted_value k (xs ++ ys) ≡ Some v → (noted_value k xs ≡ Some v) ⊎ (noted_value k ys ≡ Some v)
noted_either k [] ys v h = inr h
noted_either k (x ∷ xs) ys v h = two (eqb k x.0) h (noted_either k xs ys v)
  where
    two : (t : Bool) → cond t (Some x.1) (noted_value k (xs ++ ys)) ≡ Some v → (noted_value k (xs ++ ys) ≡ Some v → (noted_value k xs ≡ Some v) ⊎ (noted_value k ys ≡ Some v)) → (cond t (Some x.1) (noted_value k xs) ≡ Some v) ⊎ (noted_value k ys ≡ Some v)
    two true h rest = inl h
    two false h rest = rest h

-- places of lists
module _ {A : Type 0} where
  pub inside_of : (xs : List A) (i : ℕ) (a : A) → get_elem? xs i ≡ some a → i < length xs
  inside_of [] i a e = absurd (some-ne-none a (sym e))
  inside_of (x ∷ xs) zero a e = omega arith
  inside_of (x ∷ xs) (suc i) a e = let h = inside_of xs i a e in omega arith

  pub at_end : (l : List A) (a b : A) (j : ℕ) → get_elem? (l ++ a ∷ []) j ≡ some b → (get_elem? l j ≡ some b) ⊎ ((j ≡ length l) × (a ≡ b))
  at_end [] a b zero e = inr (refl, some-injective a b e)
  at_end [] a b (suc j) e = absurd (some-ne-none b (sym e))
  at_end (x ∷ xs) a b zero e = inl e
  at_end (x ∷ xs) a b (suc j) e = ⊎_elim inl (λ t. inr (ap suc t.0, t.1)) (at_end xs a b j e)

  pub at_or : (xs : List A) (i : ℕ) (a d : A) → get_elem? xs i ≡ some a → get_or xs i d ≡ a
  at_or [] i a d e = absurd (some-ne-none a (sym e))
  at_or (x ∷ xs) zero a d e = some-injective x a e
  at_or (x ∷ xs) (suc i) a d e = at_or xs i a d e
