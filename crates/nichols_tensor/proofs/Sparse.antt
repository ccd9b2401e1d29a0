-- Sparse vectors over any key: lists of entries, each with a key and a coefficient. Combinations are such lists, by their words,
-- and rows of cells, by their columns.
use Rattle.std.proofs.Common.{◌≡◌, ◌≢◌, ℕ, zero, suc, ◌≤◌, Bool, true, false, not, cond, List, [], ◌∷◌, length, filter, map, refl, sym, ◌∙◌, ap, ap₂, arith, subst, ◌⊎◌, inl, inr}
use Rattle.std.specs.List.{AllByRecursion}
use Rattle.nichols_field.specs.Field.{FieldValue, IsField, IsElement, plus, times, sum_by}
use Rattle.nichols_field.proofs.FieldLaws.{plus_assoc, plus_zero, zero_is_element}
use Rattle.nichols_field.proofs.FieldAlgebra.{zero_plus, zero_times, plus_times, swap_first}
use Rattle.nichols_field.proofs.Sums.{sum_is_element}
use Rattle.nichols_tensor.specs.Rising.{IsBeforeFirst, IsRisingBy}

-- how entries are read: their keys and coefficients, and a test that tells whether two keys are one
pub record Keyed (X K : Type 0) : Type 0 where
  pub key : X → K
  pub coefficient : X → ℕ
  pub same : K → K → Bool
  pub one : (v w : K) → same v w ≡ true → v ≡ w
  pub itself : (v : K) → same v v ≡ true

-- what an entry adds to the value at a key
abbrev pub value_of : {X K : Type 0} → Keyed X K → K → X → ℕ
value_of s v x = cond (s.same (s.key x) v) (s.coefficient x) 0

-- the value at a key: the sum of the coefficients there
abbrev pub value_by : {X K : Type 0} → Keyed X K → FieldValue → List X → K → ℕ
value_by s k xs v = sum_by k (value_of s v) xs

pub value_is : {X K : Type 0} (s : Keyed X K) (k : FieldValue) → IsField k → (xs : List X) (v : K) → IsElement k (value_by s k xs v)
value_is s k is xs v = sum_is_element k is (value_of s v) xs

pub value_here : {X K : Type 0} (s : Keyed X K) (x : X) (v : K) → s.key x ≡ v → value_of s v x ≡ s.coefficient x
value_here s x v e = ap (λ b. cond b (s.coefficient x) 0) (ap (λ w. s.same w v) e ∙ s.itself v)

pub value_elsewhere : {X K : Type 0} (s : Keyed X K) (x : X) (v : K) → s.key x ≢ v → value_of s v x ≡ 0
value_elsewhere s x v other = at (s.same (s.key x) v) refl
  where
    at : (b : Bool) → s.same (s.key x) v ≡ b → cond b (s.coefficient x) 0 ≡ 0
    at true e = absurd (other (s.one (s.key x) v e))
    at false e = refl

-- ---- the entries whose keys pass a test

chosen : {X K : Type 0} (s : Keyed X K) (k : FieldValue) (b : Bool) (x : X) (rest : List X) (v : K) →
    value_by s k (cond b (x ∷ rest) rest) v ≡ cond b (plus k (value_of s v x) (value_by s k rest v)) (value_by s k rest v)
chosen s k true x rest v = refl
chosen s k false x rest v = refl

-- b: the entry's key passes; c: v passes; d: the entry's key is v
part_step : (k : FieldValue) → IsField k → (b c d : Bool) (left value coefficient : ℕ) → IsElement k value → (d ≡ true → b ≡ c) → left ≡ cond c value 0 →
    cond b (plus k (cond d coefficient 0) left) left ≡ cond c (plus k (cond d coefficient 0) value) 0
part_step k is true true d left value coefficient e h ih = ap (plus k (cond d coefficient 0)) ih
part_step k is true false true left value coefficient e h ih = absurd (cc (h refl))
part_step k is true false false left value coefficient e h ih = ap (plus k 0) ih ∙ plus_zero k 0 (zero_is_element k is)
part_step k is false true true left value coefficient e h ih = absurd (cc (h refl))
part_step k is false true false left value coefficient e h ih = ih ∙ sym (zero_plus k value e)
part_step k is false false d left value coefficient e h ih = ih

zero_or_zero : (b : Bool) → ◌≡◌ {A = ℕ} 0 (cond b 0 0)
zero_or_zero true = refl
zero_or_zero false = refl

-- they have the values at the keys that pass, and 0 elsewhere
pub value_of_part : {X K : Type 0} (s : Keyed X K) (k : FieldValue) → IsField k → (test : K → Bool) (xs : List X) (v : K) →
    value_by s k (filter (λ x. test (s.key x)) xs) v ≡ cond (test v) (value_by s k xs v) 0
value_of_part s k is test [] v = zero_or_zero (test v)
value_of_part s k is test (x ∷ xs) v =
    chosen s k (test (s.key x)) x (filter (λ y. test (s.key y)) xs) v
    ∙ part_step k is (test (s.key x)) (test v) (s.same (s.key x) v) (value_by s k (filter (λ y. test (s.key y)) xs) v) (value_by s k xs v) (s.coefficient x) (value_is s k is xs v)
    (λ e. ap test (s.one (s.key x) v e))
    (value_of_part s k is test xs v)

-- the entries of other keys
abbrev pub others : {X K : Type 0} → Keyed X K → K → List X → List X
others s v xs = filter (λ x. not (s.same (s.key x) v)) xs

pub value_of_others : {X K : Type 0} (s : Keyed X K) (k : FieldValue) → IsField k → (v : K) (xs : List X) (w : K) → value_by s k (others s v xs) w ≡ cond (s.same w v) 0 (value_by s k xs w)
value_of_others s k is v xs w = value_of_part s k is (λ u. not (s.same u v)) xs w ∙ at (s.same w v)
  where
    at : (b : Bool) → cond (not b) (value_by s k xs w) 0 ≡ cond b 0 (value_by s k xs w)
    at true = refl
    at false = refl

fewer : {X K : Type 0} (s : Keyed X K) (v : K) (xs : List X) → length (others s v xs) ≤ length xs
fewer s v [] = omega arith
fewer s v (x ∷ xs) = at (s.same (s.key x) v) (fewer s v xs)
  where
    at : (b : Bool) → length (others s v xs) ≤ length xs → length (cond (not b) (x ∷ others s v xs) (others s v xs)) ≤ suc (length xs)
    at true h = omega arith
    at false h = omega arith

-- ---- sums of coefficients, each times a number that its key has

abbrev pub weighted : {X K : Type 0} → Keyed X K → FieldValue → (K → ℕ) → X → ℕ
weighted s k φ x = times k (s.coefficient x) (φ (s.key x))

split_step : {X K : Type 0} (s : Keyed X K) (k : FieldValue) → IsField k → (φ : K → ℕ) (x : X) (rest : List X) (value p all : ℕ) → IsElement k value →
    all ≡ plus k (times k value p) (sum_by k (weighted s k φ) rest) → (b : Bool) → (b ≡ true → φ (s.key x) ≡ p) →
    plus k (weighted s k φ x) all ≡ plus k (times k (plus k (cond b (s.coefficient x) 0) value) p) (sum_by k (weighted s k φ) (cond (not b) (x ∷ rest) rest))
split_step s k is φ x rest value p all element e true h =
    ap (plus k (weighted s k φ x)) e ∙ sym (plus_assoc k (weighted s k φ x) (times k value p) (sum_by k (weighted s k φ) rest))
    ∙ ap (λ n. plus k (plus k (times k (s.coefficient x) n) (times k value p)) (sum_by k (weighted s k φ) rest)) (h refl)
    ∙ ap (λ n. plus k n (sum_by k (weighted s k φ) rest)) (sym (plus_times k (s.coefficient x) value p))
split_step s k is φ x rest value p all element e false h =
    ap (plus k (weighted s k φ x)) e ∙ swap_first k (weighted s k φ x) (times k value p) (sum_by k (weighted s k φ) rest)
    ∙ ap (λ n. plus k (times k n p) (plus k (weighted s k φ x) (sum_by k (weighted s k φ) rest))) (sym (zero_plus k value element))

-- a sum is the part of one key and that of the others
pub sum_split : {X K : Type 0} (s : Keyed X K) (k : FieldValue) → IsField k → (φ : K → ℕ) (v : K) (xs : List X) →
    sum_by k (weighted s k φ) xs ≡ plus k (times k (value_by s k xs v) (φ v)) (sum_by k (weighted s k φ) (others s v xs))
sum_split s k is φ v [] = sym (plus_zero k 0 (zero_is_element k is)) ∙ ap (λ n. plus k n 0) (sym (zero_times k (φ v) is))
sum_split s k is φ v (x ∷ xs) =
    split_step s k is φ x (others s v xs) (value_by s k xs v) (φ v) (sum_by k (weighted s k φ) xs) (value_is s k is xs v) (sum_split s k is φ v xs) (s.same (s.key x) v)
    (λ e. ap φ (s.one (s.key x) v e))

zero_left : (c : Bool) (n : ℕ) → n ≡ 0 → cond c 0 n ≡ 0
zero_left true n e = refl
zero_left false n e = e

weightless_below : {X K : Type 0} (n : ℕ) (s : Keyed X K) (k : FieldValue) → IsField k → (φ : K → ℕ) (xs : List X) → length xs ≤ n → ((v : K) → value_by s k xs v ≡ 0) →
    sum_by k (weighted s k φ) xs ≡ 0
weightless_below n s k is φ [] short h = refl
weightless_below zero s k is φ (x ∷ xs) short h = absurd (omega arith)
weightless_below {X} (suc n) s k is φ (x ∷ xs) short h =
    let rest : List X = others s (s.key x) (x ∷ xs) in
    let gone : rest ≡ others s (s.key x) xs = ap (λ b. cond (not b) (x ∷ others s (s.key x) xs) (others s (s.key x) xs)) (s.itself (s.key x)) in
    let none : sum_by k (weighted s k φ) rest ≡ 0 =
    weightless_below n s k is φ rest (subst (λ r. length r ≤ n) (sym gone) (omega (arith, fewer s (s.key x) xs)))
    (λ v. value_of_others s k is (s.key x) (x ∷ xs) v ∙ zero_left (s.same v (s.key x)) (value_by s k (x ∷ xs) v) (h v)) in
    sum_split s k is φ (s.key x) (x ∷ xs) ∙ ap₂ (λ m r. plus k (times k m (φ (s.key x))) r) (h (s.key x)) none
    ∙ ap (λ m. plus k m 0) (zero_times k (φ (s.key x)) is) ∙ plus_zero k 0 (zero_is_element k is)

-- where each value is 0, so is each such sum
pub weightless_by : {X K : Type 0} (s : Keyed X K) (k : FieldValue) → IsField k → (φ : K → ℕ) (xs : List X) → ((v : K) → value_by s k xs v ≡ 0) → sum_by k (weighted s k φ) xs ≡ 0
weightless_by s k is φ xs h = weightless_below (length xs) s k is φ xs (omega arith) h

-- ---- entries whose keys rise

-- a strict order, in which of two keys that aren't one the one stands before the other
pub record IsStrict {K : Type 0} (IsBefore : K → K → Type 0) : Type 0 where
  pub apart : (v w : K) → IsBefore v w → v ≢ w
  pub onward : (u v w : K) → IsBefore u v → IsBefore v w → IsBefore u w
  pub cases : (v w : K) → (v ≡ w) ⊎ (IsBefore v w ⊎ IsBefore w v)

pub before_after : {K : Type 0} {IsBefore : K → K → Type 0} → IsStrict IsBefore → (v w : K) (us : List K) → IsBefore v w → IsBeforeFirst IsBefore w us → IsBeforeFirst IsBefore v us
before_after o v w [] h b = tt
before_after o v w (u ∷ us) h b = o.onward v w u h b

-- before the first key each value is 0
pub value_before : {X K : Type 0} {IsBefore : K → K → Type 0} (s : Keyed X K) → IsStrict IsBefore → (k : FieldValue) → IsField k → (v : K) (xs : List X) →
    IsBeforeFirst IsBefore v (map s.key xs) → IsRisingBy IsBefore (map s.key xs) → value_by s k xs v ≡ 0
value_before s o k is v [] b r = refl
value_before s o k is v (x ∷ xs) b r =
    ap₂ (plus k) (value_elsewhere s x v (λ e. o.apart v (s.key x) b (sym e))) (value_before s o k is v xs (before_after o v (s.key x) (map s.key xs) b r.0) r.1)
    ∙ plus_zero k 0 (zero_is_element k is)

-- at the first key the value is the first coefficient
pub value_first : {X K : Type 0} {IsBefore : K → K → Type 0} (s : Keyed X K) → IsStrict IsBefore → (k : FieldValue) → IsField k → (x : X) (xs : List X) →
    IsElement k (s.coefficient x) → IsRisingBy IsBefore (map s.key (x ∷ xs)) → value_by s k (x ∷ xs) (s.key x) ≡ s.coefficient x
value_first s o k is x xs e r =
    ap₂ (plus k) (value_here s x (s.key x) refl) (value_before s o k is (s.key x) xs r.0 r.1) ∙ plus_zero k (s.coefficient x) e

-- elsewhere the first entry adds nothing
pub value_past : {X K : Type 0} (s : Keyed X K) (k : FieldValue) → IsField k → (x : X) (xs : List X) (v : K) → s.key x ≢ v → value_by s k (x ∷ xs) v ≡ value_by s k xs v
value_past s k is x xs v other = ap (λ n. plus k n (value_by s k xs v)) (value_elsewhere s x v other) ∙ zero_plus k (value_by s k xs v) (value_is s k is xs v)

-- behind first entries of one key the values agree, where they do with them
same_behind : {X K : Type 0} {IsBefore : K → K → Type 0} (s : Keyed X K) → IsStrict IsBefore → (k : FieldValue) → IsField k → (x y : X) (xs ys : List X) →
    IsRisingBy IsBefore (map s.key (x ∷ xs)) → IsRisingBy IsBefore (map s.key (y ∷ ys)) → s.key x ≡ s.key y →
    ((v : K) → value_by s k (x ∷ xs) v ≡ value_by s k (y ∷ ys) v) → (v : K) → value_by s k xs v ≡ value_by s k ys v
same_behind {X} {K} {IsBefore} s o k is x y xs ys rx ry same e v =
    elim (o.cases (s.key x) v) [
      | inl here ↦
          subst (λ w. value_by s k xs w ≡ value_by s k ys w) here
          (value_before s o k is (s.key x) xs rx.0 rx.1 ∙ sym (value_before s o k is (s.key x) ys (subst (λ w. IsBeforeFirst IsBefore w (map s.key ys)) (sym same) ry.0) ry.1))
      | inr (inl less) ↦ there (o.apart (s.key x) v less)
      | inr (inr more) ↦ there (λ d. o.apart v (s.key x) more (sym d))
    ]
  where
    there : s.key x ≢ v → value_by s k xs v ≡ value_by s k ys v
    there other = sym (value_past s k is x xs v other) ∙ e v ∙ value_past s k is y ys v (λ d. other (same ∙ d))

-- entries whose keys rise, and none of whose coefficients is 0, are told by their values
pub values_tell : {X K : Type 0} {IsBefore : K → K → Type 0} (s : Keyed X K) → IsStrict IsBefore → (k : FieldValue) → IsField k →
    ((x y : X) → s.key x ≡ s.key y → s.coefficient x ≡ s.coefficient y → x ≡ y) → (xs ys : List X) →
    AllByRecursion (λ x. IsElement k (s.coefficient x)) xs → AllByRecursion (λ x. IsElement k (s.coefficient x)) ys →
    IsRisingBy IsBefore (map s.key xs) → IsRisingBy IsBefore (map s.key ys) →
    AllByRecursion (λ x. s.coefficient x ≢ 0) xs → AllByRecursion (λ x. s.coefficient x ≢ 0) ys →
    ((v : K) → value_by s k xs v ≡ value_by s k ys v) → xs ≡ ys
values_tell s o k is agree [] [] ex ey rx ry nx ny e = refl
values_tell s o k is agree [] (y ∷ ys) ex ey rx ry nx ny e = absurd (ny.0 (sym (value_first s o k is y ys ey.0 ry) ∙ sym (e (s.key y))))
values_tell s o k is agree (x ∷ xs) [] ex ey rx ry nx ny e = absurd (nx.0 (sym (value_first s o k is x xs ex.0 rx) ∙ e (s.key x)))
values_tell {X} s o k is agree (x ∷ xs) (y ∷ ys) ex ey rx ry nx ny e =
    elim (o.cases (s.key x) (s.key y)) [
      | inl same ↦
          ap₂ (λ (z : X) (zs : List X). z ∷ zs)
          (agree x y same (sym (value_first s o k is x xs ex.0 rx) ∙ e (s.key x) ∙ ap (value_by s k (y ∷ ys)) same ∙ value_first s o k is y ys ey.0 ry))
          (values_tell s o k is agree xs ys ex.1 ey.1 rx.1 ry.1 nx.1 ny.1 (same_behind s o k is x y xs ys rx ry same e))
      | inr (inl less) ↦ absurd (nx.0 (sym (value_first s o k is x xs ex.0 rx) ∙ e (s.key x) ∙ value_before s o k is (s.key x) (y ∷ ys) less ry))
      | inr (inr more) ↦ absurd (ny.0 (sym (value_first s o k is y ys ey.0 ry) ∙ sym (e (s.key y)) ∙ value_before s o k is (s.key y) (x ∷ xs) more rx))
    ]
