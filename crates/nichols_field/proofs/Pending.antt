-- Sums that are reduced once, at the end.
use Rattle.std.proofs.Common.{◌≡◌, ℕ, ◌+◌, ◌*◌, ◌<◌, ◌%◌, ◌/◌, ◌^◌, sym, refl, arith, ◌∙◌, ap, ap₂}
use Rattle.std.specs.Prelude.{Option, None, Some}
use Rattle.std.proofs.Math.Nat.{mod-add-mod, add-mod-mod, mod-eq_of_lt, mod-lt, zero-mod, add-mul-mod_self_left, add-mul-div_left, div-eq_of_lt}
use Rattle.nichols_field.specs.Pairs.{Extension, Pair, pair, pair_of, number_of, pair_sum, pair_product}
use Rattle.nichols_field.specs.Field.{FieldValue, IsField, IsElement, size_in, settled_in, plus, times, element_of_sum}
use Rattle.nichols_field.proofs.Table.{modulus_bounds}
use Rattle.nichols_field.proofs.PairLaws.{pair_of_number}
use Rattle.nichols_field.proofs.FieldLaws.{number_below}

-- ---- in the field of p elements

pub settled_product : (p n a b : ℕ) →
    let k : FieldValue = record { modulus = p; extension = None } in element_of_sum k (n + a * b) ≡ plus k (element_of_sum k n) (times k a b)
unfolding plus times element_of_sum
settled_product p n a b = rw (mod-add-mod, add-mod-mod) refl

pub settled_product_again : (p n a b : ℕ) →
    let k : FieldValue = record { modulus = p; extension = None } in element_of_sum k (n % p + a * b) ≡ plus k (element_of_sum k n) (times k a b)
unfolding plus times element_of_sum
settled_product_again p n a b = rw add-mod-mod refl

pub settled_sum : (p n a : ℕ) → let k : FieldValue = record { modulus = p; extension = None } in element_of_sum k (n + a) ≡ plus k (element_of_sum k n) a
unfolding plus element_of_sum
settled_sum p n a = rw mod-add-mod refl

pub settled_sum_again : (p n a : ℕ) → let k : FieldValue = record { modulus = p; extension = None } in element_of_sum k (n % p + a) ≡ plus k (element_of_sum k n) a
unfolding plus element_of_sum
settled_sum_again p n a = refl

-- ---- in every field

pub settled_zero : (k : FieldValue) → IsField k → element_of_sum k 0 ≡ 0
unfolding element_of_sum
settled_zero k is = at k.modulus k.extension
  where
    at : (p : ℕ) (x : Option Extension) → settled_in p x 0 ≡ 0
    at p None = zero-mod p
    at p (Some t) = ap₂ (λ m n. m + p * n) (zero-mod p) (zero-mod p) ∙ (let s : 0 + p * 0 ≡ 0 = omega arith in s)

pub settled_one : (k : FieldValue) → IsField k → element_of_sum k 1 ≡ 1
unfolding element_of_sum IsField
settled_one k is = at k.modulus k.extension (modulus_bounds k.modulus is.0).0
  where
    at : (p : ℕ) (x : Option Extension) → 1 < p → settled_in p x 1 ≡ 1
    at p None h = mod-eq_of_lt h
    at p (Some t) h = ap₂ (λ m n. m + p * n) (mod-eq_of_lt h) (zero-mod p) ∙ (let s : 1 + p * 0 ≡ 1 = omega arith in s)

pub settled_is_element : (k : FieldValue) (n : ℕ) → IsField k → IsElement k (element_of_sum k n)
unfolding IsField IsElement element_of_sum
settled_is_element k n is = at k.modulus k.extension (modulus_bounds k.modulus is.0).0
  where
    at : (p : ℕ) (x : Option Extension) → 1 < p → settled_in p x n < size_in p x
    at p None h = mod-lt n (omega (arith, h))
    at p (Some t) h = number_below p (n % 2 ^ 32 % p) (n / 2 ^ 32 % p) (mod-lt (n % 2 ^ 32) (omega (arith, h))) (mod-lt (n / 2 ^ 32) (omega (arith, h)))

-- ---- in an extension

-- an unreduced sum whose parts grew by two numbers
pub parts_added : (p : ℕ) (t : Extension) (n low high x y : ℕ) → 0 < p → low % p ≡ n % 2 ^ 32 % p → high % p ≡ n / 2 ^ 32 % p → low + x < 2 ^ 32 →
    let k : FieldValue = record { modulus = p; extension = Some t } in
    element_of_sum k (low + x + 2 ^ 32 * (high + y)) ≡ number_of p (pair_sum p (pair_of p (element_of_sum k n)) (pair x y))
unfolding element_of_sum
parts_added p t n low high x y above el eh small =
    ap₂ (λ i j. i % p + p * (j % p))
    (add-mul-mod_self_left (low + x) (2 ^ 32) (high + y) ∙ mod-eq_of_lt small)
    (add-mul-div_left (low + x) (high + y) (let h : 0 < 2 ^ 32 = omega arith in h) ∙ ap (λ i. i + (high + y)) (div-eq_of_lt small) ∙ (let e : 0 + (high + y) ≡ high + y = omega arith in e))
    ∙ ap₂ (λ i j. i + p * j) (sym (mod-add-mod low p x) ∙ ap (λ i. (i + x) % p) el) (sym (mod-add-mod high p y) ∙ ap (λ i. (i + y) % p) eh)
    ∙ ap (λ (e : Pair). number_of p (pair_sum p e (pair x y))) (sym (pair_of_number p (n % 2 ^ 32 % p) (n / 2 ^ 32 % p) (mod-lt (n % 2 ^ 32) above)))

-- the sum with a product whose parts these are
pub product_added : (p : ℕ) (t : Extension) (s a b x y : ℕ) → 0 < p → pair x y ≡ pair_product p t (pair_of p a) (pair_of p b) →
    let k : FieldValue = record { modulus = p; extension = Some t } in
    number_of p (pair_sum p (pair_of p s) (pair x y)) ≡ plus k s (times k a b)
unfolding plus times
product_added p t s a b x y above e = ap (λ (f : Pair). number_of p (pair_sum p (pair_of p s) f)) (e ∙ at (pair_of p a) (pair_of p b))
  where
    at : (e f : Pair) → pair_product p t e f ≡ pair_of p (number_of p (pair_product p t e f))
    at e f = sym (pair_of_number p ((e.low * f.low + t.b * e.high * f.high) % p) ((e.low * f.high + e.high * f.low + t.a * e.high * f.high) % p) (mod-lt (e.low * f.low + t.b * e.high * f.high) above))

-- added parts needn't be reduced
pub parts_in_sum : (p : ℕ) (e : Pair) (x y : ℕ) → number_of p (pair_sum p e (pair x y)) ≡ number_of p (pair_sum p e (pair (x % p) (y % p)))
parts_in_sum p e x y = ap₂ (λ m n. m + p * n) (sym (add-mod-mod e.low x p)) (sym (add-mod-mod e.high y p))

-- the sum with a product whose parts are these when they are reduced
pub reduced_added : (p : ℕ) (t : Extension) (s a b x y : ℕ) → 0 < p →
    x ≡ (a % p) * (b % p) + t.b * (a / p) * (b / p) → y ≡ (a % p) * (b / p) + (a / p) * (b % p) + t.a * (a / p) * (b / p) →
    let k : FieldValue = record { modulus = p; extension = Some t } in
    number_of p (pair_sum p (pair_of p s) (pair (x % p) (y % p))) ≡ plus k s (times k a b)
reduced_added p t s a b x y above ex ey = product_added p t s a b (x % p) (y % p) above (ap₂ pair (ap (λ n. n % p) ex) (ap (λ n. n % p) ey))

pub unreduced_added : (p : ℕ) (t : Extension) (s a b x y : ℕ) → 0 < p →
    x ≡ (a % p) * (b % p) + t.b * (a / p) * (b / p) → y ≡ (a % p) * (b / p) + (a / p) * (b % p) + t.a * (a / p) * (b / p) →
    let k : FieldValue = record { modulus = p; extension = Some t } in
    number_of p (pair_sum p (pair_of p s) (pair x y)) ≡ plus k s (times k a b)
unreduced_added p t s a b x y above ex ey = parts_in_sum p (pair_of p s) x y ∙ reduced_added p t s a b x y above ex ey
