-- Which results fit 32 and 64 bits.
use Rattle.std.proofs.Common.{◌≡◌, ℕ, ◌+◌, ◌-◌, ◌*◌, ◌%◌, ◌<◌, ◌≤◌, ◌^◌, true, sym, arith, ◌∙◌, ap}
use Rattle.std.specs.Prelude.{None}
use Rattle.std.proofs.Math.Nat.{mul_comm}
use Rattle.std.proofs.lemmas.Nat.{mul-le}
use Rattle.nichols_field.specs.Moduli.{is_modulus}
use Rattle.std.specs.Prelude.{ℤ, pos, negsuc}
use Rattle.std.proofs.Math.Nat.{mod-lt}
use Rattle.nichols_field.specs.Field.{FieldValue, IsField, times, residue}
use Rattle.nichols_field.proofs.FieldLaws.{number_below}
use Rattle.nichols_field.proofs.Table.{modulus_bounds}

-- products in the field's range fit 32 bits
pub product_fits : (p a b : ℕ) → is_modulus p ≡ true → a < p → b ≤ p → a * b < 2 ^ 32
product_fits p a b is ea eb =
    let h : (1 < p) × (p < 65522) = modulus_bounds p is in
    omega (arith, mul-le a b 65520 65521 (omega arith) (omega arith))

-- so do sums of an element and a product
pub sum_fits : (p s a b : ℕ) → is_modulus p ≡ true → s < p → a < p → b < p → s + a * b < 2 ^ 32
sum_fits p s a b is es ea eb =
    let h : (1 < p) × (p < 65522) = modulus_bounds p is in
    omega (arith, mul-le a b 65520 65520 (omega arith) (omega arith))

-- the factor that the loop ends with is the inverse
pub last_ratio : (p c a : ℕ) → 1 ≡ (c * a) % p → times (record { modulus = p; extension = None }) a c ≡ 1
unfolding times
last_ratio p c a e = ap (λ n. n % p) (mul_comm a c) ∙ sym e

-- the products in a part of a product fit 48 bits
pub parts_fit : (p b v y : ℕ) → is_modulus p ≡ true → b < p → v < p → y < p → b * v * y < 2 ^ 48
parts_fit p b v y is hb hv hy =
    let h : (1 < p) × (p < 65522) = modulus_bounds p is in
    omega (arith, mul-le (b * v) y (65520 * 65520) 65520 (mul-le b v 65520 65520 (omega arith) (omega arith)) (omega arith))

-- for p up to 101 the parts of a product fit 31 bits
pub parts_are_small : (p a u v x y z : ℕ) → p ≤ 101 → a < p → u < p → v < p → x < p → y < p → z ≤ 2 * (p * p) → z + a * v * y < 2 ^ 31
parts_are_small p a u v x y z small ha hu hv hx hy hz =
    omega (arith, hz, mul-le p p 101 101 small small, mul-le (a * v) y (100 * 100) 100 (mul-le a v 100 100 (omega arith) (omega arith)) (omega arith))

-- the number of a pair fits 32 bits
pub number_fits : (p u v : ℕ) → is_modulus p ≡ true → u < p → v < p → u + p * v < 2 ^ 32
number_fits p u v is hu hv =
    let h : (1 < p) × (p < 65522) = modulus_bounds p is in
    omega (arith, number_below p u v hu hv, mul-le p p 65521 65521 (omega arith) (omega arith))

pub residue_below : (k : FieldValue) (v : ℤ) → IsField k → residue k v < k.modulus
unfolding residue IsField
residue_below k (pos n) is = mod-lt n (let h : (1 < k.modulus) × (k.modulus < 65522) = modulus_bounds k.modulus is.0 in omega arith)
residue_below k (negsuc n) is = let h : (1 < k.modulus) × (k.modulus < 65522) = modulus_bounds k.modulus is.0 in omega arith

-- a norm fits 50 bits
pub norm_fits : (p a b u v m : ℕ) → is_modulus p ≡ true → a < p → b < p → u < p → v < p → m ≤ p → u * (u + a * v) + b * v * m < 2 ^ 50
norm_fits p a b u v m is ha hb hu hv hm =
    let h : (1 < p) × (p < 65522) = modulus_bounds p is in
    let av : a * v ≤ 65520 * 65520 = mul-le a v 65520 65520 (omega arith) (omega arith) in
    let left : u * (u + a * v) ≤ 65520 * (65520 + 65520 * 65520) = mul-le u (u + a * v) 65520 (65520 + 65520 * 65520) (omega arith) (omega (arith, av)) in
    let right : b * v * m ≤ 65520 * 65520 * 65521 = mul-le (b * v) m (65520 * 65520) 65521 (mul-le b v 65520 65520 (omega arith) (omega arith)) (omega arith) in
    omega (arith, left, right)

-- the residue hangs on p alone
pub residue_alike : (k l : FieldValue) (v : ℤ) → k.modulus ≡ l.modulus → residue k v ≡ residue l v
unfolding residue
residue_alike k l (pos n) e = ap (λ p. n % p) e
residue_alike k l (negsuc n) e = ap (λ p. p - 1 - n % p) e
