-- Which fields the given numbers give.
use Rattle.std.proofs.Common.{◌≡◌, ℕ, Bool, true, false, refl, sym, subst}
use Rattle.std.specs.Prelude.{ℤ, pos, negsuc, Option, None, Some, Ok, Err}
use Rattle.std.proofs.lemmas.Bool.{true≢false}
use Rattle.nichols_field.specs.declared.FieldFault.TheVariants.{OutsideList, Root}
use Rattle.nichols_field.specs.Field.{FieldValue, IsField, is_modulus_integer, prime_field, quadratic_field, root_of, is_extended, numbers_in, residue, modulus_of}
use Rattle.nichols_field.specs.Extended.{unless_root, extended_field}
use Rattle.nichols_field.proofs.Bounds.{residue_below}

pub prime_is_field : (p : ℤ) → is_modulus_integer p ≡ true → IsField (prime_field p)
unfolding IsField prime_field
prime_is_field (pos n) h = (h, tt)
prime_is_field (negsuc n) h = absurd (true≢false (sym h))

pub prime_is_alone : (p : ℤ) → is_extended (prime_field p) ≡ false
unfolding is_extended prime_field
prime_is_alone (pos n) = refl
prime_is_alone (negsuc n) = refl

pub numbers_in-prime : (p : ℤ) → numbers_in (prime_field p) ≡ None
unfolding numbers_in prime_field
numbers_in-prime (pos n) = refl
numbers_in-prime (negsuc n) = refl

pub modulus_of_prime : (n : ℕ) → modulus_of (prime_field (pos n)) ≡ n
unfolding modulus_of prime_field
modulus_of_prime n = refl

pub quadratic_is_extended : (k : FieldValue) (a b : ℤ) → is_extended (quadratic_field k a b) ≡ true
unfolding is_extended quadratic_field
quadratic_is_extended k a b = refl

pub numbers_in-quadratic : (k : FieldValue) (a b : ℤ) → numbers_in (quadratic_field k a b) ≡ Some (residue k a, residue k b)
unfolding numbers_in quadratic_field
numbers_in-quadratic k a b = refl

pub modulus_of_quadratic : (k : FieldValue) (a b : ℤ) → modulus_of (quadratic_field k a b) ≡ modulus_of k
unfolding modulus_of quadratic_field
modulus_of_quadratic k a b = refl

pub quadratic_is_field : (k : FieldValue) (a b : ℤ) → IsField k → root_of k a b ≡ None → IsField (quadratic_field k a b)
unfolding IsField quadratic_field root_of
quadratic_is_field k a b is none = (is.0, record { a = residue_below k a is; b = residue_below k b is; no_root = none })

-- what two integers give beside p: a field that has an extension
pub extended_is_field : (p a b : ℤ) (k : FieldValue) → extended_field p a b ≡ Ok k → IsField k × (is_extended k ≡ true)
extended_is_field p a b k h = listed (is_modulus_integer p) refl
  where
    made : is_modulus_integer p ≡ true → (r : Option ℕ) → root_of (prime_field p) a b ≡ r → unless_root r (quadratic_field (prime_field p) a b) ≡ Ok k → IsField k × (is_extended k ≡ true)
    made m None e g =
        let same : quadratic_field (prime_field p) a b ≡ k = (let c : Ok (quadratic_field (prime_field p) a b) ≡ Ok k = g in cc) in
        subst (λ f. IsField f × (is_extended f ≡ true)) same (quadratic_is_field (prime_field p) a b (prime_is_field p m) e, quadratic_is_extended (prime_field p) a b)
    made m (Some r) e g = absurd (let c : Err (Root r) ≡ Ok k = g in cc)

    listed : (m : Bool) → is_modulus_integer p ≡ m → IsField k × (is_extended k ≡ true)
    listed true m = made m (root_of (prime_field p) a b) refl (rw m at h)
    listed false m = absurd (let c : Err (OutsideList p) ≡ Ok k = (rw m at h) in cc)
