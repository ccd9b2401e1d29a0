-- An element and its numbers u and v.
use Rattle.std.proofs.Common.{◌≡◌, ◌≢◌, Bool, ℕ, ◌+◌, ◌*◌, ◌<◌, refl, sym, arith, ◌∙◌, ap, ap₂, true, false}
use Rattle.std.specs.Prelude.{ℤ, pos, Option, None, Some, IsTrue}
use Rattle.std.proofs.lemmas.Bool.{true≢false}
use Rattle.std.proofs.Math.Nat.{mod-lt, mod-eq_of_lt}
use Rattle.nichols_field.specs.Pairs.{Extension, Pair, pair, number_of}
use Rattle.nichols_field.specs.Field.{FieldValue, IsField, IsElement, size_in, parts_in, is_extension, parts_of, AreParts, element_of, joined, residue, modulus_of, is_extended}
use Rattle.nichols_field.proofs.Table.{modulus_bounds}
use Rattle.nichols_field.proofs.PairLaws.{pair_of_number, number_of_pair}
use Rattle.nichols_field.proofs.FieldLaws.{number_below, high_below}
use Rattle.nichols_field.proofs.Bounds.{residue_below}

-- the element of an element's numbers is the element
pub element_of_parts : (k : FieldValue) (e : ℕ) → element_of k (parts_of k e) ≡ e
unfolding element_of parts_of
element_of_parts k e = at k.modulus k.extension
  where
    at : (p : ℕ) (x : Option Extension) → number_of p (parts_in p x e) ≡ e
    at p None = let s : e + p * 0 ≡ e = omega arith in s
    at p (Some t) = number_of_pair p e

-- the numbers of the element of two numbers are these
pub parts_of_element : (k : FieldValue) (e : Pair) → AreParts k e → parts_of k (element_of k e) ≡ e
unfolding element_of parts_of is_extended modulus_of
parts_of_element k e are = at k.modulus k.extension are.low are.alone
  where
    at : (p : ℕ) (x : Option Extension) → e.low < p → (is_extension x ≡ false → e.high ≡ 0) → parts_in p x (number_of p e) ≡ e
    at p None low alone = let z : e.high ≡ 0 = alone refl in ap₂ pair (rw z (let s : e.low + p * 0 ≡ e.low = omega arith in s)) (sym z)
    at p (Some t) low alone = pair_of_number p e.low e.high low

-- an element's numbers are below p, and the second is 0 without an extension
pub are_parts : (k : FieldValue) (e : ℕ) → IsField k → IsElement k e → AreParts k (parts_of k e)
unfolding parts_of IsElement IsField is_extended modulus_of
are_parts k e is h = record { low = low k.modulus k.extension (modulus_bounds k.modulus is.0).0 h; high = high k.modulus k.extension (modulus_bounds k.modulus is.0).0 h; alone = alone k.modulus k.extension }
  where
    low : (p : ℕ) (x : Option Extension) → 1 < p → e < size_in p x → (parts_in p x e).low < p
    low p None above h = h
    low p (Some t) above h = mod-lt e (omega (arith, above))

    high : (p : ℕ) (x : Option Extension) → 1 < p → e < size_in p x → (parts_in p x e).high < p
    high p None above h = omega (arith, above)
    high p (Some t) above h = high_below p e h

    alone : (p : ℕ) (x : Option Extension) → is_extension x ≡ false → (parts_in p x e).high ≡ 0
    alone p None h = refl
    alone p (Some t) h = absurd (true≢false h)

-- the element of two such numbers is one
pub element_of_is_element : (k : FieldValue) (e : Pair) → AreParts k e → IsElement k (element_of k e)
unfolding element_of IsElement is_extended modulus_of
element_of_is_element k e are = at k.modulus k.extension are.low are.high are.alone
  where
    at : (p : ℕ) (x : Option Extension) → e.low < p → e.high < p → (is_extension x ≡ false → e.high ≡ 0) → number_of p e < size_in p x
    at p None low high alone = let z : e.high ≡ 0 = alone refl in rw z (let s : e.low + p * 0 < p = omega (arith, low) in s)
    at p (Some t) low high alone = number_below p e.low e.high low high

-- residues are the numbers of an element of an extension
pub residues_are_parts : (k : FieldValue) (u v : ℤ) → IsField k → IsTrue (is_extended k) → AreParts k (pair (residue k u) (residue k v))
unfolding modulus_of
residues_are_parts k u v is extended = record { low = residue_below k u is; high = residue_below k v is; alone = λ h. absurd (true≢false (sym extended ∙ h)) }

pub joined_is_element : (k : FieldValue) (u v : ℤ) → IsField k → IsTrue (is_extended k) → IsElement k (joined k u v)
unfolding joined
joined_is_element k u v is extended = element_of_is_element k (pair (residue k u) (residue k v)) (residues_are_parts k u v is extended)

-- a printed element is read again: its numbers are their own residues
pub joined_of_parts : (k : FieldValue) (e : ℕ) → IsField k → IsElement k e → joined k (pos (parts_of k e).low) (pos (parts_of k e).high) ≡ e
unfolding joined residue modulus_of
joined_of_parts k e is h =
    let are : AreParts k (parts_of k e) = are_parts k e is h in
    ap (element_of k) (ap₂ pair (mod-eq_of_lt are.low) (mod-eq_of_lt are.high)) ∙ element_of_parts k e

pub residue_of_low : (k : FieldValue) (e : ℕ) → IsField k → IsElement k e → (parts_of k e).high ≡ 0 → residue k (pos (parts_of k e).low) ≡ e
unfolding residue modulus_of element_of
residue_of_low k e is h none =
    mod-eq_of_lt (are_parts k e is h).low ∙ (let s : (parts_of k e).low ≡ (parts_of k e).low + k.modulus * 0 = omega arith in s) ∙ ap (λ n. (parts_of k e).low + k.modulus * n) (sym none) ∙ element_of_parts k e

-- only in an extension is the second number not 0
pub second_number_extends : (k : FieldValue) (e : ℕ) → IsField k → IsElement k e → (parts_of k e).high ≢ 0 → IsTrue (is_extended k)
second_number_extends k e is h some = at (is_extended k) refl
  where
    at : (b : Bool) → is_extended k ≡ b → b ≡ true
    at true same = refl
    at false same = absurd (some ((are_parts k e is h).alone same))

-- both numbers are below 65,522
pub parts_bounds : (k : FieldValue) (e : ℕ) → IsField k → IsElement k e → ((parts_of k e).low < 65522) × ((parts_of k e).high < 65522)
unfolding IsField modulus_of
parts_bounds k e is h = let are : AreParts k (parts_of k e) = are_parts k e is h in let b : (1 < k.modulus) × (k.modulus < 65522) = modulus_bounds k.modulus is.0 in (omega (arith, are.low, b.1), omega (arith, are.high, b.1))
