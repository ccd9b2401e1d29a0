use Rattle.std.proofs.Common.{◌≡◌, ◌<◌, ◌+◌, ◌-◌, ◌*◌, ◌/◌, ◌%◌, ℕ, sym, arith, ap, ◌∙◌, subst}
use Rattle.std.proofs.Math.Nat.{mod-lt, mul_comm}
use Rattle.std.proofs.lemmas.Nat.{mul-mod_first}
use Rattle.nichols_field.specs.Field.{FieldValue, IsElement, times}
use Rattle.nichols_field.specs.Pairs.{Extension, pair, number_of}
use Rattle.nichols_field.proofs.Table.{modulus_bounds}
use Rattle.nichols_field.proofs.Bounds.{norm_fits}
use Rattle.nichols_field.proofs.Norms.{norm}
use Rattle.nichols_field.proofs.FieldLaws.{high_below, norm_above, reciprocal_pair}
use Rattle.nichols_field.proofs.quadratic.QuadraticGround.inv.Goals as goal

pub overflow_add-norm : goal.overflow_add-norm
unfolding IsElement
overflow_add-norm c =
    let p : ℕ = c.self.inside.modulus in
    let e : ℕ = c.args.e in
    let t : Extension = record { a = c.self.inside.a; b = c.self.inside.b } in
    let bounds : (1 < p) × (p < 65522) = modulus_bounds p c.self.invariant.0 in
    let element : e < p * p = subst (λ k. IsElement k e) (sym c.self.view_is) c.requires.operand in
    let high : e / p < p = high_below p e element in
    rw (c.from.ensures, c.from-2.ensures, c.from-3.ensures, c.from-4.ensures, c.from-p.ensures)
    (omega (arith, norm_fits p t.a t.b (e % p) (e / p) (p - e / p) c.self.invariant.0 c.self.invariant.1.a c.self.invariant.1.b (mod-lt e (omega (arith, bounds.0))) high (omega arith)))

pub inv-requires-clause-nonzero : goal.inv-requires-clause-nonzero
unfolding IsElement
inv-requires-clause-nonzero c =
    let p : ℕ = c.self.inside.modulus in
    let e : ℕ = c.args.e in
    let t : Extension = record { a = c.self.inside.a; b = c.self.inside.b } in
    let element : e < p * p = subst (λ k. IsElement k e) (sym c.self.view_is) c.requires.operand in
    let above : 0 < norm p t (e % p) (e / p) (p - e / p) % p = norm_above p t e c.self.invariant.0 c.self.invariant.1 element c.requires.nonzero in
    rw (c.from.ensures, c.from-2.ensures, c.from-3.ensures, c.from-4.ensures, c.from-p.ensures) (λ z. absurd (omega (arith, above, z)))

pub returns-clause-inverse : goal.returns-clause-inverse
unfolding IsElement times
returns-clause-inverse c =
    let p : ℕ = c.self.inside.modulus in
    let e : ℕ = c.args.e in
    let t : Extension = record { a = c.self.inside.a; b = c.self.inside.b } in
    let bounds : (1 < p) × (p < 65522) = modulus_bounds p c.self.invariant.0 in
    let element : e < p * p = subst (λ k. IsElement k e) (sym c.self.view_is) c.requires.operand in
    let n : ℕ = norm p t (e % p) (e / p) (p - e / p) in
    let f : ℕ = c.inv.result in
    let one : (n % p * f) % p ≡ 1 =
    subst (λ (k : FieldValue). times k (n % p) f ≡ 1) c.of.ensures (rw (c.from.ensures, c.from-2.ensures, c.from-3.ensures, c.from-4.ensures, c.from-p.ensures) at c.inv.ensures.inverse) in
    let known : (f * n) % p ≡ 1 = ap (λ m. m % p) (mul_comm f n) ∙ sym (mul-mod_first n f p) ∙ one in
    let result : c.number.result ≡ number_of p (pair (((e % p + t.a * (e / p)) * f) % p) (((p - e / p) * f) % p)) =
    (rw (c.from.ensures, c.from-2.ensures, c.from-3.ensures, c.from-p.ensures, c.from-factor.ensures) at c.number.ensures.value) in
    ap (times c.args.self e) result
    ∙ rw (← c.self.view_is) (reciprocal_pair p t e f bounds.0 element known)
