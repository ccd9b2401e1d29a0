use Rattle.std.proofs.Common.{◌<◌, ◌≤◌, ◌+◌, ◌*◌, ◌/◌, ◌%◌, ℕ, sym, arith, subst}
use Rattle.std.proofs.Math.Nat.{mod-lt}
use Rattle.std.proofs.lemmas.Nat.{mul-le}
use Rattle.nichols_field.specs.Field.{IsElement}
use Rattle.nichols_field.specs.Pairs.{Extension}
use Rattle.nichols_field.proofs.Table.{modulus_bounds}
use Rattle.nichols_field.proofs.Bounds.{parts_are_small}
use Rattle.nichols_field.proofs.FieldLaws.{high_below}
use Rattle.nichols_field.proofs.quadratic.Quadratic.unreduced.Goals as goal

pub returns-clause-small : goal.returns-clause-small
unfolding IsElement
returns-clause-small c =
    let p : ℕ = c.self.inside.modulus in
    let e : ℕ = c.args.e in
    let f : ℕ = c.args.f in
    let t : Extension = record { a = c.self.inside.a; b = c.self.inside.b } in
    let bounds : (1 < p) × (p < 65522) = modulus_bounds p c.self.invariant.0 in
    let u : e % p < p = mod-lt e (omega (arith, bounds.0)) in
    let v : e / p < p = high_below p e (subst (λ k. IsElement k e) (sym c.self.view_is) c.requires.left) in
    let x : f % p < p = mod-lt f (omega (arith, bounds.0)) in
    let y : f / p < p = high_below p f (subst (λ k. IsElement k f) (sym c.self.view_is) c.requires.right) in
    let ux : e % p * (f % p) ≤ p * p = mul-le (e % p) (f % p) p p (omega (arith, u)) (omega (arith, x)) in
    let uy : e % p * (f / p) ≤ p * p = mul-le (e % p) (f / p) p p (omega (arith, u)) (omega (arith, y)) in
    let vx : e / p * (f % p) ≤ p * p = mul-le (e / p) (f % p) p p (omega (arith, v)) (omega (arith, x)) in
    rw (c.from.ensures, c.from-2.ensures, c.from-3.ensures, c.from-4.ensures, c.from-5.ensures, c.from-6.ensures, c.from-p.ensures, c.requires.modulus, ← c.self.view_is) (λ small. (
      parts_are_small p t.b (e % p) (e / p) (f % p) (f / p) (e % p * (f % p)) small c.self.invariant.1.b u v x y (omega (arith, ux)),
      parts_are_small p t.a (e % p) (e / p) (f % p) (f / p) (e % p * (f / p) + e / p * (f % p)) small c.self.invariant.1.a u v x y (omega (arith, uy, vx)),
    ))
