use Rattle.std.proofs.Common.{◌<◌, ◌^◌, ◌%◌, ◌/◌, ℕ, refl, arith}
use Rattle.std.proofs.Math.Nat.{mod-mod, mod-lt}
use Rattle.nichols_field.specs.Pairs.{Extension}
use Rattle.nichols_field.proofs.Table.{modulus_bounds}
use Rattle.nichols_field.proofs.Pending.{parts_added}
use Rattle.nichols_field.proofs.quadratic.Quadratic.with_parts.Goals as goal

pub returns-then-high-lt-HALF_ROOM : goal.returns-then-high-lt-HALF_ROOM
returns-then-high-lt-HALF_ROOM c =
    let p : ℕ = c.self.inside.modulus in
    let t : Extension = record { a = c.self.inside.a; b = c.self.inside.b } in
    let bounds : (1 < p) × (p < 65522) = modulus_bounds p c.self.invariant.0 in
    rw (c.requires.modulus, ← c.self.view_is) (parts_added p t c.args.pending (c.args.pending % 2 ^ 32) (c.args.pending / 2 ^ 32) c.args.x c.args.y (omega (arith, bounds.0)) refl refl (omega (arith, c.requires.low, c.if-low-lt-HALF_ROOM.true)))

pub returns-else-low-lt-HALF_ROOM : goal.returns-else-low-lt-HALF_ROOM
returns-else-low-lt-HALF_ROOM c =
    let p : ℕ = c.self.inside.modulus in
    let t : Extension = record { a = c.self.inside.a; b = c.self.inside.b } in
    let bounds : (1 < p) × (p < 65522) = modulus_bounds p c.self.invariant.0 in
    let low : c.args.pending % 2 ^ 32 % p < p = mod-lt (c.args.pending % 2 ^ 32) (omega (arith, bounds.0)) in
    rw (c.from-p.ensures, c.requires.modulus, ← c.self.view_is) (parts_added p t c.args.pending (c.args.pending % 2 ^ 32 % p) (c.args.pending / 2 ^ 32 % p) c.args.x c.args.y (omega (arith, bounds.0)) (mod-mod (c.args.pending % 2 ^ 32) p) (mod-mod (c.args.pending / 2 ^ 32) p) (omega (arith, c.requires.low, low, bounds.1)))
