use Rattle.std.proofs.Common.{◌≡◌, ◌*◌, ◌≤◌, length, replicate, sym, ◌∙◌, ap, subst, arith, rules}
use Rattle.std.proofs.Math.Nat.{mul-le-mul}
use Rattle.nichols_braid.specs.Braid.{IsBraid}
use Rattle.nichols_braid.proofs.PointsBraid.{count, is_made}
use Rattle.nichols_braid.proofs.PointsLaws.{counts, points_are_braids}
use Rattle.nichols_braid.proofs.braid.Braid.points.Goals as goal

pub conjugates-requires : goal.conjugates-requires
conjugates-requires c =
    let h : (1 ≤ count c.args.k) × (count c.args.k ≤ 21) = counts c.args.k c.requires.least c.requires.most in
    let same : length c.as_slice.result.now ≡ count c.args.k = ap length (c.as_slice.ensures.value ∙ c.in_ok-all.ensures) in
    omega arith

pub overflow_mul-letters : goal.overflow_mul-letters
overflow_mul-letters c =
    let h : (1 ≤ count c.args.k) × (count c.args.k ≤ 21) = counts c.args.k c.requires.least c.requires.most in
    let same : length c.in_ok-all.all.items ≡ count c.args.k = ap length c.in_ok-all.ensures in
    let most : c.len-letters.result ≤ 21 = search rules in
    let square : c.len-letters.result * c.len-letters.result ≤ 21 * 21 = mul-le-mul most most in
    search rules

pub overflow_cast-result : goal.overflow_cast-result
overflow_cast-result c =
    let h : (1 ≤ count c.args.k) × (count c.args.k ≤ 21) = counts c.args.k c.requires.least c.requires.most in
    let same : length c.in_ok-all.all.items ≡ count c.args.k = ap length c.in_ok-all.ensures in
    let most : c.len-letters.result ≤ 21 = search rules in
    search rules

pub returns : goal.returns
returns c =
    is_made c.args.k c.field_of_points.result c.len-letters.result c.as_slice.result.now c.in_ok-rack.rack.items c.in_ok-cocycle.cocycle.items
    (c.as_slice.ensures.value ∙ c.in_ok-all.ensures) c.field_of_points.ensures
    (let size : c.len-letters.result ≡ length c.as_slice.result.now = search rules in size)
    c.in_ok-rack.ensures
    (let scalars : c.in_ok-cocycle.cocycle.items ≡ replicate (c.len-letters.result * c.len-letters.result) 100 = search rules in scalars)

pub invariant_of-result : goal.invariant_of-result
invariant_of-result c =
    subst IsBraid
    (sym (is_made c.args.k c.field_of_points.result c.len-letters.result c.as_slice.result.now c.in_ok-rack.rack.items c.in_ok-cocycle.cocycle.items
    (c.as_slice.ensures.value ∙ c.in_ok-all.ensures) c.field_of_points.ensures
    (let size : c.len-letters.result ≡ length c.as_slice.result.now = search rules in size)
    c.in_ok-rack.ensures
    (let scalars : c.in_ok-cocycle.cocycle.items ≡ replicate (c.len-letters.result * c.len-letters.result) 100 = search rules in scalars)))
    (points_are_braids c.args.k c.requires.least c.requires.most)
