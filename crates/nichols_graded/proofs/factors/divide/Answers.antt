use Rattle.std.proofs.Common.{ℕ, ◌+◌, ◌-◌, ap, refl, arith}
use Rattle.nichols_graded.proofs.Division.{quotient_short, divided}
use Rattle.nichols_graded.proofs.factors.divide.Goals as goal

pub returns-then-len-k : goal.returns-then-len-k
returns-then-len-k c =
    let l = c.len.ensures in
    let t = c.if-len-k.true in
    let none = quotient_short c.args.k c.args.polynomial.now.items (omega (arith, l, t)) in
    rw none refl

pub returns : goal.returns
returns c =
    let len : ℕ = c.args.polynomial.now.len in
    let l = c.len.ensures in
    let t = c.if-len-k.false in
    divided c.args.k len (c.len-2.result + 1 - c.args.k) c.args.polynomial.now.items c.as_mut_slice.result.now c.divide_in_place-exact.new.polynomial _ c.truncate.new.self.items c.divide_in_place-exact.result
    c.as_mut_slice.ensures.value c.as_mut_slice.ensures.len (omega (arith, l, t)) (ap (λ n. n + 1 - c.args.k) c.len-2.ensures) c.divide_in_place-exact.auto.polynomial c.truncate.ensures.items c.divide_in_place-exact.ensures
