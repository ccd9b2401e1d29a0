use Rattle.std.proofs.Common.{◌≡◌, ◌+◌, subst, sym, arith, length}
use Rattle.nichols_crew.specs.Hands.{AreFresh}
use Rattle.nichols_crew.proofs.WorkedHands.{others_worked, without_last}
use Rattle.nichols_crew.proofs.waving.worked.Goals as goal

pub returns-clause-others : goal.returns-clause-others
returns-clause-others g c =
    let s = c.args.shelf.now in
    let n = length c.args.hands.items in
    let xs = c.as_mut_slice.result.now in
    let fresh : AreFresh s n xs = subst (AreFresh s n) (sym c.as_mut_slice.ensures.value) c.requires.hands in
    let cases = c.in-Some.ensures.cases in
    let count = c.requires.hands.count in
    let long = fresh.count in
    let kept = c.work_all.auto.hands in
    let size : length c.pop.new.self.items + 1 ≡ n = omega (arith, cases, count) in
    let same : length c.work_all.new.hands ≡ c.args.hands.len = omega (arith, kept, long, count) in
    others_worked s n xs c.work_all.new.hands c.pop.new.self.items fresh c.work_all.ensures size
    (without_last c.args.hands.len c.work_all.new.hands c.args.hands.items c.pop.new.self.items same c.pop.ensures.rest (omega (arith, cases)))

pub returns-clause-count : goal.returns-clause-count
returns-clause-count g c =
    let cases = c.in-Some.ensures.cases in
    let count = c.requires.hands.count in
    let fresh = subst (AreFresh c.args.shelf.now (length c.args.hands.items)) (sym c.as_mut_slice.ensures.value) c.requires.hands in
    let long = fresh.count in
    let kept = c.work_all.auto.hands in
    omega (arith, cases, count, long, kept)
