use Rattle.std.proofs.Common.{◌≡◌, ℕ, Bool, false, not, eqb, ◌||◌, length, sym, arith, rules}
use Rattle.nichols_core.specs.Layout.{edge_at}
use Rattle.nichols_core.specs.States.{mark_at}
use Rattle.nichols_core.proofs.Stages.{every_false, true_every}
use Rattle.nichols_core.proofs.around.all_laid.Goals as goal

pub returns-then-not-laid-i : goal.returns-then-not-laid-i
returns-then-not-laid-i c =
    let p : ℕ → Bool = λ k. not (eqb (edge_at c.args.edges.now k).lower c.args.block) || mark_at c.args.laid.now k in
    let fails : p c.loop-i.i ≡ false = search rules in
    sym (every_false (length c.args.edges.now) p c.loop-i.i (omega arith) fails)

pub returns : goal.returns
returns c =
    let p : ℕ → Bool = λ k. not (eqb (edge_at c.args.edges.now k).lower c.args.block) || mark_at c.args.laid.now k in
    sym (true_every (length c.args.edges.now) p (λ k inside. c.loop-i.invariant k (omega arith)))
