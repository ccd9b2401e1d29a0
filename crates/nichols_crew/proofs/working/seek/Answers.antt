use Rattle.std.proofs.Common.{◌≡◌, ◌+◌, ◌-◌, ◌<◌, subst, sym, arith, ℕ}
use Rattle.nichols_shelf.specs.Plan.{PlanValue}
use Rattle.nichols_shelf.specs.Places.{blocks}
use Rattle.nichols_shelf.specs.Passes.{view_of}
use Rattle.nichols_crew.specs.Kept.{most_takes, remaining}
use Rattle.nichols_crew.specs.Owing.{count_below}
use Rattle.nichols_crew.proofs.KeptLists.{kept_same}
use Rattle.nichols_crew.proofs.TakenTasks.{counts_none, done_steady, idle_counts}
use Rattle.nichols_crew.proofs.working.seek.Goals as goal

pub returns-in_default-clause-kept : goal.returns-in_default-clause-kept
returns-in_default-clause-kept g c =
    let i = c.in_default.ensures.found in
    kept_same c.args.shelf.now.plan (view_of c.args.pass.now) (view_of c.scan.new.pass) c.args.made.now.items i.made i.laid c.requires.kept

pub returns-in_default-clause-progress : goal.returns-in_default-clause-progress
returns-in_default-clause-progress g c =
    let p = c.args.shelf.now.plan in
    let i = c.in_default.ensures.found in
    let new : count_below (blocks p) (view_of c.scan.new.pass).owed ≡ 0 = counts_none (blocks p) (view_of c.scan.new.pass).owed (λ b inside. i.owed b (subst (λ (q : PlanValue). b < blocks q) (sym c.scan.ensures.pass.1) inside)) in
    let old : count_below (blocks p) (view_of c.args.pass.now).owed ≡ 0 = counts_none (blocks p) (view_of c.args.pass.now).owed (λ b inside. c.requires.owes b (subst (λ (q : PlanValue). b < blocks q) (sym c.requires.pass.1) inside)) in
    let scans = c.if-counts-eq-MOST_SCANS.false in
    let most = c.requires.counts.1 in
    omega (arith, new, old, scans, most)

pub tend-published-requires-clause-kept : goal.tend-published-requires-clause-kept
tend-published-requires-clause-kept g c =
    let k = c.in-Some.ensures.found.1 in
    kept_same c.args.shelf.now.plan (view_of c.args.pass.now) (view_of c.scan.new.pass) c.args.made.now.items k.made k.laid c.requires.kept

pub returns-clause-progress : goal.returns-clause-progress
returns-clause-progress g c =
    let p = c.args.shelf.now.plan in
    let k = c.in-Some.ensures.found.1 in
    let steady = done_steady p c.args.made.now.items c.tend-published.new.made.items (view_of c.args.pass.now) (view_of c.scan.new.pass) (view_of c.tend-published.new.pass) c.tend-published.result
    (idle_counts p (view_of c.args.pass.now) (view_of c.scan.new.pass) c.requires.pass.1 c.requires.owes k.owed) c.tend-published.ensures.done in
    let strange = c.if-counts-block_count.false in
    let count = c.block_count.ensures in
    let most = c.requires.counts.0 in
    falls (remaining p c.tend-published.new.made.items (view_of c.tend-published.new.pass)) (remaining p c.args.made.now.items (view_of c.args.pass.now)) (most_takes p) c.args.counts.now.strangers (256 - c.args.counts.now.scans) steady (omega (arith, strange, count, most))
  where
    falls : (r s n k x : ℕ) → Rattle.std.proofs.Common.◌≤◌ r s → k < n → r + (n - (k + 1)) + x < s + (n - k) + x
    falls r s n k x a b = omega (arith, a, b)
