use Rattle.std.proofs.Common.{ap, refl}
use Rattle.nichols_shelf.specs.Passes.{view_of}
use Rattle.nichols_shelf.specs.declared.view.View.{View}
use Rattle.nichols_crew.proofs.KeptLists.{kept_same}
use Rattle.nichols_crew.proofs.TakenTasks.{done_less, take_counts}
use Rattle.nichols_crew.proofs.working.serve.Goals as goal

pub tend-published-requires-clause-kept : goal.tend-published-requires-clause-kept
tend-published-requires-clause-kept g c =
    let s = c.take.ensures.step in
    kept_same c.args.shelf.now.plan (view_of c.args.pass.now) (view_of c.take.new.pass) c.args.made.now.items (ap (λ (x : View). x.made) s.view) (ap (λ (x : View). x.laid) s.view) c.requires.kept

pub returns-then-take-clause-progress : goal.returns-then-take-clause-progress
returns-then-take-clause-progress g c =
    let p = c.args.shelf.now.plan in
    done_less p c.args.made.now.items c.tend-published.new.made.items (view_of c.args.pass.now) (view_of c.take.new.pass) (view_of c.tend-published.new.pass) c.tend-published.result
    (take_counts p c.args.block (view_of c.args.pass.now) (view_of c.take.new.pass) c.take.result c.requires.block c.requires.owed c.take.ensures.step) c.tend-published.ensures.done

pub returns-else-take-clause-kept : goal.returns-else-take-clause-kept
returns-else-take-clause-kept g c =
    let s = c.take.ensures.step in
    kept_same c.args.shelf.now.plan (view_of c.args.pass.now) (view_of c.take.new.pass) c.args.made.now.items (ap (λ (x : View). x.made) s.view) (ap (λ (x : View). x.laid) s.view) c.requires.kept

pub returns-else-take-clause-progress : goal.returns-else-take-clause-progress
returns-else-take-clause-progress g c =
    let p = c.args.shelf.now.plan in
    let n = take_counts p c.args.block (view_of c.args.pass.now) (view_of c.take.new.pass) c.take.result c.requires.block c.requires.owed c.take.ensures.step in
    done_less p c.args.made.now.items c.args.made.now.items (view_of c.args.pass.now) (view_of c.take.new.pass) (view_of c.take.new.pass) Rattle.std.proofs.Common.false n (refl, refl)
