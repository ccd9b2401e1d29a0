use Rattle.std.proofs.Common.{rules, ◌++◌, ◌∷◌, []}
use Rattle.std.proofs.lemmas.List.Elements.{All-push, All-same}
use Rattle.nichols_shelf.specs.Passes.{IsOf}
use Rattle.nichols_steps.specs.declared.phases.Worked.{Worked}
use Rattle.nichols_steps.proofs.crew.split.Goals as goal

pub loop-worker-preserved : goal.loop-worker-preserved
loop-worker-preserved c =
    let shelf = c.args.pairs.now.shelf in
    let new = c.in_ok-fresh.field-0 in
    let old = c.loop-worker.others.items in
    record {
      zero = search rules;
      fresh = search rules;
      count = search rules;
      others = All-same (λ (w : Worked). IsOf shelf w.hand.pass) c.push.new.self.items (old ++ new ∷ []) c.in_ok-push.ensures.items
          (All-push (λ (w : Worked). IsOf shelf w.hand.pass) old new c.loop-worker.invariant.others c.in_ok-fresh.ensures.0);
    }
