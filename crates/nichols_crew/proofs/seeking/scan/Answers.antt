use Rattle.std.proofs.Common.{subst, sym, arith}
use Rattle.nichols_shelf.specs.Passes.{IsOf, view_of}
use Rattle.nichols_shelf.specs.declared.pass.Pass.{Pass}
use Rattle.nichols_crew.specs.Tasks.{IsIdleSince}
use Rattle.nichols_crew.proofs.TakenTasks.{later_claims, take_claims, take_idle}
use Rattle.nichols_crew.proofs.seeking.scan.Goals as goal
use Rattle.nichols_crew.proofs.seeking.scan.Goals.{else-seems_open-via-then-seems_open+else-take, else-seems_open-via-else-seems_open}

pub returns-then-take-clause-found : goal.returns-then-take-clause-found
returns-then-take-clause-found c =
    let g = c.args.shelf.now.plan in
    let i = c.loop-block.invariant in
    let u = view_of c.args.pass.now in
    let v = view_of c.loop-block.pass in
    let w = view_of c.take.new.pass in
    let t = c.loop-block-test.true in
    let e = c.block_count-count.ensures in (
      omega (arith, t, e),
      later_claims g c.loop-block.block u v w i.of.1 i.idle (take_claims g c.loop-block.block v w c.take.result i.of.1 i.idle.held c.take.ensures.step c.if-take.true),
    )

pub loop-block-preserved : goal.loop-block-preserved
loop-block-preserved c =
    let i = c.loop-block.invariant in
    let u = view_of c.args.pass.now in
    elim c.else-seems_open.branch [
      | else-seems_open-via-then-seems_open+else-take w ↦
          record {
            of = subst (λ (q : Pass). IsOf c.args.shelf.now q) (sym w.pass-is) w.take.ensures.pass;
            idle = subst (λ (q : Pass). IsIdleSince u (view_of q)) (sym w.pass-is) (take_idle c.loop-block.block u (view_of c.loop-block.pass) (view_of w.take.new.pass) w.take.result w.take.ensures.step w.if-take.false i.idle);
          }
      | else-seems_open-via-else-seems_open w ↦
          record {
            of = subst (λ (q : Pass). IsOf c.args.shelf.now q) (sym w.pass-is) i.of;
            idle = subst (λ (q : Pass). IsIdleSince u (view_of q)) (sym w.pass-is) i.idle;
          }
    ]
