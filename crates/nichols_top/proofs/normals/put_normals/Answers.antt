use Rattle.std.proofs.Common.{◌∙◌, arith, refl}
use Rattle.std.proofs.lemmas.Result.{err_from_is_err_and}
use Rattle.nichols_top.specs.NormalLine.{normal_piece}
use Rattle.nichols_top.proofs.Numbered.{IsAt, numbered_start, numbered_put, numbered_breaks, numbered_whole}
use Rattle.nichols_top.proofs.normals.put_normals.Goals as goal

pub loop-normal-init : goal.loop-normal-init
loop-normal-init g c = record { same_sink = refl; number = refl; taken = numbered_start (normal_piece c.args.told c.args.field c.args.order.now) 1 c.args.normals.now }

pub returns-in_err-put_normal-clause-pieces : goal.returns-in_err-put_normal-clause-pieces
returns-in_err-put_normal-clause-pieces g c =
    let p = err_from_is_err_and c.from_residual.result c.from_residual.ensures.1 in
    let at : IsAt 1 c.args.normals.now c.loop-normal.normal-index c.loop-normal.number c.normal-item.result =
    record { less = c.loop-normal-test.true; item = c.normal-item.is; number = c.loop-normal.invariant.number } in
    rw (p.1, p.2) (numbered_breaks (normal_piece c.args.told c.args.field c.args.order.now) 1 c.args.normals.now c.loop-normal.normal-index c.loop-normal.number c.normal-item.result at c.loop-normal.invariant.taken c.in_err-put_normal.ensures.piece)

pub loop-normal-preserved : goal.loop-normal-preserved
loop-normal-preserved g c =
    let at : IsAt 1 c.args.normals.now c.loop-normal.normal-index c.loop-normal.number c.normal-item.result =
    record { less = c.loop-normal-test.true; item = c.normal-item.is; number = c.loop-normal.invariant.number } in
    record {
      same_sink = c.in_ok-put_normal.ensures.same_sink ∙ c.loop-normal.invariant.same_sink;
      number = omega (arith, c.loop-normal.invariant.number);
      taken = numbered_put (normal_piece c.args.told c.args.field c.args.order.now) 1 c.args.normals.now c.loop-normal.normal-index c.loop-normal.number c.normal-item.result at c.loop-normal.invariant.taken c.in_ok-put_normal.ensures.piece;
    }

pub returns-clause-pieces : goal.returns-clause-pieces
returns-clause-pieces g c = numbered_whole (normal_piece c.args.told c.args.field c.args.order.now) 1 c.args.normals.now c.loop-normal.normal-index (omega arith) c.loop-normal.invariant.taken
