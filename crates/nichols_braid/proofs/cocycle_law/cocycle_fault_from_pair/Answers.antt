use Rattle.std.proofs.Common.{◌∙◌, sym}
use Rattle.nichols_braid.specs.Faults.{cocycle_fault_at}
use Rattle.nichols_braid.specs.Tables.{with_scalars}
use Rattle.nichols_braid.proofs.Search.{fault-more, fault-found}
use Rattle.nichols_braid.proofs.cocycle_law.cocycle_fault_from_pair.Goals as goal

pub returns-then-is_some : goal.returns-then-is_some
returns-then-is_some c =
    fault-found (cocycle_fault_at (with_scalars c.args.field c.args.rack.now c.args.scalars.now) c.args.i c.args.j) c.loop-k.k c.args.rack.now.letters c.cocycle_fault_at-fault.result (rw (← c.rack.view_is) c.loop-k-test.true) c.loop-k.invariant c.cocycle_fault_at-fault.ensures (sym c.is_some.ensures ∙ c.if-is_some.true)

pub loop-k-preserved : goal.loop-k-preserved
loop-k-preserved c =
    fault-more (cocycle_fault_at (with_scalars c.args.field c.args.rack.now c.args.scalars.now) c.args.i c.args.j) c.loop-k.k c.cocycle_fault_at-fault.result c.loop-k.invariant c.cocycle_fault_at-fault.ensures (sym c.is_some.ensures ∙ c.if-is_some.false)
