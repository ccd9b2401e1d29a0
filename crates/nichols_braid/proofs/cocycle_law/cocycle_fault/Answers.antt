use Rattle.std.proofs.Common.{◌∙◌, sym}
use Rattle.nichols_braid.specs.Faults.{first_pair, cocycle_fault_at, cocycle_fault}
use Rattle.nichols_braid.specs.Tables.{with_scalars}
use Rattle.nichols_braid.proofs.Search.{fault-more, fault-found}
use Rattle.nichols_braid.proofs.cocycle_law.cocycle_fault.Goals as goal

pub returns-then-is_some : goal.returns-then-is_some
unfolding cocycle_fault
returns-then-is_some c =
    fault-found (λ i. first_pair c.args.rack.now.letters (cocycle_fault_at (with_scalars c.args.field c.args.rack.now c.args.scalars.now) i)) c.loop-i.i c.args.rack.now.letters c.cocycle_fault_from-fault.result (rw (← c.rack.view_is) c.loop-i-test.true) c.loop-i.invariant c.cocycle_fault_from-fault.ensures (sym c.is_some.ensures ∙ c.if-is_some.true)

pub loop-i-preserved : goal.loop-i-preserved
loop-i-preserved c =
    fault-more (λ i. first_pair c.args.rack.now.letters (cocycle_fault_at (with_scalars c.args.field c.args.rack.now c.args.scalars.now) i)) c.loop-i.i c.cocycle_fault_from-fault.result c.loop-i.invariant c.cocycle_fault_from-fault.ensures (sym c.is_some.ensures ∙ c.if-is_some.false)
