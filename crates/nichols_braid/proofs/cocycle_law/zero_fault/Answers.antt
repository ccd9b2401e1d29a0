use Rattle.std.proofs.Common.{◌∙◌, sym}
use Rattle.nichols_tensor.specs.Words.{up_to}
use Rattle.nichols_braid.specs.Faults.{first_answer, zero_fault_at, zero_fault}
use Rattle.nichols_braid.specs.Tables.{with_scalars}
use Rattle.nichols_braid.proofs.Search.{fault-more, fault-found}
use Rattle.nichols_braid.proofs.cocycle_law.zero_fault.Goals as goal

pub returns-then-is_some : goal.returns-then-is_some
unfolding zero_fault
returns-then-is_some c =
    fault-found (λ i. first_answer (zero_fault_at (with_scalars c.args.field c.args.rack.now c.args.scalars.now) i) (up_to c.args.rack.now.letters)) c.loop-i.i c.args.rack.now.letters c.zero_fault_from-fault.result (rw (← c.rack.view_is) c.loop-i-test.true) c.loop-i.invariant c.zero_fault_from-fault.ensures (sym c.is_some.ensures ∙ c.if-is_some.true)

pub loop-i-preserved : goal.loop-i-preserved
loop-i-preserved c =
    fault-more (λ i. first_answer (zero_fault_at (with_scalars c.args.field c.args.rack.now c.args.scalars.now) i) (up_to c.args.rack.now.letters)) c.loop-i.i c.zero_fault_from-fault.result c.loop-i.invariant c.zero_fault_from-fault.ensures (sym c.is_some.ensures ∙ c.if-is_some.false)
