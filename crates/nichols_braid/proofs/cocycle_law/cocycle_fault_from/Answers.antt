use Rattle.std.proofs.Common.{◌∙◌, sym}
use Rattle.nichols_tensor.specs.Words.{up_to}
use Rattle.nichols_braid.specs.Faults.{first_answer, cocycle_fault_at}
use Rattle.nichols_braid.specs.Tables.{with_scalars}
use Rattle.nichols_braid.proofs.Search.{fault-more, fault-found}
use Rattle.nichols_braid.proofs.cocycle_law.cocycle_fault_from.Goals as goal

pub returns-then-is_some : goal.returns-then-is_some
returns-then-is_some c =
    fault-found (λ j. first_answer (cocycle_fault_at (with_scalars c.args.field c.args.rack.now c.args.scalars.now) c.args.i j) (up_to c.args.rack.now.letters)) c.loop-j.j c.args.rack.now.letters c.cocycle_fault_from_pair-fault.result (rw (← c.rack.view_is) c.loop-j-test.true) c.loop-j.invariant c.cocycle_fault_from_pair-fault.ensures (sym c.is_some.ensures ∙ c.if-is_some.true)

pub loop-j-preserved : goal.loop-j-preserved
loop-j-preserved c =
    fault-more (λ j. first_answer (cocycle_fault_at (with_scalars c.args.field c.args.rack.now c.args.scalars.now) c.args.i j) (up_to c.args.rack.now.letters)) c.loop-j.j c.cocycle_fault_from_pair-fault.result c.loop-j.invariant c.cocycle_fault_from_pair-fault.ensures (sym c.is_some.ensures ∙ c.if-is_some.false)
