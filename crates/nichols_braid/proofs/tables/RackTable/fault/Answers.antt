use Rattle.std.proofs.Common.{◌∙◌, sym}
use Rattle.nichols_braid.specs.Faults.{first_pair}
use Rattle.nichols_braid.specs.RackLaws.{law_fault_at, law_fault}
use Rattle.nichols_braid.proofs.Search.{fault-more, fault-found}
use Rattle.nichols_braid.proofs.tables.RackTable.fault.Goals as goal

pub returns-then-is_some : goal.returns-then-is_some
unfolding law_fault
returns-then-is_some c =
    fault-found (λ i. first_pair c.args.self.now.letters (law_fault_at c.args.self.now c.args.law i)) c.loop-i.i c.args.self.now.letters c.fault_from-fault.result (rw (← c.self.view_is) c.loop-i-test.true) c.loop-i.invariant c.fault_from-fault.ensures (sym c.is_some.ensures ∙ c.if-is_some.true)

pub loop-i-preserved : goal.loop-i-preserved
loop-i-preserved c =
    fault-more (λ i. first_pair c.args.self.now.letters (law_fault_at c.args.self.now c.args.law i)) c.loop-i.i c.fault_from-fault.result c.loop-i.invariant c.fault_from-fault.ensures (sym c.is_some.ensures ∙ c.if-is_some.false)
