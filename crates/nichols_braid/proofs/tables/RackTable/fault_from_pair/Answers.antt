use Rattle.std.proofs.Common.{◌∙◌, sym}
use Rattle.nichols_braid.specs.Faults.{}
use Rattle.nichols_braid.specs.RackLaws.{law_fault_at}
use Rattle.nichols_braid.proofs.Search.{fault-more, fault-found}
use Rattle.nichols_braid.proofs.tables.RackTable.fault_from_pair.Goals as goal

pub returns-then-is_some : goal.returns-then-is_some
returns-then-is_some c =
    fault-found (law_fault_at c.args.self.now c.args.law c.args.i c.args.j) c.loop-k.k c.args.self.now.letters c.fault_at-fault.result (rw (← c.self.view_is) c.loop-k-test.true) c.loop-k.invariant c.fault_at-fault.ensures (sym c.is_some.ensures ∙ c.if-is_some.true)

pub loop-k-preserved : goal.loop-k-preserved
loop-k-preserved c =
    fault-more (law_fault_at c.args.self.now c.args.law c.args.i c.args.j) c.loop-k.k c.fault_at-fault.result c.loop-k.invariant c.fault_at-fault.ensures (sym c.is_some.ensures ∙ c.if-is_some.false)
