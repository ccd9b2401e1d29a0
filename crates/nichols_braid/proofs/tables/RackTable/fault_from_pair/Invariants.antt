use Rattle.std.proofs.Common.{◌≡◌, None}
use Rattle.nichols_tensor.specs.Words.{up_to}
use Rattle.nichols_braid.specs.Faults.{first_answer}
use Rattle.nichols_braid.specs.RackLaws.{law_fault_at}
use Rattle.nichols_braid.proofs.tables.RackTable.fault_from_pair.Given as goal

abbrev pub invariant-loop-k : goal.invariant-loop-k
invariant-loop-k l = first_answer (law_fault_at l.self l.law l.i l.j) (up_to l.k) ≡ None
