use Rattle.std.proofs.Common.{◌≡◌, None}
use Rattle.nichols_tensor.specs.Words.{up_to}
use Rattle.nichols_braid.specs.Faults.{first_answer, first_pair}
use Rattle.nichols_braid.specs.RackLaws.{law_fault_at}
use Rattle.nichols_braid.proofs.tables.RackTable.fault.Given as goal

abbrev pub invariant-loop-i : goal.invariant-loop-i
invariant-loop-i l = first_answer (λ i. first_pair l.self.letters (law_fault_at l.self l.law i)) (up_to l.i) ≡ None
