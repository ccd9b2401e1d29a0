use Rattle.std.proofs.Common.{◌≡◌, None}
use Rattle.nichols_tensor.specs.Words.{up_to}
use Rattle.nichols_braid.specs.Faults.{first_answer}
use Rattle.nichols_braid.specs.RackLaws.{law_fault_at}
use Rattle.nichols_braid.proofs.tables.RackTable.fault_from.Given as goal

abbrev pub invariant-loop-j : goal.invariant-loop-j
invariant-loop-j l = first_answer (λ j. first_answer (law_fault_at l.self l.law l.i j) (up_to l.self.letters)) (up_to l.j) ≡ None
