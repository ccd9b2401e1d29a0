use Rattle.std.proofs.Common.{◌≡◌, None}
use Rattle.nichols_tensor.specs.Words.{up_to}
use Rattle.nichols_braid.specs.Faults.{first_answer, zero_fault_at}
use Rattle.nichols_braid.specs.Tables.{with_scalars}
use Rattle.nichols_braid.proofs.cocycle_law.zero_fault.Given as goal

abbrev pub invariant-loop-i : goal.invariant-loop-i
invariant-loop-i l = first_answer (λ i. first_answer (zero_fault_at (with_scalars l.field l.rack l.scalars) i) (up_to l.rack.letters)) (up_to l.i) ≡ None
